-- `leaves::decimal::decimal_len` meets its contract. The loop's invariant: the digits counted and those of `left` are
-- those of n, and one more. Assumes nothing.
use Prim.Native.Nat.{◌+◌, ◌≤◌}
use mathlib.Core.Path.{◌≡◌}
use lib.ListN.{length}
use Rattle.leaves.specs.Decimal.{decimal}
use Rattle.leaves.proofs.decimal.decimal_len.Given as goal

abbrev pub invariant-loop-left : goal.invariant-loop-left
invariant-loop-left l =
    (l.count + length (decimal l.left) ≡ length (decimal l.n) + 1) × (l.count + l.left ≤ l.n + 1)

abbrev pub decreases-loop-left : goal.decreases-loop-left
decreases-loop-left l =
    l.left
