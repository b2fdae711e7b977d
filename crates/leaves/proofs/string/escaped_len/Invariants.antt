-- `leaves::string::escaped_len` meets its contract. The loop's invariant: the count and what is left come to the whole
-- length; two at most for each byte. Assumes nothing.
use Prim.Native.Nat.{◌+◌, ◌*◌, ◌≤◌}
use mathlib.Core.Path.{◌≡◌}
use lib.ListN.{length, drop}
use Rattle.leaves.specs.Escape.{escape}
use Rattle.leaves.proofs.string.escaped_len.Given as goal

abbrev pub invariant-loop-b : goal.invariant-loop-b
invariant-loop-b l =
    (l.count + length (escape (drop l.b-index l.text)) ≡ length (escape l.text)) × (l.count ≤ 2 * l.b-index)
