-- `page::ascii::ascii_from` meets its contract. The loop's invariant: the position lies in the text, and what is left
-- from there decides. Assumes nothing.
use Rattle.page.specs.Text.{is_ascii}
use lib.ListN.{length, drop}
use mathlib.Core.Path.{◌≡◌}
use Prim.Native.Nat.{◌-◌, ◌≤◌}
use Rattle.page.proofs.ascii.ascii_from.Given as goal

abbrev pub invariant-loop-i : goal.invariant-loop-i
invariant-loop-i l =
    (l.i ≤ length l.text) × (is_ascii (drop l.from l.text) ≡ is_ascii (drop l.i l.text))

abbrev pub decreases-loop-i : goal.decreases-loop-i
decreases-loop-i l =
    length l.text - l.i
