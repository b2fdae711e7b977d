-- `page::utf8::is_utf8` meets its contract. The loop's invariant: what is left of the text decides. Assumes nothing.
use Rattle.page.specs.Utf8.{is_utf8}
use lib.ListN.{length, drop}
use mathlib.Core.Path.{◌≡◌}
use Prim.Native.Nat.{◌-◌}
use Rattle.page.proofs.utf8.is_utf8.Given as goal

abbrev pub invariant-loop-i : goal.invariant-loop-i
invariant-loop-i l =
    is_utf8 l.text ≡ is_utf8 (drop l.i l.text)

abbrev pub decreases-loop-i : goal.decreases-loop-i
decreases-loop-i l =
    length l.text - l.i
