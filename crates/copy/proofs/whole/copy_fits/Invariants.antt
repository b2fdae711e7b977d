-- `copy::whole::copy_fits` meets its contract. Invariant: the copy fits the room where what is left of it fits what is
-- left of the room.
-- The measure is the records left. Assumes nothing.
use Prim.Native.Nat.{◌-◌}
use mathlib.Core.Path.{◌≡◌}
use lib.Dec.{leb}
use lib.ListN.{length}
use Rattle.copy.specs.Starts.{copy_from}
use Rattle.copy.specs.Copy.{copy_page}
use Rattle.copy.proofs.whole.copy_fits.Given as goal

abbrev pub invariant-loop-i : goal.invariant-loop-i
invariant-loop-i l =
    leb (length (copy_page l.page)) l.room ≡ leb (length (copy_from l.page l.i)) l.left

abbrev pub decreases-loop-i : goal.decreases-loop-i
decreases-loop-i l =
    l.n - l.i
