-- `label::sort::place` meets its contract. Invariant: the item is still to be put among those after j. The measure is
-- the places left. Assumes nothing.
use Prim.Native.Nat.{◌-◌}
use lib.ListN.{length}
use Rattle.label.proofs.SortLaws.{Placing}
use Rattle.label.proofs.sort.place.Given as goal

abbrev pub invariant-loop-j : goal.invariant-loop-j
invariant-loop-j l =
    Placing l.page l.item l.at l.initial.order l.order l.j

abbrev pub decreases-loop-j : goal.decreases-loop-j
decreases-loop-j l =
    length l.initial.order - l.j
