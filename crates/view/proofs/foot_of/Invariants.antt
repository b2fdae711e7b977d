-- `view::foot_of` meets its contract. Invariant: the records passed are attached of one node with record j. The measure
-- is j. Assumes nothing.
use Rattle.view.specs.View.{Chained}
use Rattle.view.proofs.foot_of.Given as goal

abbrev pub invariant-loop-j : goal.invariant-loop-j
invariant-loop-j l =
    Chained l.page l.starts l.i l.j

abbrev pub decreases-loop-j : goal.decreases-loop-j
decreases-loop-j l =
    l.j
