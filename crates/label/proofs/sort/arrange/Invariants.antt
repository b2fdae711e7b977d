-- `label::sort::arrange` meets its contract. Invariant: those from i on are in order, those before are as they were.
-- Assumes nothing.
use Rattle.label.proofs.SortLaws.{Arranged}
use Rattle.label.proofs.sort.arrange.Given as goal

abbrev pub invariant-loop-i : goal.invariant-loop-i
invariant-loop-i l =
    Arranged l.page l.initial.order l.order l.i
