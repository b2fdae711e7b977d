-- `table_check::asked::first_fault` meets its contract. Invariant: the records so far have no fault beside any
-- functions that the table holds (`Faultless`). The laws stand in `AskedLaws`. Assumes nothing.
use Rattle.table_check.proofs.AskedLaws.{Faultless}
use Rattle.table_check.proofs.asked.first_fault.Given as goal

abbrev pub invariant-loop-index : goal.invariant-loop-index
invariant-loop-index l = Faultless l.page l.table l.index
