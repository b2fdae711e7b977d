-- `table_check::outcome_with` meets its contract: what `first_fault` finds decides the outcome. Assumes nothing.
use mathlib.Core.Path.{refl}
use Rattle.page.proofs.ExitLaws.{exit-is}
use Rattle.table_check.proofs.outcome_with.Goals as goal

pub returns-in_err-first_fault : goal.returns-in_err-first_fault
returns-in_err-first_fault c =
    rw (exit-is _ _ c.from_residual.ensures)
    (record { found = c.first_fault.result; finds = c.first_fault.ensures; is = rw c.in_err-first_fault.was refl })

pub returns : goal.returns
returns c =
    record {
      found = c.first_fault.result;
      finds = c.first_fault.ensures;
      is = rw c.in_ok-first_fault.was refl;
    }
