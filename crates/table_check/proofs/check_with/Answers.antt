-- `table_check::check_with` meets its contract: the walk's tables say where the records stand that it accepted,
-- `reached` adds the one that it refused, and the first fault among them decides. The laws stand in `OutcomeLaws`.
-- Assumes nothing.
use Rattle.table_check.proofs.OutcomeLaws.{accepts-standing, refuses-standing, refuses-inside, accepted-with}
use Rattle.table_check.proofs.OutcomeLaws.{refused-with}
use Rattle.table_check.proofs.check_with.Goals as goal

pub outcome_with-requires : goal.outcome_with-requires
outcome_with-requires c =
    accepts-standing (rw c.in-Ok.is at c.walk.ensures.says)

pub reached-count-requires : goal.reached-count-requires
reached-count-requires c =
    record {
      sized = (
        (rw c.in-Err.is at c.walk.ensures.says).tables.starts-size,
        refuses-inside (rw c.in-Err.is at c.walk.ensures.says),
      );
      known = refuses-standing (rw c.in-Err.is at c.walk.ensures.says);
    }

pub returns-in-Ok : goal.returns-in-Ok
returns-in-Ok c =
    accepted-with (rw c.in-Ok.is at c.walk.ensures.says) c.outcome_with.ensures

pub returns-in-Err : goal.returns-in-Err
returns-in-Err c =
    refused-with (rw c.in-Err.is at c.walk.ensures.says)
    c.reached-count.ensures c.outcome_with-in-Err.ensures
