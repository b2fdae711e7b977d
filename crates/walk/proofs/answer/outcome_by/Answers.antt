-- `walk::answer::outcome_by` meets its contract: the outcome is what the walk says. Assumes nothing.
use Rattle.page.proofs.ExitLaws.{exit-is}
use Rattle.walk.proofs.CheckLaws.{accepted-outcome, refused-outcome}
use Rattle.walk.proofs.answer.outcome_by.Goals as goal

pub returns : goal.returns
returns c =
    accepted-outcome c.in_ok-walked.ensures.says

pub returns-in_err-walked : goal.returns-in_err-walked
returns-in_err-walked c =
    rw (exit-is _ _ c.from_residual.ensures) (refused-outcome c.in_err-walked.ensures.says)
