-- `walk::answer::check` meets its contract: a check without rules is document 01's. Assumes nothing.
use Rattle.walk.proofs.CheckLaws.{check-meets}
use Rattle.walk.proofs.answer.check.Goals as goal

pub returns : goal.returns
returns c =
    check-meets c.args.page.now c.outcome_by.ensures
