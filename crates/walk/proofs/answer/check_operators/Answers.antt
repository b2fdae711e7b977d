-- `walk::answer::check_operators` meets its contract: the outcome
-- is the definition's, and demand 3 holds of that. Assumes nothing.
use Rattle.walk.proofs.CheckLaws.{operators-meets}
use Rattle.walk.proofs.answer.check_operators.Goals as goal

pub returns : goal.returns
returns c =
    operators-meets c.args.page.now c.outcome_by.ensures
