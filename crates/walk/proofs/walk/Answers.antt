-- `walk::walk` meets its contract: a check without rules is document 01's. Assumes nothing.
use Rattle.ast.proofs.RulesLaws.{check_page_by-plain}
use Rattle.walk.proofs.walk.Goals as goal

pub returns : goal.returns
returns c =
    rw (check_page_by-plain c.args.page.now) at c.walk_by.ensures
