-- `heads::head::put_aggregator` meets its contract: the word, and the grouping. Assumes nothing.
use mathlib.Core.Path.{refl}
use Rattle.base.proofs.SpliceLaws.{begin, step, finish, cut-last}
use Rattle.records.specs.Answers.{label_modifier_on}
use Rattle.heads.proofs.HeadLaws.{aggregator-cut}
use Rattle.heads.proofs.head.put_aggregator.Goals as goal

pub returns : goal.returns
returns c =
    finish (step (step (begin _ _ _ c.requires.room)
    (aggregator-cut c.args.code
    (label_modifier_on c.args.page.now c.args.grouping))
    c.put_token-behind.ensures) (cut-last _) c.put_grouping.ensures) refl
