-- `judge::modifier::is_joint` meets its contract: without `on` there is no list that a label could be in. Assumes
-- nothing.
use Rattle.records.specs.Answers.{cardinality_on}
use Rattle.ast.specs.CheckAst.{group_labels}
use Rattle.judge.proofs.ModifierLaws.{none_in}
use Rattle.judge.proofs.modifier.is_joint.Goals as goal

pub returns-in-None : goal.returns-in-None
returns-in-None c =
    rw c.in-None.is
    (none_in (group_labels (cardinality_on c.args.page.now c.args.card)))

pub returns-in-Some-Exclude : goal.returns-in-Some-Exclude
returns-in-Some-Exclude c =
    let inner = rw c.in-Some-Exclude.is at c.in-Some-Exclude.field-0-is in
    rw (c.in-Some-Exclude.is, inner)
    (none_in (group_labels (cardinality_on c.args.page.now c.args.card)))
