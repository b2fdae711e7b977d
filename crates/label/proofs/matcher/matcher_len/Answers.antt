-- `label::matcher::matcher_len` meets its contract: name, operator and value. Assumes nothing.
use Rattle.records.specs.Answers.{matcher_on}
use Rattle.label.proofs.JoinLaws.{matcher-measured}
use Rattle.label.proofs.matcher.matcher_len.Goals as goal

pub returns : goal.returns
returns c =
    matcher-measured (matcher_on c.args.page.now c.args.matcher) _ _ _ _ _ _ _ _
    c.text_at.ensures c.label_len-name.ensures c.text_at-2.ensures
    c.quoted_len-value.ensures c.operator_count-token.ensures c.capped_add.ensures c.capped_add-2.ensures
