-- `judge::modifier::judge_binary` meets its contract by the facts of the modifier. Assumes nothing.
use mathlib.Core.Path.{◌∙◌}
use Rattle.records.specs.Answers.{kind_of}
use Rattle.judge.proofs.ModifierLaws.{judge_sides-facts}
use Rattle.judge.proofs.modifier.judge_binary.Goals as goal

pub returns : goal.returns
returns c =
    c.judge_sides.ensures
    ∙ judge_sides-facts c.facts.ensures c.args.code (kind_of c.args.left)
    (kind_of c.args.right)
