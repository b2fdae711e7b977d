-- `rules::aggregate::judge_aggregate` meets its contract: the count of arguments, then the kinds at the top of the
-- stack (`AggregateLaws`). Assumes nothing.
use mathlib.Core.Path.{sym, ap, ◌∙◌}
use lib.Dec.{eqb}
use Rattle.ast.specs.Operand.{operand_kind}
use Rattle.rules.proofs.AggregateLaws.{parameter-other, parameter-two, plain_other, plain-one}
use Rattle.rules.proofs.aggregate.judge_aggregate.Goals as goal

pub returns-then-count-ne2 : goal.returns-then-count-ne2
returns-then-count-ne2 c =
    parameter-other (eqb c.args.rule 42) c.args.code _ _ c.requires
    (sym c.has_parameter.ensures ∙ c.if-has_parameter.true)
    c.if-count-eq0.false c.if-count-ne2.true

pub returns-then-has_parameter : goal.returns-then-has_parameter
returns-then-has_parameter c =
    c.judge_operand.ensures
    ∙ parameter-two (eqb c.args.rule 42) c.args.code _ _ c.requires
    (sym c.has_parameter.ensures ∙ c.if-has_parameter.true) c.if-count-ne2.false
    (c.kind_of-parameter.ensures ∙ ap operand_kind c.operand.ensures)
    (c.kind_of-operand.ensures ∙ ap operand_kind c.operand-then-has_parameter.ensures)

pub returns-then-count-ne1 : goal.returns-then-count-ne1
returns-then-count-ne1 c =
    plain_other (eqb c.args.rule 42) c.args.code _ _ c.requires (sym c.has_parameter.ensures ∙ c.if-has_parameter.false)
    c.if-count-eq0.false c.if-count-ne1.true

pub returns : goal.returns
returns c =
    c.judge_operand-2.ensures
    ∙ plain-one (eqb c.args.rule 42) c.args.code _ _ c.requires
    (sym c.has_parameter.ensures ∙ c.if-has_parameter.false) c.if-count-ne1.false
    (c.kind_of-operand-2.ensures ∙ ap operand_kind c.operand-2.ensures)
