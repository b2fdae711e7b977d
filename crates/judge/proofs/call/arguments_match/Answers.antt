use mathlib.Core.Path.{sym, ap, ◌∙◌}
use native.Mathlib.Omega.{arith}
use borrow.Author.Tests.{not-true, not-false}
use Rattle.ast.specs.Operand.{operand_kind}
use Rattle.records.specs.Answers.{kind_of, kinds_on}
use Rattle.records.specs.Kind.{equal_kind}
use Rattle.judge.proofs.DeclaredLaws.{match-other, match-more, match_none}
use mathlib.Core.Bool.{not}
use Rattle.judge.proofs.call.arguments_match.Goals as goal

pub returns-in_default : goal.returns-in_default
returns-in_default c =
    match_none _ c.loop-i.i (omega arith) (omega arith)
    (kinds_on c.args.page.now c.loop-i.at c.loop-i.more) c.loop-i.invariant
    (rw c.in_default.is at c.next_kind.ensures)

pub returns-then-not-same_kind : goal.returns-then-not-same_kind
returns-then-not-same_kind c =
    let is = c.same_kind.ensures
    ∙ ap (equal_kind (kind_of c.in-Some.field-0.kind)) (c.kind_of.ensures ∙ ap operand_kind c.operand.ensures) in
    match-other _ c.loop-i.i (omega arith) (omega arith)
    (kinds_on c.args.page.now c.loop-i.at c.loop-i.more) c.loop-i.invariant
    (rw c.in-Some.is at c.next_kind.ensures) (sym is ∙ not-true _ (ap not c.if-not-same_kind.true))

pub loop-i-preserved : goal.loop-i-preserved
loop-i-preserved c =
    let is = c.same_kind.ensures
    ∙ ap (equal_kind (kind_of c.in-Some.field-0.kind)) (c.kind_of.ensures ∙ ap operand_kind c.operand.ensures) in
    match-more _ c.loop-i.i (omega arith) (omega arith)
    (kinds_on c.args.page.now c.loop-i.at c.loop-i.more) c.loop-i.invariant
    (rw c.in-Some.is at c.next_kind.ensures) (sym is ∙ not-false _ (ap not c.if-not-same_kind.false))
