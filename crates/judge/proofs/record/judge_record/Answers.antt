-- `judge::record::judge_record` meets its contract, record by record:
-- the judge's own contract, at the entries where the stack has its operands. Assumes nothing.
use mathlib.Core.Path.{ap, ap₂, ◌∙◌}
use lib.Dec.{eqb}
use lib.ListN.{length}
use Prim.Native.Nat.{◌≤◌}
use Rattle.rules.specs.Stack.{held}
use Rattle.ast.specs.Judge.{judge_range, judge_subquery, judge_at, judge_offset, judge_unary, judge_binary}
use Rattle.ast.specs.Operand.{Operand, other_operand, operand_kind}
use Rattle.ast.specs.Refusal.{ok}
use Rattle.reader.specs.Answers.{selector_on}
use Rattle.page.specs.Answers.{itself, option_of, span_on}
use Rattle.records.specs.SignatureAnswers.{function_on}
use Rattle.records.specs.Answers.{literal_of, modifier_on, label_modifier_on, at_modifier_of, offset_of}
use Rattle.records.specs.Record.{range, subquery, at, offset, unary, paren, string, selector}
use Rattle.judge.proofs.RecordLaws.{judgement-leaf, judgement-number, judgement-wrapper, judgement-binary}
use Rattle.judge.proofs.RecordLaws.{judgement-aggregate, judgement-call}
use Rattle.judge.proofs.record.judge_record.Goals as goal

pub returns-in-Number : goal.returns-in-Number
returns-in-Number c =
    rw c.in-Number.is
    (judgement-number (eqb c.args.rule 42) (literal_of c.in-Number.literal)
    (held c.args.stack.now)
    c.literal_operand.ensures)

pub returns-in-String : goal.returns-in-String
returns-in-String c =
    rw c.in-String.is
    (judgement-leaf (eqb c.args.rule 42)
    (string (span_on c.args.page.now c.in-String.field-0))
    (held c.args.stack.now))

pub returns-in-Selector : goal.returns-in-Selector
returns-in-Selector c =
    let page = c.args.page.now in
    let selector' = c.in-Selector.selector in
    let read = rw c.in-Selector.is at c.requires.lies in
    rw c.in-Selector.is
    (c.judge_selector.ensures page read
    ∙ judgement-leaf (eqb c.args.rule 42) (selector (selector_on page selector'))
    (held c.args.stack.now))

pub returns-in-Range : goal.returns-in-Range
returns-in-Range c =
    let h : 1 ≤ length (held c.args.stack.now) = rw c.in-Range.is at c.requires.fits in
    rw c.in-Range.is
    (c.judge_range.ensures ∙ ap judge_range c.operand.ensures
    ∙ judgement-wrapper (eqb c.args.rule 42) (held c.args.stack.now)
    (range c.in-Range.field-0) h)

pub returns-in-Subquery : goal.returns-in-Subquery
returns-in-Subquery c =
    let h : 1 ≤ length (held c.args.stack.now) = rw c.in-Subquery.is at c.requires.fits in
    rw c.in-Subquery.is
    (c.judge_subquery.ensures ∙ ap judge_subquery c.operand-in-Subquery.ensures
    ∙ judgement-wrapper (eqb c.args.rule 42) (held c.args.stack.now)
    (subquery c.in-Subquery.range
    (option_of itself c.in-Subquery.step)) h)

pub returns-in-At : goal.returns-in-At
returns-in-At c =
    let h : 1 ≤ length (held c.args.stack.now) = rw c.in-At.is at c.requires.fits in
    rw c.in-At.is
    (c.judge_at.ensures ∙ ap judge_at c.operand-in-At.ensures
    ∙ judgement-wrapper (eqb c.args.rule 42) (held c.args.stack.now)
    (at (at_modifier_of c.in-At.field-0)) h)

pub returns-in-Offset : goal.returns-in-Offset
returns-in-Offset c =
    let h : 1 ≤ length (held c.args.stack.now) = rw c.in-Offset.is at c.requires.fits in
    rw c.in-Offset.is
    (c.judge_offset.ensures ∙ ap judge_offset c.operand-in-Offset.ensures
    ∙ judgement-wrapper (eqb c.args.rule 42) (held c.args.stack.now)
    (offset (offset_of c.in-Offset.field-0)) h)

pub returns-in-Unary : goal.returns-in-Unary
returns-in-Unary c =
    let h : 1 ≤ length (held c.args.stack.now) = rw c.in-Unary.is at c.requires.fits in
    rw c.in-Unary.is
    (c.judge_unary.ensures ∙ ap judge_unary c.operand-in-Unary.ensures
    ∙ judgement-wrapper (eqb c.args.rule 42) (held c.args.stack.now) unary h)

pub returns-in-Paren : goal.returns-in-Paren
returns-in-Paren c =
    let h : 1 ≤ length (held c.args.stack.now) = rw c.in-Paren.is at c.requires.fits in
    rw c.in-Paren.is
    (c.judge_paren.ensures
    ∙ ap (λ (x : Operand). ok (other_operand (operand_kind x))) c.operand-in-Paren.ensures
    ∙ judgement-wrapper (eqb c.args.rule 42) (held c.args.stack.now) paren h)

pub returns-in-Binary : goal.returns-in-Binary
returns-in-Binary c =
    let h : 2 ≤ length (held c.args.stack.now) = rw c.in-Binary.is at c.requires.fits in
    let m = modifier_on c.args.page.now c.in-Binary.modifier in
    let sides = ap₂ (judge_binary c.in-Binary.code m)
    (c.kind_of-left.ensures ∙ ap operand_kind c.operand-in-Binary-2.ensures)
    (c.kind_of-right.ensures ∙ ap operand_kind c.operand-in-Binary.ensures) in
    rw c.in-Binary.is
    (c.judge_binary.ensures ∙ sides
    ∙ judgement-binary (eqb c.args.rule 42) (held c.args.stack.now)
    c.in-Binary.code m h)

pub returns-in-Aggregate : goal.returns-in-Aggregate
returns-in-Aggregate c =
    let h = rw c.in-Aggregate.is at c.requires.fits in
    rw c.in-Aggregate.is
    (c.judge_aggregate.ensures
    ∙ judgement-aggregate (eqb c.args.rule 42) (held c.args.stack.now)
    c.in-Aggregate.code
    (label_modifier_on c.args.page.now c.in-Aggregate.grouping)
    c.in-Aggregate.count h)

pub returns-in-Call : goal.returns-in-Call
returns-in-Call c =
    let h = rw c.in-Call.is at c.requires.fits in
    rw c.in-Call.is
    (c.judge_call.ensures
    ∙ judgement-call (eqb c.args.rule 42) (held c.args.stack.now)
    (function_on c.args.page.now c.in-Call.function)
    c.in-Call.count h)
