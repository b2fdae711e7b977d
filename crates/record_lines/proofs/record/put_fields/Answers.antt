-- `record_lines::record::put_fields` meets its contract, kind by kind. Assumes nothing.
use Rattle.record_lines.proofs.LineLaws.{shows-none}
use Rattle.record_lines.proofs.record.put_fields.Goals as goal

pub returns-in-Number : goal.returns-in-Number
returns-in-Number c =
    rw c.in-Number.is c.put_literal.ensures

pub returns-in-String : goal.returns-in-String
returns-in-String c =
    rw c.in-String.is c.put_span.ensures

pub returns-in-Selector : goal.returns-in-Selector
returns-in-Selector c =
    rw c.in-Selector.is c.put_selector.ensures

pub returns-in-Range : goal.returns-in-Range
returns-in-Range c =
    rw c.in-Range.is c.put_spaced.ensures

pub returns-in-Subquery : goal.returns-in-Subquery
returns-in-Subquery c =
    rw c.in-Subquery.is c.put_subquery.ensures

pub returns-in-At : goal.returns-in-At
returns-in-At c =
    rw c.in-At.is c.put_at.ensures

pub returns-in-Offset : goal.returns-in-Offset
returns-in-Offset c =
    rw c.in-Offset.is c.put_offset.ensures

pub returns-in-Unary : goal.returns-in-Unary
returns-in-Unary c =
    rw c.in-Unary.is shows-none

pub returns-in-Paren : goal.returns-in-Paren
returns-in-Paren c =
    rw c.in-Paren.is shows-none

pub returns-in-Binary : goal.returns-in-Binary
returns-in-Binary c =
    rw c.in-Binary.is c.put_binary.ensures

pub returns-in-Aggregate : goal.returns-in-Aggregate
returns-in-Aggregate c =
    rw c.in-Aggregate.is c.put_aggregate.ensures

pub returns-in-Call : goal.returns-in-Call
returns-in-Call c =
    rw c.in-Call.is c.put_call.ensures
