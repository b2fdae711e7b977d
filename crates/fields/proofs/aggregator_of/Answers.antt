-- `fields::aggregator_of` meets its contract, field by field. Assumes nothing.
use Rattle.fields.proofs.FieldLaws.{aggregator-reads, grouping-there}
use Rattle.fields.proofs.aggregator_of.Goals as goal

pub returns-in-Ok : goal.returns-in-Ok
returns-in-Ok c =
    let p = c.requires in
    let reads = aggregator-reads p.node p.foot c.code_of-code.ensures.is
    (rw c.in-Ok.is at c.read_label_modifier.ensures.reads) in
    record { reads = reads; stored = rw c.in-Ok.is at c.read_label_modifier.ensures.stored }

pub returns-in-Err : goal.returns-in-Err
returns-in-Err c =
    let p = c.requires in
    absurd (grouping-there p.node p.foot c.code_of-code.ensures.is
    (rw c.in-Err.is at c.read_label_modifier.ensures.reads))
