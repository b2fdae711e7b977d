-- `fields::spacing_of` meets its contract, field by field. Assumes nothing.
use Rattle.fields.proofs.FieldLaws.{base-inside, spacing-reads, range-there, step-there}
use Rattle.fields.proofs.spacing_of.Goals as goal

pub fields_start-start-requires : goal.fields_start-start-requires
fields_start-start-requires c =
    base-inside c.requires.node

pub returns-in-Ok-read_optional_duration : goal.returns-in-Ok-read_optional_duration
returns-in-Ok-read_optional_duration c =
    let p = c.requires in
    let range = rw (c.in-Ok.is, c.fields_start-start.ensures) at
    c.read_number.ensures.reads in
    spacing-reads p.node p.foot range
    (rw c.in-Ok-read_optional_duration.is at c.read_optional_duration.ensures)

pub returns-in-Err-read_optional_duration : goal.returns-in-Err-read_optional_duration
returns-in-Err-read_optional_duration c =
    let p = c.requires in
    let range = rw (c.in-Ok.is, c.fields_start-start.ensures) at
    c.read_number.ensures.reads in
    absurd (step-there p.node p.foot range
    (rw c.in-Err-read_optional_duration.is at c.read_optional_duration.ensures))

pub returns-in-Err : goal.returns-in-Err
returns-in-Err c =
    let p = c.requires in
    absurd (range-there p.node p.foot
    (rw (c.in-Err.is, c.fields_start-start.ensures) at
    c.read_number.ensures.reads))
