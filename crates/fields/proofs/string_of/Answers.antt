-- `fields::string_of` meets its contract: the text stands after the kind. Assumes nothing.
use Rattle.fields.proofs.FieldLaws.{base-inside, string-reads, string-there}
use Rattle.fields.proofs.string_of.Goals as goal

pub fields_start-start-requires : goal.fields_start-start-requires
fields_start-start-requires c =
    base-inside c.requires.node

pub returns-in-Ok : goal.returns-in-Ok
returns-in-Ok c =
    let p = c.requires in
    let got = rw (c.in-Ok.is, c.fields_start-start.ensures) at
    c.read_text.ensures.reads in
    record { reads = string-reads p.node p.foot got; lies = (rw c.in-Ok.is at c.read_text.ensures.lies).0 }

pub returns-in-Err : goal.returns-in-Err
returns-in-Err c =
    let p = c.requires in
    absurd (string-there p.node p.foot
    (rw (c.in-Err.is, c.fields_start-start.ensures) at
    c.read_text.ensures.reads))
