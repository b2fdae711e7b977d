-- `fields::function_of` meets its contract: the name stands after the kind, the rest of the signature after it.
-- Assumes nothing.
use Rattle.fields.proofs.FieldLaws.{base-inside, function-reads, function-there}
use Rattle.fields.proofs.function_of.Goals as goal

pub fields_start-start-requires : goal.fields_start-start-requires
fields_start-start-requires c =
    base-inside c.requires.node

pub returns-in-Ok : goal.returns-in-Ok
returns-in-Ok c =
    let p = c.requires in
    let got = rw (c.in-Ok.is, c.fields_start-start.ensures) at
    c.read_text.ensures.reads in
    record { reads = function-reads p.node p.foot _ got; lies = (rw c.in-Ok.is at c.read_text.ensures.lies).0 }

pub returns-in-Err : goal.returns-in-Err
returns-in-Err c =
    let p = c.requires in
    absurd (function-there p.node p.foot
    (rw (c.in-Err.is, c.fields_start-start.ensures) at
    c.read_text.ensures.reads))
