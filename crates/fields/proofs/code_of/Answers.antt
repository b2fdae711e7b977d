-- `fields::code_of` meets its contract: the code stands after the kind. Assumes nothing.
use Rattle.fields.proofs.FieldLaws.{base-inside, code-there}
use Rattle.fields.proofs.code_of.Goals as goal

pub fields_start-start-requires : goal.fields_start-start-requires
fields_start-start-requires c =
    base-inside c.requires.node

pub returns-in-Err : goal.returns-in-Err
returns-in-Err c =
    let p = c.requires in
    absurd (code-there p.node p.foot
    (rw (c.in-Err.is, c.fields_start-start.ensures) at
    c.read_code.ensures))
