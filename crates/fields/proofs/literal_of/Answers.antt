-- `fields::literal_of` meets its contract: at the foot there is a number. Assumes nothing.
use Rattle.fields.proofs.FieldLaws.{base-known, literal-there}
use Rattle.fields.proofs.literal_of.Goals as goal

pub signed_literal-requires : goal.signed_literal-requires
signed_literal-requires c =
    base-known c.requires.node

pub returns-in-None : goal.returns-in-None
returns-in-None c =
    let p = c.requires in
    absurd (literal-there p.node p.foot (rw c.in-None.is at c.signed_literal.ensures))
