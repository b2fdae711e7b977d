-- `fields::operator_of` meets its contract, field by field. Assumes nothing.
use Rattle.fields.proofs.FieldLaws.{reads-exact, operator-reads, modifier-there}
use Rattle.fields.proofs.operator_of.Goals as goal

pub returns-in-Ok : goal.returns-in-Ok
returns-in-Ok c =
    let p = c.requires in
    let reads = operator-reads p.node p.foot c.code_of-code.ensures.is
    (rw c.in-Ok.is at c.read_modifier.ensures.reads) in record {
      reads = reads;
      stored = rw c.in-Ok.is at c.read_modifier.ensures.stored;
      exact = reads-exact reads;
    }

pub returns-in-Err : goal.returns-in-Err
returns-in-Err c =
    let p = c.requires in
    absurd (modifier-there p.node p.foot c.code_of-code.ensures.is
    (rw c.in-Err.is at c.read_modifier.ensures.reads))
