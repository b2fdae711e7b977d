-- `fields::selector_of` meets its contract: the name, then the count of the matchers; they stand after it. Assumes
-- nothing.
use mathlib.Core.Path.{refl}
use Rattle.text.proofs.EntryLaws.{page-short}
use Rattle.text.proofs.EntryLaws.{allowed}
use Rattle.fields.proofs.FieldLaws.{base-inside, selector-reads, name-there, matchers-there}
use Rattle.fields.proofs.selector_of.Goals as goal

pub fields_start-start-requires : goal.fields_start-start-requires
fields_start-start-requires c =
    base-inside c.requires.node

pub returns-in-Ok-read_count : goal.returns-in-Ok-read_count
returns-in-Ok-read_count c =
    let p = c.requires in
    let name = rw (c.in-Ok.is, c.fields_start-start.ensures) at
    c.read_text.ensures.reads in
    let r = selector-reads p.node p.foot name
    (rw c.in-Ok-read_count.is at c.read_count.ensures) in
    let lies = (rw c.in-Ok.is at c.read_text.ensures.lies).0 in
    rw c.selector.ensures record {
      reads = r.0;
      lies = record {
        name = lies;
        stored = r.1;
        few = (allowed _ {rest = r.0.rest} r.0.reads).1.0;
        short = page-short p.node.known.tables;
      };
      unasked = (refl, refl);
    }

pub returns-in-Err-read_count : goal.returns-in-Err-read_count
returns-in-Err-read_count c =
    let p = c.requires in
    let name = rw (c.in-Ok.is, c.fields_start-start.ensures) at
    c.read_text.ensures.reads in
    absurd (matchers-there p.node p.foot name
    (rw c.in-Err-read_count.is at c.read_count.ensures))

pub returns-in-Err : goal.returns-in-Err
returns-in-Err c =
    let p = c.requires in
    absurd (name-there p.node p.foot
    (rw (c.in-Err.is, c.fields_start-start.ensures) at
    c.read_text.ensures.reads))
