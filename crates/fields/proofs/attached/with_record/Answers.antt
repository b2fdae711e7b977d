-- `fields::attached::with_record` meets its contract: by the part's kind. Assumes nothing.
use mathlib.Core.Path.{refl, sym}
use Rattle.page.specs.Read.{return}
use Rattle.page.specs.Number.{read_number}
use Rattle.records.specs.Time.{read_at_modifier, read_offset}
use Rattle.records.specs.Record.{range, at, offset, wrapper}
use Rattle.view.proofs.KindLaws.{no_field}
use Rattle.fields.proofs.AttachedLaws.{sets-as, part-range, part_at, part-offset, last-part}
use Rattle.fields.proofs.attached.with_record.Goals as goal

pub returns-in-Ok : goal.returns-in-Ok
returns-in-Ok c =
    let p = c.requires in
    let kind = rw c.in-3.is at c.kind_at.ensures in
    let field = rw (c.in-Ok.is, c.fields_start-start.ensures) at
    c.read_number.ensures.reads in
    λ i above. sets-as refl (sym c.with_range.ensures.0) (sym c.with_range.ensures.1)
    (part-range p.starts kind field above)

pub returns-in-Err : goal.returns-in-Err
returns-in-Err c =
    let p = c.requires in
    let kind = rw c.in-3.is at c.kind_at.ensures in
    let field = rw (c.in-Err.is, c.fields_start-start.ensures) at
    c.read_number.ensures.reads in
    absurd (no_field p.starts kind read_number (λ r. return (wrapper (range r))) (λ t. refl) field)

pub returns-in-Ok-read_at_modifier : goal.returns-in-Ok-read_at_modifier
returns-in-Ok-read_at_modifier c =
    let p = c.requires in
    let kind = rw c.in-5.is at c.kind_at.ensures in
    let field = rw (c.in-Ok-read_at_modifier.is, c.fields_start-start.ensures) at
    c.read_at_modifier.ensures in
    λ i above. sets-as refl (sym c.with_at.ensures.0) (sym c.with_at.ensures.1)
    (part_at p.starts kind field above)

pub returns-in-Err-read_at_modifier : goal.returns-in-Err-read_at_modifier
returns-in-Err-read_at_modifier c =
    let p = c.requires in
    let kind = rw c.in-5.is at c.kind_at.ensures in
    let field = rw (c.in-Err-read_at_modifier.is, c.fields_start-start.ensures) at
    c.read_at_modifier.ensures in
    absurd (no_field p.starts kind read_at_modifier (λ a. return (wrapper (at a))) (λ t. refl) field)

pub returns-in-Ok-read_offset : goal.returns-in-Ok-read_offset
returns-in-Ok-read_offset c =
    let p = c.requires in
    let kind = last-part p.attached c.kind_at.ensures c.in_default.in_default-own.rest.0.1
    c.in_default.in_default-own.rest.1 in
    let field = rw (c.in-Ok-read_offset.is, c.fields_start-start.ensures) at
    c.read_offset.ensures in
    λ i above. sets-as refl (sym c.with_offset.ensures.0) (sym c.with_offset.ensures.1)
    (part-offset p.starts kind field above)

pub returns-in-Err-read_offset : goal.returns-in-Err-read_offset
returns-in-Err-read_offset c =
    let p = c.requires in
    let kind = last-part p.attached c.kind_at.ensures c.in_default.in_default-own.rest.0.1
    c.in_default.in_default-own.rest.1 in
    let field = rw (c.in-Err-read_offset.is, c.fields_start-start.ensures) at
    c.read_offset.ensures in
    absurd (no_field p.starts kind read_offset (λ o. return (wrapper (offset o))) (λ t. refl) field)
