-- `copy::number::put_number` meets its contract: of the number's bytes its form alone changes. Assumes nothing.
use native.Mathlib.Omega.{arith}
use Rattle.copy.proofs.SpanLaws.{part_length}
use Rattle.copy.proofs.NumberCopyLaws.{number-wide, number-copy, number-length}
use Rattle.copy.proofs.number.put_number.Goals as goal

pub overflow_add-start : goal.overflow_add-start
overflow_add-start c =
    omega (arith, number-wide c.requires.0.span c.requires.1, c.requires.0.span.inside)

pub bounds-page-start : goal.bounds-page-start
bounds-page-start c =
    omega (arith, number-wide c.requires.0.span c.requires.1, c.requires.0.span.inside)

pub slice_bounds-put_changed-count : goal.slice_bounds-put_changed-count
slice_bounds-put_changed-count c =
    omega (arith, number-wide c.requires.0.span c.requires.1)

pub slice_bounds-put_changed-start : goal.slice_bounds-put_changed-start
slice_bounds-put_changed-start c =
    omega (arith, number-wide c.requires.0.span c.requires.1, c.requires.0.span.inside)

pub put_changed-requires : goal.put_changed-requires
put_changed-requires c =
    let size = part_length c.args.page.now c.args.start c.args.next c.requires.0.span.inside in
    let copy = number-length c.requires.0.span c.requires.1 in
    (omega (arith, size, number-wide c.requires.0.span c.requires.1), omega (arith, size, copy, c.requires.0.room))

pub returns : goal.returns
returns c =
    rw (number-copy c.requires.0.span c.requires.1, ← c.form_after-form.ensures) c.put_changed.ensures
