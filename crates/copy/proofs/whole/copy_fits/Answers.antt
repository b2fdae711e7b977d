use mathlib.Core.Path.{sym, ap, ◌∙◌}
use native.Mathlib.Omega.{arith}
use lib.Dec.{leb}
use lib.ListN.{length}
use Rattle.copy.proofs.StartsLaws.{copy_from-start, starts-few, fits_not, fits_more, fits-end}
use Rattle.copy.proofs.SpanLaws.{taken-few}
use Rattle.copy.proofs.whole.copy_fits.Goals as goal

pub loop-i-init : goal.loop-i-init
loop-i-init c =
    ap (λ s. leb (length s) c.args.room)
    (sym (copy_from-start c.args.page.now))

pub offset_bounds-starts-i : goal.offset_bounds-starts-i
offset_bounds-starts-i c =
    omega (arith, starts-few c.requires)

pub bounds-starts-i : goal.bounds-starts-i
bounds-starts-i c =
    omega (arith, starts-few c.requires, c.requires.size)

pub overflow_cast-start : goal.overflow_cast-start
overflow_cast-start c =
    omega (arith, c.type_inv.starts c.loop-i.i)

pub end_of-next-requires : goal.end_of-next-requires
end_of-next-requires c =
    (c.requires, c.loop-i-test.true)

pub record_len-size-requires : goal.record_len-size-requires
record_len-size-requires c =
    c.end_of-next.ensures

pub returns-then-left-size : goal.returns-then-left-size
returns-then-left-size c =
    sym (c.loop-i.invariant
    ∙ fits_not c.requires c.loop-i.i c.loop-i.left _ c.loop-i-test.true
    c.record_len-size.ensures c.if-left-size.true)

pub absorbed_by-taken-requires : goal.absorbed_by-taken-requires
absorbed_by-taken-requires c =
    c.end_of-next.ensures

pub overflow_add-i : goal.overflow_add-i
overflow_add-i c =
    omega (arith, starts-few c.requires, taken-few c.requires c.end_of-next.ensures c.absorbed_by-taken.ensures)

pub overflow_add-i-in-loop-i : goal.overflow_add-i-in-loop-i
overflow_add-i-in-loop-i c =
    omega (arith, starts-few c.requires, taken-few c.requires c.end_of-next.ensures c.absorbed_by-taken.ensures)

pub loop-i-preserved : goal.loop-i-preserved
loop-i-preserved c =
    c.loop-i.invariant
    ∙ fits_more c.requires c.loop-i.i c.loop-i.left _ _ c.loop-i-test.true
    c.record_len-size.ensures c.absorbed_by-taken.ensures c.if-left-size.false

pub returns : goal.returns
returns c =
    sym (c.loop-i.invariant ∙ fits-end c.requires c.loop-i.i c.loop-i.left c.loop-i-test.false)
