use mathlib.Core.Path.{sym, ◌∙◌}
use native.Mathlib.Omega.{arith}
use Rattle.base.proofs.SpliceLaws.{begin-as, room, step, finish}
use Rattle.copy.proofs.StartsLaws.{copy_from-start, copy_from-cut, copy_from-next, copy_from-end, starts-few}
use Rattle.copy.proofs.SpanLaws.{taken-few}
use Rattle.copy.proofs.PairLaws.{pair_inside, pair-behind, copy_from-pair}
use Rattle.copy.proofs.whole.put_copy.Goals as goal

pub loop-i-init : goal.loop-i-init
loop-i-init c =
    begin-as (omega (arith, c.requires.1)) (sym (copy_from-start c.args.page.now))

pub offset_bounds-starts-i : goal.offset_bounds-starts-i
offset_bounds-starts-i c =
    omega (arith, starts-few c.requires.0)

pub bounds-starts-i : goal.bounds-starts-i
bounds-starts-i c =
    omega (arith, starts-few c.requires.0, c.requires.0.size)

pub overflow_cast-start : goal.overflow_cast-start
overflow_cast-start c =
    omega (arith, c.type_inv.starts c.loop-i.i)

pub end_of-next-requires : goal.end_of-next-requires
end_of-next-requires c =
    (c.requires.0, c.loop-i-test.true)

pub is_before_at-requires : goal.is_before_at-requires
is_before_at-requires c =
    c.end_of-next.ensures

pub overflow_add-i : goal.overflow_add-i
overflow_add-i c =
    omega (arith, starts-few c.requires.0)

pub end_of-after-requires : goal.end_of-after-requires
end_of-after-requires c = (
  c.requires.0,
  pair_inside c.requires.0 c.loop-i.i _ c.loop-i-test.true
      c.end_of-next.ensures (sym c.is_before_at.ensures ∙ c.if-is_before_at.true),
)

pub put_at_first-at-requires : goal.put_at_first-at-requires
put_at_first-at-requires c =
    record {
      span = c.end_of-next.ensures;
      behind = pair-behind
          c.requires.0
          c.loop-i.i _
          c.loop-i-test.true
          c.end_of-next.ensures
          (sym c.is_before_at.ensures ∙ c.if-is_before_at.true) _
          c.end_of-after.ensures;
      room = room c.loop-i.invariant
          (copy_from-pair
          c.requires.0
          c.loop-i.i _
          c.loop-i-test.true
          c.end_of-next.ensures
          (sym c.is_before_at.ensures ∙ c.if-is_before_at.true) _
          c.end_of-after.ensures);
    }

pub overflow_add-i-then-is_before_at : goal.overflow_add-i-then-is_before_at
overflow_add-i-then-is_before_at c =
    omega (arith, starts-few c.requires.0)

pub loop-i-preserved-then-is_before_at : goal.loop-i-preserved-then-is_before_at
loop-i-preserved-then-is_before_at c =
    step c.loop-i.invariant
    (copy_from-pair c.requires.0
    c.loop-i.i _
    c.loop-i-test.true
    c.end_of-next.ensures
    (sym c.is_before_at.ensures
    ∙ c.if-is_before_at.true) _
    c.end_of-after.ensures)
    c.put_at_first-at.ensures

pub absorbed_by-taken-requires : goal.absorbed_by-taken-requires
absorbed_by-taken-requires c =
    c.end_of-next.ensures

pub put_record-at-requires : goal.put_record-at-requires
put_record-at-requires c =
    record {
      span = c.end_of-next.ensures;
      room = room c.loop-i.invariant
          (copy_from-cut c.requires.0 c.loop-i.i c.loop-i-test.true
          (sym c.is_before_at.ensures ∙ c.if-is_before_at.false));
    }

pub overflow_add-i-else-is_before_at : goal.overflow_add-i-else-is_before_at
overflow_add-i-else-is_before_at c =
    omega (arith, starts-few c.requires.0, taken-few c.requires.0 c.end_of-next.ensures c.absorbed_by-taken.ensures)

pub overflow_add-i-else-is_before_at-2 : goal.overflow_add-i-else-is_before_at-2
overflow_add-i-else-is_before_at-2 c =
    omega (arith, starts-few c.requires.0, taken-few c.requires.0 c.end_of-next.ensures c.absorbed_by-taken.ensures)

pub loop-i-preserved : goal.loop-i-preserved
loop-i-preserved c =
    step c.loop-i.invariant
    (copy_from-next c.requires.0 c.loop-i.i _ c.loop-i-test.true
    (sym c.is_before_at.ensures ∙ c.if-is_before_at.false) c.absorbed_by-taken.ensures)
    c.put_record-at.ensures

pub shape_of-out : goal.shape_of-out
shape_of-out c =
    c.loop-i.invariant.size

pub returns : goal.returns
returns c =
    finish c.loop-i.invariant (copy_from-end c.requires.0 c.loop-i.i c.loop-i-test.false)
