use Rattle.view.proofs.ViewLaws.{starts-of, unmarked}
use Rattle.text.proofs.LengthLaws.{last-operand, fewer-operands, len-none, len-one, len-full, len_more}
use Rattle.canonical.proofs.TextLaws.{len-tree}
use Rattle.text.specs.Display.{display}
use Rattle.view.proofs.NodeLaws.{minus-numberless}
use Rattle.text.proofs.OperandLaws.{fewer}
use Rattle.measure.proofs.WidthLaws.{recapped, set-size, widths-set}
use Prim.Native.Nat.{◌+◌, ◌-◌}
use native.Mathlib.Omega.{arith}
use Rattle.measure.proofs.+measure_measure_operands.Goals as goal

pub measure-view_at-node-requires : goal.measure-view_at-node-requires
measure-view_at-node-requires t c =
    record { starts = starts-of c.requires.tables; numberless = c.requires.numberless }

pub measure-front_len-front-requires : goal.measure-front_len-front-requires
measure-front_len-front-requires t c =
    c.view_at-node.ensures.stands

pub measure-overflow_sub-left : goal.measure-overflow_sub-left
measure-overflow_sub-left t c =
    omega (arith, c.front_len-front.ensures)

pub measure-between_len-gap-requires : goal.measure-between_len-gap-requires
measure-between_len-gap-requires t c =
    c.view_at-node.ensures.stands

pub measure-measure_operands-inner-requires : goal.measure-measure_operands-inner-requires
measure-measure_operands-inner-requires t c =
    let laid_out = c.view_at-node.ensures.laid_out in (
      omega (arith, laid_out.low, c.decreases),
      (
        fewer c.requires.tables (omega (arith, laid_out.low)),
        (
          laid_out.enough,
          (
            rw c.is_minus-minus.ensures (minus-numberless c.view_at-node.ensures),
            (omega arith, c.requires.known),
          ),
        ),
      ),
    )

pub measure-overflow_sub-left-2 : goal.measure-overflow_sub-left-2
measure-overflow_sub-left-2 t c =
    omega (arith, c.measure_operands-inner.ensures.value.bound)

pub measure-rear_len-rear-requires : goal.measure-rear_len-rear-requires
measure-rear_len-rear-requires t c =
    c.view_at-node.ensures.stands

pub measure-overflow_add-width : goal.measure-overflow_add-width
measure-overflow_add-width t c =
    omega (
      arith,
      c.front_len-front.ensures,
      c.measure_operands-inner.ensures.value.bound,
    )

pub measure-overflow_add-width-2 : goal.measure-overflow_add-width-2
measure-overflow_add-width-2 t c =
    omega (
      arith,
      c.front_len-front.ensures,
      c.measure_operands-inner.ensures.value.bound,
      c.rear_len-rear.ensures,
    )

pub measure-overflow_cast-widths : goal.measure-overflow_cast-widths
measure-overflow_cast-widths t c =
    omega (
      arith,
      c.front_len-front.ensures,
      c.measure_operands-inner.ensures.value.bound,
      c.rear_len-rear.ensures,
    )

pub measure-bounds-widths-i : goal.measure-bounds-widths-i
measure-bounds-widths-i t c =
    omega (arith, c.measure_operands-inner.ensures.known.size, c.requires.tables.few)

pub measure-shape_of-widths : goal.measure-shape_of-widths
measure-shape_of-widths t c =
    set-size c.args.i
    (c.front_len-front.result + c.measure_operands-inner.result + c.rear_len-rear.result)
    c.measure_operands-inner.ensures.known c.requires.known

pub measure-returns : goal.measure-returns
measure-returns t c =
    let width = len-tree c.view_at-node.ensures.laid_out _ _ _ _ _ c.front_len-front.ensures
    c.between_len-gap.ensures c.measure_operands-inner.ensures.value
    c.rear_len-rear.ensures in record {
      value = width;
      known = widths-set _ _ c.measure_operands-inner.ensures.known (omega (arith, c.requires.tables.few))
          width;
    }

pub measure_operands-returns-then-count-eq0 : goal.measure_operands-returns-then-count-eq0
measure_operands-returns-then-count-eq0 t c =
    record {
      value = len-none display display c.requires.tables _ c.requires.operands _ _ c.if-count-eq0.true;
      known = c.requires.known;
    }

pub measure_operands-overflow_sub-root : goal.measure_operands-overflow_sub-root
measure_operands-overflow_sub-root t c =
    (last-operand c.requires.tables _ c.requires.operands c.if-count-eq0.false).some

pub measure_operands-measure-width-requires : goal.measure_operands-measure-width-requires
measure_operands-measure-width-requires t c =
    let w = last-operand c.requires.tables _ c.requires.operands c.if-count-eq0.false in (
      omega (arith, w.some, c.decreases),
      (
        fewer c.requires.tables (omega (arith, w.some)),
        (c.requires.numberless, c.requires.known),
      ),
    )

pub measure_operands-shape_of-widths-then-count-eq1 : goal.measure_operands-shape_of-widths-then-count-eq1
measure_operands-shape_of-widths-then-count-eq1 t c =
    omega (arith, c.measure-width.ensures.known.size, c.requires.known.size)

pub measure_operands-returns-then-count-eq1 : goal.measure_operands-returns-then-count-eq1
measure_operands-returns-then-count-eq1 t c =
    record {
      value = len-one display display c.requires.tables _ c.requires.operands _ _ _ c.if-count-eq1.true
          (recapped _ _ _ _ c.measure-width.ensures.value c.requires.cap
          c.capped_add-last.ensures);
      known = c.measure-width.ensures.known;
    }

pub measure_operands-bounds-firsts-root : goal.measure_operands-bounds-firsts-root
measure_operands-bounds-firsts-root t c =
    omega (
      arith,
      (last-operand c.requires.tables _ c.requires.operands c.if-count-eq0.false).some,
      c.requires.tables.firsts-size,
      c.requires.tables.few,
    )

pub measure_operands-overflow_cast-first : goal.measure_operands-overflow_cast-first
measure_operands-overflow_cast-first t c =
    omega (arith, c.type_inv.firsts (c.args.end - 1))

pub measure_operands-overflow_sub-left : goal.measure_operands-overflow_sub-left
measure_operands-overflow_sub-left t c =
    omega (arith, c.capped_add-last.ensures)

pub measure_operands-overflow_sub-fewer : goal.measure_operands-overflow_sub-fewer
measure_operands-overflow_sub-fewer t c =
    omega (arith, c.if-count-eq0.false)

pub measure_operands-measure_operands-rest-requires : goal.measure_operands-measure_operands-rest-requires
measure_operands-measure_operands-rest-requires t c =
    let w = last-operand c.requires.tables _ c.requires.operands c.if-count-eq0.false in (
      omega (arith, w.low, c.decreases),
      (
        fewer c.requires.tables (omega (arith, w.low)),
        (
          fewer-operands c.requires.tables _ c.requires.operands c.if-count-eq0.false,
          (
            unmarked _ _,
            (
              omega (arith, c.saturating_sub-room.ensures, c.requires.cap),
              c.measure-width.ensures.known,
            ),
          ),
        ),
      ),
    )

pub measure_operands-shape_of-widths-then-left-gap : goal.measure_operands-shape_of-widths-then-left-gap
measure_operands-shape_of-widths-then-left-gap t c =
    omega (arith, c.measure_operands-rest.ensures.known.size, c.requires.known.size)

pub measure_operands-returns-then-left-gap : goal.measure_operands-returns-then-left-gap
measure_operands-returns-then-left-gap t c =
    record {
      value = len-full display display c.requires.tables _ c.requires.operands c.if-count-eq0.false
          c.if-count-eq1.false _ _ _
          (recapped _ _ _ _ c.measure-width.ensures.value c.requires.cap
          c.capped_add-last.ensures) c.if-left-gap.true;
      known = c.measure_operands-rest.ensures.known;
    }

pub measure_operands-overflow_add-result : goal.measure_operands-overflow_add-result
measure_operands-overflow_add-result t c =
    omega
    (arith, c.capped_add-last.ensures, c.if-left-gap.false)

pub measure_operands-overflow_add-result-2 : goal.measure_operands-overflow_add-result-2
measure_operands-overflow_add-result-2 t c =
    omega (
      arith,
      c.capped_add-last.ensures,
      c.if-left-gap.false,
      c.saturating_sub-room.ensures,
      c.measure_operands-rest.ensures.value.bound,
    )

pub measure_operands-shape_of-widths : goal.measure_operands-shape_of-widths
measure_operands-shape_of-widths t c =
    omega (arith, c.measure_operands-rest.ensures.known.size, c.requires.known.size)

pub measure_operands-returns : goal.measure_operands-returns
measure_operands-returns t c =
    record {
      value = len_more display display c.requires.tables _ c.requires.operands c.if-count-eq0.false
          c.if-count-eq1.false _ _ _
          (recapped _ _ _ _ c.measure-width.ensures.value c.requires.cap
          c.capped_add-last.ensures) _ c.if-left-gap.false
          (rw c.saturating_sub-room.ensures at c.measure_operands-rest.ensures.value);
      known = c.measure_operands-rest.ensures.known;
    }
