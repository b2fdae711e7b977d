use Rattle.split.proofs.SplitLaws.{fits_line, over-line, len-line, len-split}
use Rattle.view.proofs.NodeLaws.{minus-numberless}
use Rattle.view.proofs.ViewLaws.{starts-of, unmarked}
use Rattle.text.proofs.LengthLaws.{last-operand, fewer-operands, len-none, len-one, len-full, len_more}
use Rattle.text.proofs.OperandLaws.{fewer}
use Rattle.text.specs.Layout.{pretty_indented}
use Prim.Native.Nat.{◌-◌}
use mathlib.Core.Bool.{true}
use native.Mathlib.Omega.{arith}
use Rattle.split.proofs.length.+split_len_split_operands_len.Goals as goal

pub split_len-returns-then-cap-eq0 : goal.split_len-returns-then-cap-eq0
split_len-returns-then-cap-eq0 t c =
    omega (arith, c.if-cap-eq0.true)

pub split_len-width-line-requires : goal.split_len-width-line-requires
split_len-width-line-requires t c =
    record { tables = c.requires.tables; known = c.requires.known; numberless = c.requires.numberless }

pub split_len-indent_len-lead-requires : goal.split_len-indent_len-lead-requires
split_len-indent_len-lead-requires t c =
    omega (arith, c.requires.level)

pub split_len-returns-then-line-le-LINE_LIMIT : goal.split_len-returns-then-line-le-LINE_LIMIT
split_len-returns-then-line-le-LINE_LIMIT t c =
    len-line c.args.page.now c.args.i _ _
    (fits_line _ _ c.width-line.ensures c.if-line-le-LINE_LIMIT.true) _
    _ _ _ c.width-line.ensures c.indent_len-lead.ensures c.capped_add.ensures

pub split_len-view_at-node-requires : goal.split_len-view_at-node-requires
split_len-view_at-node-requires t c =
    record { starts = starts-of c.requires.tables; numberless = c.requires.numberless }

pub split_len-front_at_len-front-requires : goal.split_len-front_at_len-front-requires
split_len-front_at_len-front-requires t c =
    record { node = c.view_at-node.ensures.stands; level = omega (arith, c.requires.level) }

pub split_len-overflow_sub-left : goal.split_len-overflow_sub-left
split_len-overflow_sub-left t c =
    omega (arith, c.front_at_len-front.ensures)

pub split_len-between_at_len-gap-requires : goal.split_len-between_at_len-gap-requires
split_len-between_at_len-gap-requires t c =
    record { node = c.view_at-node.ensures.stands; level = omega (arith, c.requires.level) }

pub split_len-inner_place-operand-requires : goal.split_len-inner_place-operand-requires
split_len-inner_place-operand-requires t c =
    rw c.with_numberless.ensures (omega (arith, c.requires.level))

pub split_len-split_operands_len-inner-requires : goal.split_len-split_operands_len-inner-requires
split_len-split_operands_len-inner-requires t c =
    let laid_out = c.view_at-node.ensures.laid_out in (
      omega (arith, laid_out.low, c.decreases),
      (
        fewer c.requires.tables (omega (arith, laid_out.low)),
        (
          c.requires.known,
          (
            laid_out.enough,
            (
              rw (
                c.inner_place-operand.ensures.is _ _ c.view_at-node.ensures.stands,
                c.with_numberless.ensures,
                c.is_minus-minus.ensures,
              )
                  (minus-numberless c.view_at-node.ensures),
              omega (
                arith,
                laid_out.low,
                c.requires.level,
                rw c.with_numberless.ensures at c.inner_place-operand.ensures.most,
              ),
            ),
          ),
        ),
      ),
    )

pub split_len-overflow_sub-left-2 : goal.split_len-overflow_sub-left-2
split_len-overflow_sub-left-2 t c =
    omega (arith, c.split_operands_len-inner.ensures.bound)

pub split_len-rear_at_len-rear-requires : goal.split_len-rear_at_len-rear-requires
split_len-rear_at_len-rear-requires t c =
    record { node = c.view_at-node.ensures.stands; level = omega (arith, c.requires.level) }

pub split_len-overflow_add-result : goal.split_len-overflow_add-result
split_len-overflow_add-result t c =
    omega (
      arith,
      c.front_at_len-front.ensures,
      c.split_operands_len-inner.ensures.bound,
      c.ranges,
    )

pub split_len-overflow_add-result-2 : goal.split_len-overflow_add-result-2
split_len-overflow_add-result-2 t c =
    omega (
      arith,
      c.front_at_len-front.ensures,
      c.split_operands_len-inner.ensures.bound,
      c.rear_at_len-rear.ensures,
      c.ranges,
    )

pub split_len-returns : goal.split_len-returns
split_len-returns t c =
    len-split c.view_at-node.ensures.laid_out _ _
    (over-line _ _ c.width-line.ensures c.if-line-le-LINE_LIMIT.false) _ _ _ _ _
    c.front_at_len-front.ensures c.between_at_len-gap.ensures
    (rw (
      c.inner_place-operand.ensures.is _ _ c.view_at-node.ensures.stands,
      c.with_numberless.ensures,
    ) at
    c.split_operands_len-inner.ensures) c.rear_at_len-rear.ensures

pub split_operands_len-returns-then-count-eq0 : goal.split_operands_len-returns-then-count-eq0
split_operands_len-returns-then-count-eq0 t c =
    len-none (pretty_indented c.args.place.indents c.args.place.level)
    (pretty_indented true c.args.place.level) c.requires.tables _ c.requires.operands _ _
    c.if-count-eq0.true

pub split_operands_len-overflow_sub-root : goal.split_operands_len-overflow_sub-root
split_operands_len-overflow_sub-root t c =
    (last-operand c.requires.tables _ c.requires.operands c.if-count-eq0.false).some

pub split_operands_len-split_len-requires : goal.split_operands_len-split_len-requires
split_operands_len-split_len-requires t c =
    let w = last-operand c.requires.tables _ c.requires.operands c.if-count-eq0.false in (
      omega (arith, w.some, c.decreases),
      (
        fewer c.requires.tables (omega (arith, w.some)),
        (
          c.requires.known,
          (c.requires.numberless, omega (arith, w.some, c.requires.level)),
        ),
      ),
    )

pub split_operands_len-returns-then-count-eq1 : goal.split_operands_len-returns-then-count-eq1
split_operands_len-returns-then-count-eq1 t c =
    len-one (pretty_indented c.args.place.indents c.args.place.level)
    (pretty_indented true c.args.place.level) c.requires.tables _ c.requires.operands _ _
    _ c.if-count-eq1.true c.split_len.ensures

pub split_operands_len-split_len-last-requires : goal.split_operands_len-split_len-last-requires
split_operands_len-split_len-last-requires t c =
    let w = last-operand c.requires.tables _ c.requires.operands c.if-count-eq0.false in (
      omega (arith, w.some, c.decreases),
      (
        fewer c.requires.tables (omega (arith, w.some)),
        (
          c.requires.known,
          rw c.with_indents-others.ensures
              (c.requires.numberless, omega (arith, w.some, c.requires.level)),
        ),
      ),
    )

pub split_operands_len-overflow_sub-left : goal.split_operands_len-overflow_sub-left
split_operands_len-overflow_sub-left t c =
    omega (arith, c.split_len-last.ensures)

pub split_operands_len-returns-then-left-gap : goal.split_operands_len-returns-then-left-gap
split_operands_len-returns-then-left-gap t c =
    len-full (pretty_indented c.args.place.indents c.args.place.level)
    (pretty_indented true c.args.place.level) c.requires.tables _ c.requires.operands
    c.if-count-eq0.false c.if-count-eq1.false _ _ _
    (rw c.with_indents-others.ensures at c.split_len-last.ensures) c.if-left-gap.true

pub split_operands_len-bounds-firsts-root : goal.split_operands_len-bounds-firsts-root
split_operands_len-bounds-firsts-root t c =
    omega (
      arith,
      (last-operand c.requires.tables _ c.requires.operands c.if-count-eq0.false).some,
      c.requires.tables.firsts-size,
      c.requires.tables.few,
    )

pub split_operands_len-overflow_cast-end : goal.split_operands_len-overflow_cast-end
split_operands_len-overflow_cast-end t c =
    omega (arith, c.type_inv.firsts (c.args.end - 1))

pub split_operands_len-overflow_sub-fewer : goal.split_operands_len-overflow_sub-fewer
split_operands_len-overflow_sub-fewer t c =
    omega (arith, c.if-count-eq0.false)

pub split_operands_len-overflow_sub-room : goal.split_operands_len-overflow_sub-room
split_operands_len-overflow_sub-room t c =
    omega (arith, c.if-left-gap.false)

pub split_operands_len-split_operands_len-rest-requires : goal.split_operands_len-split_operands_len-rest-requires
split_operands_len-split_operands_len-rest-requires t c =
    let w = last-operand c.requires.tables _ c.requires.operands c.if-count-eq0.false in (
      omega (arith, w.low, c.decreases),
      (
        fewer c.requires.tables (omega (arith, w.low)),
        (
          c.requires.known,
          (
            fewer-operands c.requires.tables _ c.requires.operands c.if-count-eq0.false,
            rw c.with_numberless-before.ensures (unmarked _ _, omega (arith, w.low, c.requires.level)),
          ),
        ),
      ),
    )

pub split_operands_len-overflow_add-result : goal.split_operands_len-overflow_add-result
split_operands_len-overflow_add-result t c =
    omega (arith, c.split_len-last.ensures, c.if-left-gap.false)

pub split_operands_len-overflow_add-result-2 : goal.split_operands_len-overflow_add-result-2
split_operands_len-overflow_add-result-2 t c =
    omega (
      arith,
      c.split_len-last.ensures,
      c.if-left-gap.false,
      c.split_operands_len-rest.ensures.bound,
    )

pub split_operands_len-returns : goal.split_operands_len-returns
split_operands_len-returns t c =
    len_more (pretty_indented c.args.place.indents c.args.place.level)
    (pretty_indented true c.args.place.level) c.requires.tables _ c.requires.operands
    c.if-count-eq0.false c.if-count-eq1.false _ _ _
    (rw c.with_indents-others.ensures at c.split_len-last.ensures) _
    c.if-left-gap.false (rw c.with_numberless-before.ensures at c.split_operands_len-rest.ensures)
