use Rattle.split.proofs.SplitLaws.{fits_line, over-line, run-line, run-split}
use Rattle.view.proofs.NodeLaws.{minus-numberless}
use Rattle.view.proofs.ViewLaws.{starts-of, unmarked}
use Rattle.view.specs.View.{layout_at}
use Rattle.text.proofs.WriteLaws.{wrote_nothing, wrote_as, text-none, text-one, run_more}
use Rattle.text.proofs.LengthLaws.{last-operand, fewer-operands}
use Rattle.text.proofs.OperandLaws.{fewer}
use Rattle.text.specs.Layout.{between_at, inner_indents, inner_level, pretty_indented}
use Rattle.base.proofs.SpliceLaws.{fits, next, end}
use lib.ListN.{length}
use Prim.Native.Nat.{◌-◌}
use mathlib.Core.Bool.{true}
use mathlib.Core.Path.{ap, ◌∙◌}
use native.Mathlib.Omega.{arith}
use Rattle.split.proofs.write.+write_split_write_split_operands.Goals as goal

pub write_split-width-line-requires : goal.write_split-width-line-requires
write_split-width-line-requires t c =
    record { tables = c.requires.tables; known = c.requires.known; numberless = c.requires.numberless }

pub write_split-put_indent-text-requires : goal.write_split-put_indent-text-requires
write_split-put_indent-text-requires t c =
    fits (run-line c.args.page.now c.args.i _ _
    (fits_line _ _ c.width-line.ensures c.if-line-le-LINE_LIMIT.true) c.args.out.now
    c.args.at c.requires.room)

pub write_split-write_text-requires : goal.write_split-write_text-requires
write_split-write_text-requires t c =
    record {
      tables = c.requires.tables;
      numberless = c.requires.numberless;
      room = fits (next (run-line c.args.page.now c.args.i _ _
          (fits_line _ _ c.width-line.ensures c.if-line-le-LINE_LIMIT.true) c.args.out.now
          c.args.at c.requires.room) c.put_indent-text.ensures);
    }

pub write_split-shape_of-out-then-line-le-LINE_LIMIT : goal.write_split-shape_of-out-then-line-le-LINE_LIMIT
write_split-shape_of-out-then-line-le-LINE_LIMIT t c =
    c.write_text.auto.out ∙ c.put_indent-text.auto.out

pub write_split-returns-then-line-le-LINE_LIMIT : goal.write_split-returns-then-line-le-LINE_LIMIT
write_split-returns-then-line-le-LINE_LIMIT t c =
    end (next (next (run-line c.args.page.now c.args.i _ _
    (fits_line _ _ c.width-line.ensures c.if-line-le-LINE_LIMIT.true) c.args.out.now
    c.args.at c.requires.room) c.put_indent-text.ensures)
    c.write_text.ensures)

pub write_split-view_at-own-requires : goal.write_split-view_at-own-requires
write_split-view_at-own-requires t c =
    record { starts = starts-of c.requires.tables; numberless = c.requires.numberless }

pub write_split-put_front_at-at-requires : goal.write_split-put_front_at-at-requires
write_split-put_front_at-at-requires t c =
    record {
      node = c.view_at-own.ensures.stands;
      room = fits (run-split c.view_at-own.ensures.laid_out _ _
          (over-line _ _ c.width-line.ensures c.if-line-le-LINE_LIMIT.false) c.args.out.now
          c.args.at c.requires.room);
    }

pub write_split-write_split_operands-others-requires : goal.write_split-write_split_operands-others-requires
write_split-write_split_operands-others-requires t c =
    let laid_out = c.view_at-own.ensures.laid_out in
    let run = next
    (run-split laid_out _ _
    (over-line _ _ c.width-line.ensures c.if-line-le-LINE_LIMIT.false) c.args.out.now
    c.args.at c.requires.room) c.put_front_at-at.ensures in (
      omega (arith, laid_out.low, c.decreases),
      (
        fewer c.requires.tables (omega (arith, laid_out.low)),
        (
          c.requires.known,
          (
            c.view_at-own.ensures.stands,
            (
              laid_out.enough,
              rw (c.with_numberless-kept.ensures, c.is_minus-minus.ensures) (
                minus-numberless c.view_at-own.ensures,
                (omega (arith, laid_out.low, c.requires.level), fits run),
              ),
            ),
          ),
        ),
      ),
    )

pub write_split-put_rear_at-requires : goal.write_split-put_rear_at-requires
write_split-put_rear_at-requires t c =
    record {
      node = c.view_at-own.ensures.stands;
      room = fits (next (next (run-split c.view_at-own.ensures.laid_out _ _
          (over-line _ _ c.width-line.ensures c.if-line-le-LINE_LIMIT.false) c.args.out.now
          c.args.at c.requires.room) c.put_front_at-at.ensures)
          (rw c.with_numberless-kept.ensures at
          c.write_split_operands-others.ensures));
    }

pub write_split-shape_of-out : goal.write_split-shape_of-out
write_split-shape_of-out t c =
    c.put_rear_at.auto.out
    ∙ c.write_split_operands-others.auto.out
    ∙ c.put_front_at-at.auto.out

pub write_split-returns : goal.write_split-returns
write_split-returns t c =
    end (next (next (next (run-split c.view_at-own.ensures.laid_out _ _
    (over-line _ _ c.width-line.ensures c.if-line-le-LINE_LIMIT.false) c.args.out.now
    c.args.at c.requires.room) c.put_front_at-at.ensures)
    (rw c.with_numberless-kept.ensures at
    c.write_split_operands-others.ensures)) c.put_rear_at.ensures)

pub write_split_operands-returns-then-count-eq0 : goal.write_split_operands-returns-then-count-eq0
write_split_operands-returns-then-count-eq0 t c =
    let own = layout_at c.args.page.now c.args.own in
    wrote_nothing _ _
    (text-none (pretty_indented (inner_indents c.args.place.indents own)
    (inner_level c.args.place.level own))
    (pretty_indented true (inner_level c.args.place.level own)) c.requires.tables _
    c.requires.operands (between_at c.args.place.level own) c.if-count-eq0.true)

pub write_split_operands-overflow_sub-root : goal.write_split_operands-overflow_sub-root
write_split_operands-overflow_sub-root t c =
    (last-operand c.requires.tables _ c.requires.operands c.if-count-eq0.false).some

pub write_split_operands-inner_place-inner-requires : goal.write_split_operands-inner_place-inner-requires
write_split_operands-inner_place-inner-requires t c =
    omega (arith, c.requires.level)

pub write_split_operands-write_split-requires : goal.write_split_operands-write_split-requires
write_split_operands-write_split-requires t c =
    let w = last-operand c.requires.tables _ c.requires.operands c.if-count-eq0.false in
    let own = layout_at c.args.page.now c.args.own in
    let one = text-one
    (pretty_indented (inner_indents c.args.place.indents own)
    (inner_level c.args.place.level own))
    (pretty_indented true (inner_level c.args.place.level own)) c.requires.tables _
    c.requires.operands (between_at c.args.place.level own) c.if-count-eq1.true in (
      omega (arith, w.some, c.decreases),
      (
        fewer c.requires.tables (omega (arith, w.some)),
        (
          c.requires.known,
          (
            rw (c.inner_place-inner.ensures.is _ _ c.requires.node)
                c.requires.numberless,
            (
              omega (arith, w.some, c.requires.level, c.inner_place-inner.ensures.most),
              rw (c.inner_place-inner.ensures.is _ _ c.requires.node)
                  (omega (arith, ap length one, c.requires.room)),
            ),
          ),
        ),
      ),
    )

pub write_split_operands-shape_of-out-then-count-eq1 : goal.write_split_operands-shape_of-out-then-count-eq1
write_split_operands-shape_of-out-then-count-eq1 t c =
    c.write_split.auto.out

pub write_split_operands-returns-then-count-eq1 : goal.write_split_operands-returns-then-count-eq1
write_split_operands-returns-then-count-eq1 t c =
    let own = layout_at c.args.page.now c.args.own in
    let one = text-one
    (pretty_indented (inner_indents c.args.place.indents own)
    (inner_level c.args.place.level own))
    (pretty_indented true (inner_level c.args.place.level own)) c.requires.tables _
    c.requires.operands (between_at c.args.place.level own) c.if-count-eq1.true in
    wrote_as one
    (rw (c.inner_place-inner.ensures.is _ _ c.requires.node) at
    c.write_split.ensures)

pub write_split_operands-bounds-firsts-root : goal.write_split_operands-bounds-firsts-root
write_split_operands-bounds-firsts-root t c =
    omega (
      arith,
      (last-operand c.requires.tables _ c.requires.operands c.if-count-eq0.false).some,
      c.requires.tables.firsts-size,
      c.requires.tables.few,
    )

pub write_split_operands-overflow_cast-end : goal.write_split_operands-overflow_cast-end
write_split_operands-overflow_cast-end t c =
    omega (arith, c.type_inv.firsts (c.args.end - 1))

pub write_split_operands-overflow_sub-fewer : goal.write_split_operands-overflow_sub-fewer
write_split_operands-overflow_sub-fewer t c =
    omega (arith, c.if-count-eq0.false)

pub write_split_operands-write_split_operands-gap-requires : goal.write_split_operands-write_split_operands-gap-requires
write_split_operands-write_split_operands-gap-requires t c =
    let w = last-operand c.requires.tables _ c.requires.operands c.if-count-eq0.false in
    let own = layout_at c.args.page.now c.args.own in
    let run = run_more
    (pretty_indented (inner_indents c.args.place.indents own)
    (inner_level c.args.place.level own))
    (pretty_indented true (inner_level c.args.place.level own)) c.requires.tables _
    c.requires.operands (between_at c.args.place.level own) c.if-count-eq0.false
    c.if-count-eq1.false c.args.out.now c.args.at
    c.requires.room in (
      omega (arith, w.low, c.decreases),
      (
        fewer c.requires.tables (omega (arith, w.low)),
        (
          c.requires.known,
          (
            c.requires.node,
            (
              fewer-operands c.requires.tables _ c.requires.operands c.if-count-eq0.false,
              rw c.with_numberless-rest.ensures
                  (unmarked _ _, (omega (arith, w.low, c.requires.level), fits run)),
            ),
          ),
        ),
      ),
    )

pub write_split_operands-put_between_at-next-requires : goal.write_split_operands-put_between_at-next-requires
write_split_operands-put_between_at-next-requires t c =
    let own = layout_at c.args.page.now c.args.own in
    let run = run_more
    (pretty_indented (inner_indents c.args.place.indents own)
    (inner_level c.args.place.level own))
    (pretty_indented true (inner_level c.args.place.level own)) c.requires.tables _
    c.requires.operands (between_at c.args.place.level own) c.if-count-eq0.false
    c.if-count-eq1.false c.args.out.now c.args.at
    c.requires.room in record {
      node = c.requires.node;
      room = fits (next run
          (rw c.with_numberless-rest.ensures at
          c.write_split_operands-gap.ensures));
    }

pub write_split_operands-write_split-requires-2 : goal.write_split_operands-write_split-requires-2
write_split_operands-write_split-requires-2 t c =
    let w = last-operand c.requires.tables _ c.requires.operands c.if-count-eq0.false in
    let own = layout_at c.args.page.now c.args.own in
    let run = run_more
    (pretty_indented (inner_indents c.args.place.indents own)
    (inner_level c.args.place.level own))
    (pretty_indented true (inner_level c.args.place.level own)) c.requires.tables _
    c.requires.operands (between_at c.args.place.level own) c.if-count-eq0.false
    c.if-count-eq1.false c.args.out.now c.args.at
    c.requires.room in (
      omega (arith, w.some, c.decreases),
      (
        fewer c.requires.tables (omega (arith, w.some)),
        (
          c.requires.known,
          (
            rw (
              c.with_indents-last.ensures,
              c.inner_place-inner.ensures.is _ _ c.requires.node,
            )
                c.requires.numberless,
            (
              rw c.with_indents-last.ensures
                  (omega (arith, w.some, c.requires.level, c.inner_place-inner.ensures.most)),
              rw (
                c.with_indents-last.ensures,
                c.inner_place-inner.ensures.is _ _ c.requires.node,
              )
                  (fits (next (next run
                  (rw c.with_numberless-rest.ensures at
                  c.write_split_operands-gap.ensures))
                  c.put_between_at-next.ensures)),
            ),
          ),
        ),
      ),
    )

pub write_split_operands-shape_of-out : goal.write_split_operands-shape_of-out
write_split_operands-shape_of-out t c =
    c.write_split-2.auto.out
    ∙ c.put_between_at-next.auto.out
    ∙ c.write_split_operands-gap.auto.out

pub write_split_operands-returns : goal.write_split_operands-returns
write_split_operands-returns t c =
    let own = layout_at c.args.page.now c.args.own in
    let run = run_more
    (pretty_indented (inner_indents c.args.place.indents own)
    (inner_level c.args.place.level own))
    (pretty_indented true (inner_level c.args.place.level own)) c.requires.tables _
    c.requires.operands (between_at c.args.place.level own) c.if-count-eq0.false
    c.if-count-eq1.false c.args.out.now c.args.at
    c.requires.room in
    end (next (next (next run
    (rw c.with_numberless-rest.ensures at
    c.write_split_operands-gap.ensures)) c.put_between_at-next.ensures)
    (rw (
      c.with_indents-last.ensures,
      c.inner_place-inner.ensures.is _ _ c.requires.node,
    ) at
    c.write_split-2.ensures))
