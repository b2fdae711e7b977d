use Rattle.canonical.proofs.TextLaws.{run-node}
use Rattle.text.proofs.WriteLaws.{wrote_nothing, wrote_as, text-none, text-one, run_more}
use Rattle.view.proofs.ViewLaws.{starts-of, unmarked}
use Rattle.text.proofs.LengthLaws.{last-operand, fewer-operands}
use Rattle.text.specs.Display.{display}
use Rattle.view.proofs.NodeLaws.{minus-numberless}
use Rattle.text.proofs.OperandLaws.{fewer}
use Rattle.base.proofs.SpliceLaws.{fits, next, end}
use Rattle.view.specs.View.{layout_at}
use Rattle.text.specs.Layout.{between}
use lib.ListN.{length}
use Prim.Native.Nat.{◌-◌}
use mathlib.Core.Path.{ap, ◌∙◌}
use native.Mathlib.Omega.{arith}
use Rattle.canonical.proofs.+write_operands_write_text.Goals as goal

pub write_operands-returns-then-count-eq0 : goal.write_operands-returns-then-count-eq0
write_operands-returns-then-count-eq0 t c =
    wrote_nothing _ _ (text-none display display c.requires.tables _ c.requires.operands _ c.if-count-eq0.true)

pub write_operands-overflow_sub-root : goal.write_operands-overflow_sub-root
write_operands-overflow_sub-root t c =
    (last-operand c.requires.tables _ c.requires.operands c.if-count-eq0.false).some

pub write_operands-write_text-requires : goal.write_operands-write_text-requires
write_operands-write_text-requires t c =
    let w = last-operand c.requires.tables _ c.requires.operands c.if-count-eq0.false in (
      omega (arith, w.some, c.decreases),
      (
        fewer c.requires.tables (omega (arith, w.some)),
        (
          c.requires.numberless,
          omega (
            arith,
            ap length
                (text-one display display c.requires.tables _ c.requires.operands
                (between (layout_at c.args.page.now c.args.node)) c.if-count-eq1.true),
            c.requires.room,
          ),
        ),
      ),
    )

pub write_operands-shape_of-out-then-count-eq1 : goal.write_operands-shape_of-out-then-count-eq1
write_operands-shape_of-out-then-count-eq1 t c =
    c.write_text.auto.out

pub write_operands-returns-then-count-eq1 : goal.write_operands-returns-then-count-eq1
write_operands-returns-then-count-eq1 t c =
    wrote_as
    (text-one display display c.requires.tables _ c.requires.operands _ c.if-count-eq1.true)
    c.write_text.ensures

pub write_operands-bounds-firsts-root : goal.write_operands-bounds-firsts-root
write_operands-bounds-firsts-root t c =
    omega (
      arith,
      (last-operand c.requires.tables _ c.requires.operands c.if-count-eq0.false).some,
      c.requires.tables.firsts-size,
      c.requires.tables.few,
    )

pub write_operands-overflow_cast-first : goal.write_operands-overflow_cast-first
write_operands-overflow_cast-first t c =
    omega (arith, c.type_inv.firsts (c.args.end - 1))

pub write_operands-overflow_sub-count : goal.write_operands-overflow_sub-count
write_operands-overflow_sub-count t c =
    omega (arith, c.if-count-eq0.false)

pub write_operands-write_operands-gap-requires : goal.write_operands-write_operands-gap-requires
write_operands-write_operands-gap-requires t c =
    let w = last-operand c.requires.tables _ c.requires.operands c.if-count-eq0.false in
    let run = run_more display display c.requires.tables _ c.requires.operands
    (between (layout_at c.args.page.now c.args.node)) c.if-count-eq0.false
    c.if-count-eq1.false c.args.out.now c.args.at
    c.requires.room in (
      omega (arith, w.low, c.decreases),
      (
        fewer c.requires.tables (omega (arith, w.low)),
        (
          c.requires.node,
          (
            fewer-operands c.requires.tables _ c.requires.operands c.if-count-eq0.false,
            (unmarked _ _, fits run),
          ),
        ),
      ),
    )

pub write_operands-put_between-next-requires : goal.write_operands-put_between-next-requires
write_operands-put_between-next-requires t c =
    let run = run_more display display c.requires.tables _ c.requires.operands
    (between (layout_at c.args.page.now c.args.node)) c.if-count-eq0.false
    c.if-count-eq1.false c.args.out.now c.args.at c.requires.room in
    record { node = c.requires.node; room = fits (next run c.write_operands-gap.ensures) }

pub write_operands-write_text-requires-2 : goal.write_operands-write_text-requires-2
write_operands-write_text-requires-2 t c =
    let w = last-operand c.requires.tables _ c.requires.operands c.if-count-eq0.false in
    let run = run_more display display c.requires.tables _ c.requires.operands
    (between (layout_at c.args.page.now c.args.node)) c.if-count-eq0.false
    c.if-count-eq1.false c.args.out.now c.args.at c.requires.room in (
      omega (arith, w.some, c.decreases),
      (
        fewer c.requires.tables (omega (arith, w.some)),
        (
          c.requires.numberless,
          fits (next (next run c.write_operands-gap.ensures) c.put_between-next.ensures),
        ),
      ),
    )

pub write_operands-shape_of-out : goal.write_operands-shape_of-out
write_operands-shape_of-out t c =
    c.write_text-2.auto.out ∙ c.put_between-next.auto.out
    ∙ c.write_operands-gap.auto.out

pub write_operands-returns : goal.write_operands-returns
write_operands-returns t c =
    let run = run_more display display c.requires.tables _ c.requires.operands
    (between (layout_at c.args.page.now c.args.node)) c.if-count-eq0.false
    c.if-count-eq1.false c.args.out.now c.args.at c.requires.room in
    end (next (next (next run c.write_operands-gap.ensures) c.put_between-next.ensures)
    c.write_text-2.ensures)

pub write_text-view_at-node-requires : goal.write_text-view_at-node-requires
write_text-view_at-node-requires t c =
    record { starts = starts-of c.requires.tables; numberless = c.requires.numberless }

pub write_text-put_front-inner-requires : goal.write_text-put_front-inner-requires
write_text-put_front-inner-requires t c =
    record {
      node = c.view_at-node.ensures.stands;
      room = fits (run-node c.view_at-node.ensures.laid_out c.args.out.now
          c.args.at c.requires.room);
    }

pub write_text-write_operands-others-requires : goal.write_text-write_operands-others-requires
write_text-write_operands-others-requires t c =
    let laid_out = c.view_at-node.ensures.laid_out in
    let run = next (run-node laid_out c.args.out.now c.args.at c.requires.room)
    c.put_front-inner.ensures in (
      omega (arith, laid_out.low, c.decreases),
      (
        fewer c.requires.tables (omega (arith, laid_out.low)),
        (
          c.view_at-node.ensures.stands,
          (
            laid_out.enough,
            (rw c.is_minus-minus.ensures (minus-numberless c.view_at-node.ensures), fits run),
          ),
        ),
      ),
    )

pub write_text-put_rear-requires : goal.write_text-put_rear-requires
write_text-put_rear-requires t c =
    record {
      node = c.view_at-node.ensures.stands;
      room = fits (next (next (run-node c.view_at-node.ensures.laid_out c.args.out.now
          c.args.at c.requires.room) c.put_front-inner.ensures)
          c.write_operands-others.ensures);
    }

pub write_text-shape_of-out : goal.write_text-shape_of-out
write_text-shape_of-out t c =
    c.put_rear.auto.out ∙ c.write_operands-others.auto.out
    ∙ c.put_front-inner.auto.out

pub write_text-returns : goal.write_text-returns
write_text-returns t c =
    end (next (next (next (run-node c.view_at-node.ensures.laid_out c.args.out.now
    c.args.at c.requires.room) c.put_front-inner.ensures)
    c.write_operands-others.ensures) c.put_rear.ensures)
