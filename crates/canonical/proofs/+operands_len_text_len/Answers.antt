use Rattle.view.proofs.ViewLaws.{starts-of, unmarked}
use Rattle.text.proofs.LengthLaws.{last-operand, fewer-operands, len-none, len-one, len-full, len_more}
use Rattle.canonical.proofs.TextLaws.{len-tree}
use Rattle.text.specs.Display.{display}
use Rattle.view.proofs.NodeLaws.{minus-numberless}
use Rattle.text.proofs.OperandLaws.{fewer}
use Prim.Native.Nat.{◌-◌}
use native.Mathlib.Omega.{arith}
use Rattle.canonical.proofs.+operands_len_text_len.Goals as goal

pub operands_len-returns-then-count-eq0 : goal.operands_len-returns-then-count-eq0
operands_len-returns-then-count-eq0 t c =
    len-none display display c.requires.tables _ c.requires.operands _ _ c.if-count-eq0.true

pub operands_len-overflow_sub-root : goal.operands_len-overflow_sub-root
operands_len-overflow_sub-root t c =
    (last-operand c.requires.tables _ c.requires.operands c.if-count-eq0.false).some

pub operands_len-text_len-last-requires : goal.operands_len-text_len-last-requires
operands_len-text_len-last-requires t c =
    let w = last-operand c.requires.tables _ c.requires.operands c.if-count-eq0.false in (
      omega (arith, w.some, c.decreases),
      (fewer c.requires.tables (omega (arith, w.some)), c.requires.numberless),
    )

pub operands_len-returns-then-count-eq1 : goal.operands_len-returns-then-count-eq1
operands_len-returns-then-count-eq1 t c =
    len-one display display c.requires.tables _ c.requires.operands _ _ _ c.if-count-eq1.true
    c.text_len-last.ensures

pub operands_len-overflow_sub-left : goal.operands_len-overflow_sub-left
operands_len-overflow_sub-left t c =
    omega (arith, c.text_len-last.ensures)

pub operands_len-returns-then-left-gap : goal.operands_len-returns-then-left-gap
operands_len-returns-then-left-gap t c =
    len-full display display c.requires.tables _ c.requires.operands c.if-count-eq0.false
    c.if-count-eq1.false _ _ _ c.text_len-last.ensures c.if-left-gap.true

pub operands_len-bounds-firsts-root : goal.operands_len-bounds-firsts-root
operands_len-bounds-firsts-root t c =
    omega (
      arith,
      (last-operand c.requires.tables _ c.requires.operands c.if-count-eq0.false).some,
      c.requires.tables.firsts-size,
      c.requires.tables.few,
    )

pub operands_len-overflow_cast-first : goal.operands_len-overflow_cast-first
operands_len-overflow_cast-first t c =
    omega (arith, c.type_inv.firsts (c.args.end - 1))

pub operands_len-overflow_sub-count : goal.operands_len-overflow_sub-count
operands_len-overflow_sub-count t c =
    omega (arith, c.if-count-eq0.false)

pub operands_len-overflow_sub-left-2 : goal.operands_len-overflow_sub-left-2
operands_len-overflow_sub-left-2 t c =
    omega (arith, c.if-left-gap.false)

pub operands_len-operands_len-rest-requires : goal.operands_len-operands_len-rest-requires
operands_len-operands_len-rest-requires t c =
    let w = last-operand c.requires.tables _ c.requires.operands c.if-count-eq0.false in (
      omega (arith, w.low, c.decreases),
      (
        fewer c.requires.tables (omega (arith, w.low)),
        (fewer-operands c.requires.tables _ c.requires.operands c.if-count-eq0.false, unmarked _ _),
      ),
    )

pub operands_len-overflow_add-result : goal.operands_len-overflow_add-result
operands_len-overflow_add-result t c =
    omega (arith, c.text_len-last.ensures, c.if-left-gap.false)

pub operands_len-overflow_add-result-2 : goal.operands_len-overflow_add-result-2
operands_len-overflow_add-result-2 t c =
    omega (arith, c.text_len-last.ensures, c.if-left-gap.false, c.operands_len-rest.ensures.bound)

pub operands_len-returns : goal.operands_len-returns
operands_len-returns t c =
    len_more display display c.requires.tables _ c.requires.operands c.if-count-eq0.false
    c.if-count-eq1.false _ _ _ c.text_len-last.ensures _ c.if-left-gap.false
    c.operands_len-rest.ensures

pub text_len-returns-then-cap-eq0 : goal.text_len-returns-then-cap-eq0
text_len-returns-then-cap-eq0 t c =
    omega (arith, c.if-cap-eq0.true)

pub text_len-view_at-node-requires : goal.text_len-view_at-node-requires
text_len-view_at-node-requires t c =
    record { starts = starts-of c.requires.tables; numberless = c.requires.numberless }

pub text_len-front_len-front-requires : goal.text_len-front_len-front-requires
text_len-front_len-front-requires t c =
    c.view_at-node.ensures.stands

pub text_len-overflow_sub-cap : goal.text_len-overflow_sub-cap
text_len-overflow_sub-cap t c =
    omega (arith, c.front_len-front.ensures)

pub text_len-between_len-gap-requires : goal.text_len-between_len-gap-requires
text_len-between_len-gap-requires t c =
    c.view_at-node.ensures.stands

pub text_len-overflow_sub-cap-2 : goal.text_len-overflow_sub-cap-2
text_len-overflow_sub-cap-2 t c =
    omega (arith, c.front_len-front.ensures)

pub text_len-operands_len-inner-requires : goal.text_len-operands_len-inner-requires
text_len-operands_len-inner-requires t c =
    let laid_out = c.view_at-node.ensures.laid_out in (
      omega (arith, laid_out.low, c.decreases),
      (
        fewer c.requires.tables (omega (arith, laid_out.low)),
        (laid_out.enough, rw c.is_minus.ensures (minus-numberless c.view_at-node.ensures)),
      ),
    )

pub text_len-overflow_sub-cap-3 : goal.text_len-overflow_sub-cap-3
text_len-overflow_sub-cap-3 t c =
    omega (arith, c.front_len-front.ensures)

pub text_len-overflow_sub-cap-4 : goal.text_len-overflow_sub-cap-4
text_len-overflow_sub-cap-4 t c =
    omega (arith, c.front_len-front.ensures, c.operands_len-inner.ensures.bound)

pub text_len-rear_len-rear-requires : goal.text_len-rear_len-rear-requires
text_len-rear_len-rear-requires t c =
    c.view_at-node.ensures.stands

pub text_len-overflow_add-result : goal.text_len-overflow_add-result
text_len-overflow_add-result t c =
    omega (arith, c.front_len-front.ensures, c.operands_len-inner.ensures.bound)

pub text_len-overflow_add-result-2 : goal.text_len-overflow_add-result-2
text_len-overflow_add-result-2 t c =
    omega (
      arith,
      c.front_len-front.ensures,
      c.operands_len-inner.ensures.bound,
      c.rear_len-rear.ensures,
    )

pub text_len-returns : goal.text_len-returns
text_len-returns t c =
    len-tree c.view_at-node.ensures.laid_out _ _ _ _ _ c.front_len-front.ensures
    c.between_len-gap.ensures c.operands_len-inner.ensures c.rear_len-rear.ensures
