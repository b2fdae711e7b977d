use Rattle.std.proofs.lemmas.Slice.Zip.{either_empty_from_Zip}
use Rattle.functions.proofs.OrderLaws.{left-all, left-differ, left-next, left-ended}
use Rattle.functions.proofs.order.order_of.Goals as goal

pub loop-x-init : goal.loop-x-init
loop-x-init c =
    rw (
      c.into_iter-x-iterator.ensures.into_iter_gives,
      c.zip-x-items.ensures.first,
      c.zip-x-items.ensures.second,
      c.iter.ensures.rest,
      c.iter-2.ensures.rest,
    )
    (left-all c.args.a.now c.args.b.now _ c.min-shared.ensures)

pub returns-then-x-y : goal.returns-then-x-y
returns-then-x-y c =
    rw c.cmp.ensures
    (left-differ _ _ _ _ _ _ _ _ c.in-Some.ensures.steps.0 c.in-Some.ensures.steps.1 c.if-x-y.true c.loop-x.invariant)

pub loop-x-preserved : goal.loop-x-preserved
loop-x-preserved c =
    left-next _ _ _ _ _ _ _ _ c.in-Some.ensures.steps.0 c.in-Some.ensures.steps.1 c.if-x-y.false c.loop-x.invariant

pub returns : goal.returns
returns c =
    rw c.cmp-2.ensures
    (left-ended _ _ _ _ (either_empty_from_Zip c.loop-x.x-iterator c.next.new.self _ c.in-None.is c.next.ensures.steps) c.loop-x.invariant)
