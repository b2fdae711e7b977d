-- `functions::order::order_of` meets its contract. The loop's invariant: what is left of both texts decides. Assumes
-- nothing.
use Rattle.functions.proofs.OrderLaws.{Left}
use Rattle.functions.proofs.order.order_of.Given as goal

abbrev pub invariant-loop-x : goal.invariant-loop-x
invariant-loop-x l =
    Left l.a l.b l.x-iterator.a.rest.now l.x-iterator.b.rest.now
