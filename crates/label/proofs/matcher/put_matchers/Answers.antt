-- `label::matcher::put_matchers` meets its contract: collected, sorted, and their texts written. Assumes nothing.
use mathlib.Core.Path.{sym}
use lib.Seq.{length-take-le}
use Rattle.label.proofs.JoinLaws.{sorted-fits, sorted-wrote}
use Rattle.label.proofs.matcher.put_matchers.Goals as goal

pub collect-n-requires : goal.collect-n-requires
collect-n-requires c =
    record { stored = c.requires.stored; room = c.requires.limits.0; limit = c.requires.limits.1 }

pub slice_bounds-order-end : goal.slice_bounds-order-end
slice_bounds-order-end c =
    sym (length-take-le _ _ c.collect-n.ensures.inside)

pub arrange-requires : goal.arrange-requires
arrange-requires c =
    c.collect-n.ensures.print

pub put_in_order-requires : goal.put_in_order-requires
put_in_order-requires c = (
  c.arrange.ensures.print,
  sorted-fits c.collect-n.ensures c.arrange.ensures _ _ c.requires.room,
)

pub returns : goal.returns
returns c =
    sorted-wrote c.collect-n.ensures c.arrange.ensures c.put_in_order.ensures
