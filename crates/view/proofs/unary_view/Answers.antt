-- `view::unary_view` meets its contract: the value of the tree says whether the minus is a number's sign. Assumes
-- nothing.
use Rattle.view.proofs.ChainedLaws.{chained-here}
use Rattle.view.proofs.NodeLaws.{view-unary, view-valued, numberless-below}
use Rattle.view.proofs.unary_view.Goals as goal

pub returns-then-numberless : goal.returns-then-numberless
returns-then-numberless c =
    let p = c.requires in
    let numberless = numberless-below p.starts p.foot.chain (rw c.if-numberless.true at p.numberless) in
    rw c.node_of.ensures (view-unary p.starts p.foot.chain p.kind numberless)

pub signed_literal-requires : goal.signed_literal-requires
signed_literal-requires c =
    let p = c.requires in chained-here p.starts p.foot.chain

pub returns-in-Some : goal.returns-in-Some
returns-in-Some c =
    let p = c.requires in
    let number = rw c.in-Some.is at c.signed_literal.ensures in
    rw c.node_of-in-Some.ensures (view-valued p.starts p.foot.chain (record { value = _; is = number }))

pub returns-in-None : goal.returns-in-None
returns-in-None c =
    let p = c.requires in
    let numberless = rw c.in-None.is at c.signed_literal.ensures in
    rw c.node_of-in-None.ensures (view-unary p.starts p.foot.chain p.kind numberless)
