-- `view::view_at` meets its contract: the foot's kind says what the node is. Assumes nothing.
use Rattle.view.proofs.ChainedLaws.{chained-here}
use Rattle.view.proofs.NodeLaws.{view-number, view-string, view-selector, view-subquery, view-paren, view-binary}
use Rattle.view.proofs.NodeLaws.{view-aggregate, view-call, foot-call}
use Rattle.view.proofs.view_at.Goals as goal

pub kind_at-requires : goal.kind_at-requires
kind_at-requires c =
    chained-here c.requires.starts c.foot_of-j.ensures.chain

pub unary_view-requires : goal.unary_view-requires
unary_view-requires c =
    let p = c.requires in
    record {
      starts = p.starts;
      foot = c.foot_of-j.ensures;
      kind = rw c.in-7.is at c.kind_at.ensures;
      numberless = p.numberless;
    }

pub operands_at-requires : goal.operands_at-requires
operands_at-requires c =
    chained-here c.requires.starts c.foot_of-j.ensures.chain

pub operands_at-requires-in_default : goal.operands_at-requires-in_default
operands_at-requires-in_default c =
    chained-here c.requires.starts c.foot_of-j.ensures.chain

pub returns-in-0 : goal.returns-in-0
returns-in-0 c =
    let kind = rw c.in-0.is at c.kind_at.ensures in
    rw c.node_of.ensures (view-number c.requires.starts c.foot_of-j.ensures.chain kind)

pub returns-in-1 : goal.returns-in-1
returns-in-1 c =
    let kind = rw c.in-1.is at c.kind_at.ensures in
    rw c.node_of-in-1.ensures (view-string c.requires.starts c.foot_of-j.ensures.chain kind)

pub returns-in-2 : goal.returns-in-2
returns-in-2 c =
    let kind = rw c.in-2.is at c.kind_at.ensures in
    rw c.node_of-in-2.ensures (view-selector c.requires.starts c.foot_of-j.ensures.chain kind)

pub returns-in-4 : goal.returns-in-4
returns-in-4 c =
    let kind = rw c.in-4.is at c.kind_at.ensures in
    rw c.node_of-in-4.ensures (view-subquery c.requires.starts c.foot_of-j.ensures.chain kind)

pub returns-in-8 : goal.returns-in-8
returns-in-8 c =
    let kind = rw c.in-8.is at c.kind_at.ensures in
    rw c.node_of-in-8.ensures (view-paren c.requires.starts c.foot_of-j.ensures.chain kind)

pub returns-in-9 : goal.returns-in-9
returns-in-9 c =
    let kind = rw c.in-9.is at c.kind_at.ensures in
    rw c.node_of-in-9.ensures (view-binary c.requires.starts c.foot_of-j.ensures.chain kind)

pub returns-in-10 : goal.returns-in-10
returns-in-10 c =
    let kind = rw c.in-10.is at c.kind_at.ensures in
    rw c.node_of-in-10.ensures
    (view-aggregate c.requires.starts c.foot_of-j.ensures.chain kind
    c.operands_at.ensures)

pub returns-in_default : goal.returns-in_default
returns-in_default c =
    let not = c.in_default.in_default-own.rest in
    let last = foot-call c.foot_of-j.ensures c.kind_at.ensures not.0.0.0.0.0.0.0.1
    not.0.0.0.0.0.0.1
    not.0.0.0.0.0.1 not.0.0.0.0.1 not.0.0.0.1 not.0.0.1 not.0.1 not.1 in
    rw c.node_of-in_default.ensures
    (view-call c.requires.starts c.foot_of-j.ensures.chain last c.operands_at-in_default.ensures)
