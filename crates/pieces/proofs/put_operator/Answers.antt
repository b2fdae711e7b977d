-- `pieces::put_operator` meets its contract: only a binary node has an operator. Assumes nothing.
use mathlib.Core.Path.{refl}
use Rattle.text.proofs.WriteLaws.{wrote_nothing}
use Rattle.view.proofs.NodeLaws.{layout-read}
use borrow.Enum.Refused.{opened}
use Rattle.pieces.proofs.ShapeLaws.{no-operator}
use Rattle.pieces.proofs.put_operator.Goals as goal

pub returns-in_default : goal.returns-in_default
returns-in_default c =
    wrote_nothing _ _ (no-operator c.requires.node _ (opened c.in_default.in_default-own.keys2) refl)

pub put_operator-requires : goal.put_operator-requires
put_operator-requires c =
    let p = c.requires in
    let own = c.operator_of-own.ensures in
    record {
      stored = own.stored;
      exact = own.exact;
      room = rw (layout-read p.node p.node.chain.sets own.reads refl) at p.room;
    }

pub returns : goal.returns
returns c =
    let p = c.requires in
    rw (layout-read p.node p.node.chain.sets c.operator_of-own.ensures.reads refl)
    c.put_operator.ensures
