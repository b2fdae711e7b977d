-- `pieces::operator_len` meets its contract: only a binary node has an operator. Assumes nothing.
use lib.ListN.{length}
use mathlib.Core.Path.{refl, ap}
use native.Mathlib.Omega.{arith}
use Rattle.view.proofs.NodeLaws.{layout-read}
use borrow.Enum.Refused.{opened}
use Rattle.pieces.proofs.ShapeLaws.{no-operator}
use Rattle.pieces.proofs.operator_len.Goals as goal

pub returns-in_default : goal.returns-in_default
returns-in_default c =
    omega (arith, ap length (no-operator c.requires _ (opened c.in_default.in_default-own.keys2) refl))

pub returns : goal.returns
returns c =
    let node = c.requires in
    rw (layout-read node node.chain.sets c.operator_of-own.ensures.reads refl) c.operator_len.ensures
