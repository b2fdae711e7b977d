-- `pieces::suffix_len` meets its contract: only a subquery has a suffix. Assumes nothing.
use lib.ListN.{length}
use mathlib.Core.Path.{refl, ap}
use native.Mathlib.Omega.{arith}
use Rattle.view.proofs.NodeLaws.{layout-read}
use borrow.Enum.Refused.{opened}
use Rattle.pieces.proofs.ShapeLaws.{no-suffix}
use Rattle.pieces.proofs.suffix_len.Goals as goal

pub returns-in_default : goal.returns-in_default
returns-in_default c =
    omega (arith, ap length (no-suffix c.requires _ (opened c.in_default.in_default-own.keys2) refl))

pub returns : goal.returns
returns c =
    let node = c.requires in
    rw (layout-read node c.attached_of-attached.ensures c.spacing_of-own.ensures refl)
    (omega (arith, c.capped_add.ensures, c.subquery_len.ensures))
