-- `pieces::put_suffix` meets its contract: only a subquery has a suffix. Assumes nothing.
use mathlib.Core.Path.{refl}
use Rattle.text.proofs.WriteLaws.{wrote_nothing}
use Rattle.view.proofs.NodeLaws.{layout-read}
use borrow.Enum.Refused.{opened}
use Rattle.pieces.proofs.ShapeLaws.{no-suffix}
use Rattle.pieces.proofs.put_suffix.Goals as goal

pub returns-in_default : goal.returns-in_default
returns-in_default c =
    wrote_nothing _ _ (no-suffix c.requires.node _ (opened c.in_default.in_default-own.keys2) refl)

pub put_subquery-requires : goal.put_subquery-requires
put_subquery-requires c =
    let p = c.requires in
    rw (layout-read p.node c.attached_of-attached.ensures c.spacing_of-own.ensures refl) at
    p.room

pub returns : goal.returns
returns c =
    let p = c.requires in
    rw (layout-read p.node c.attached_of-attached.ensures c.spacing_of-own.ensures refl)
    c.put_subquery.ensures
