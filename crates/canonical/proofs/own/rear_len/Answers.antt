-- `canonical::own::rear_len` meets its contract: the suffix, or a bracket. Assumes nothing.
use Rattle.view.proofs.NodeLaws.{layout-shaped}
use Rattle.text.proofs.CappedLaws.{len-as}
use Rattle.text.specs.Layout.{Layout, rear}
use lib.ListN.{length}
use mathlib.Core.Path.{sym, ap, ◌∙◌}
use native.Mathlib.Omega.{arith}
use Rattle.canonical.proofs.own.rear_len.Goals as goal

pub suffix_len-requires : goal.suffix_len-requires
suffix_len-requires c =
    c.requires

pub returns-in-Whole : goal.returns-in-Whole
returns-in-Whole c =
    let e = layout-shaped c.requires (sym c.in-Whole.is ∙ c.shape_of.ensures) in
    omega (arith, ap (λ (l : Layout). length (rear l)) e)

pub returns-in-Minus : goal.returns-in-Minus
returns-in-Minus c =
    let e = layout-shaped c.requires (sym c.in-Minus.is ∙ c.shape_of.ensures) in
    omega (arith, ap (λ (l : Layout). length (rear l)) e)

pub returns-in-Suffixed : goal.returns-in-Suffixed
returns-in-Suffixed c =
    let e = layout-shaped c.requires
    (sym c.in-Suffixed.is ∙ c.shape_of.ensures) in
    len-as _ _ _ (ap rear e) c.suffix_len.ensures

pub returns-in-Enclosed : goal.returns-in-Enclosed
returns-in-Enclosed c =
    let e = layout-shaped c.requires
    (sym c.in-Enclosed.is ∙ c.shape_of.ensures) in
    omega (arith, c.capped_add.ensures, ap (λ (l : Layout). length (rear l)) e)

pub returns-in-Infixed : goal.returns-in-Infixed
returns-in-Infixed c =
    let e = layout-shaped c.requires (sym c.in-Infixed.is ∙ c.shape_of.ensures) in
    omega (arith, ap (λ (l : Layout). length (rear l)) e)
