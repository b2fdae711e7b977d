-- `canonical::own::between_len` meets its contract: a comma, or the operator, with spaces. Assumes nothing.
use Rattle.canonical.proofs.TextLaws.{spaced}
use Rattle.view.proofs.NodeLaws.{layout-shaped}
use Rattle.view.specs.View.{layout_at}
use Rattle.text.specs.Layout.{Layout, operator, between}
use lib.ListN.{length}
use mathlib.Core.Path.{sym, ap, ◌∙◌}
use native.Mathlib.Omega.{arith}
use Rattle.canonical.proofs.own.between_len.Goals as goal

pub operator_len-requires : goal.operator_len-requires
operator_len-requires c =
    c.requires

pub returns-in-Whole : goal.returns-in-Whole
returns-in-Whole c =
    let e = layout-shaped c.requires (sym c.in-Whole.is ∙ c.shape_of.ensures) in
    omega (arith, ap (λ (l : Layout). length (between l)) e)

pub returns-in-Minus : goal.returns-in-Minus
returns-in-Minus c =
    let e = layout-shaped c.requires (sym c.in-Minus.is ∙ c.shape_of.ensures) in
    omega (arith, ap (λ (l : Layout). length (between l)) e)

pub returns-in-Suffixed : goal.returns-in-Suffixed
returns-in-Suffixed c =
    let e = layout-shaped c.requires (sym c.in-Suffixed.is ∙ c.shape_of.ensures) in
    omega (arith, ap (λ (l : Layout). length (between l)) e)

pub returns-in-Enclosed : goal.returns-in-Enclosed
returns-in-Enclosed c =
    let e = layout-shaped c.requires
    (sym c.in-Enclosed.is ∙ c.shape_of.ensures) in
    omega (arith, c.capped_add.ensures, ap (λ (l : Layout). length (between l)) e)

pub returns-in-Infixed : goal.returns-in-Infixed
returns-in-Infixed c =
    let e = layout-shaped c.requires
    (sym c.in-Infixed.is ∙ c.shape_of.ensures) in
    omega (
      arith,
      c.operator_len.ensures,
      c.capped_add-in-Infixed.ensures,
      ap (λ (l : Layout). length (between l)) e,
      spaced (operator (layout_at c.args.page.now c.args.node)),
    )
