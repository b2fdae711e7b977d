-- `canonical::own::front_len` meets its contract: by the shape, the head and a bracket. Assumes nothing.
use Rattle.view.proofs.NodeLaws.{layout-shaped}
use Rattle.view.specs.View.{layout_at}
use Rattle.text.proofs.CappedLaws.{len-as, len-plus}
use Rattle.text.specs.Layout.{Layout, head, front}
use Rattle.page.specs.Bytes.{bytes}
use lib.ListN.{length}
use mathlib.Core.Path.{sym, ap, ◌∙◌}
use native.Mathlib.Omega.{arith}
use Rattle.canonical.proofs.own.front_len.Goals as goal

pub head_len-requires : goal.head_len-requires
head_len-requires c =
    c.requires

pub head_len-requires-in-Minus : goal.head_len-requires-in-Minus
head_len-requires-in-Minus c =
    c.requires

pub head_len-requires-in-Enclosed : goal.head_len-requires-in-Enclosed
head_len-requires-in-Enclosed c =
    c.requires

pub returns-in-Whole : goal.returns-in-Whole
returns-in-Whole c =
    let e = layout-shaped c.requires (sym c.in-Whole.is ∙ c.shape_of.ensures) in
    len-as _ _ _ (ap front e) c.head_len.ensures

pub returns-in-Minus : goal.returns-in-Minus
returns-in-Minus c =
    let e = layout-shaped c.requires
    (sym c.in-Minus.is ∙ c.shape_of.ensures) in
    len-as _ _ _ (ap front e ∙ sym (ap head e)) c.head_len-in-Minus.ensures

pub returns-in-Suffixed : goal.returns-in-Suffixed
returns-in-Suffixed c =
    let e = layout-shaped c.requires (sym c.in-Suffixed.is ∙ c.shape_of.ensures) in
    omega (arith, ap (λ (l : Layout). length (front l)) e)

pub returns-in-Enclosed : goal.returns-in-Enclosed
returns-in-Enclosed c =
    let e = layout-shaped c.requires
    (sym c.in-Enclosed.is ∙ c.shape_of.ensures) in
    len-plus _ (head (layout_at c.args.page.now c.args.node)) (bytes "(") _ _ _
    (ap front e) c.head_len-in-Enclosed.ensures c.capped_add.ensures

pub returns-in-Infixed : goal.returns-in-Infixed
returns-in-Infixed c =
    let e = layout-shaped c.requires (sym c.in-Infixed.is ∙ c.shape_of.ensures) in
    omega (arith, ap (λ (l : Layout). length (front l)) e)
