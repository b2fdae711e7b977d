-- `indented::rear_at_len` meets its contract: by the shape. Assumes nothing.
use Rattle.indented.proofs.IndentLaws.{closed-len}
use Rattle.view.proofs.NodeLaws.{layout-shaped}
use Rattle.text.proofs.CappedLaws.{len-as}
use Rattle.text.specs.Layout.{Layout, rear_at}
use lib.ListN.{length}
use mathlib.Core.Path.{sym, ap, ◌∙◌}
use native.Mathlib.Omega.{arith}
use Rattle.indented.proofs.rear_at_len.Goals as goal

pub suffix_len-requires : goal.suffix_len-requires
suffix_len-requires c =
    c.requires.node

pub indent_len-requires : goal.indent_len-requires
indent_len-requires c =
    c.requires.level

pub returns-in-Whole : goal.returns-in-Whole
returns-in-Whole c =
    let e = layout-shaped c.requires.node
    (sym c.in-Whole.is ∙ c.shape_of.ensures) in
    omega (arith, ap (λ (l : Layout). length (rear_at c.args.level l)) e)

pub returns-in-Minus : goal.returns-in-Minus
returns-in-Minus c =
    let e = layout-shaped c.requires.node
    (sym c.in-Minus.is ∙ c.shape_of.ensures) in
    omega (arith, ap (λ (l : Layout). length (rear_at c.args.level l)) e)

pub returns-in-Suffixed : goal.returns-in-Suffixed
returns-in-Suffixed c =
    let e = layout-shaped c.requires.node
    (sym c.in-Suffixed.is ∙ c.shape_of.ensures) in
    len-as _ _ _ (ap (rear_at c.args.level) e) c.suffix_len.ensures

pub returns-in-Enclosed : goal.returns-in-Enclosed
returns-in-Enclosed c =
    let e = layout-shaped c.requires.node
    (sym c.in-Enclosed.is ∙ c.shape_of.ensures) in
    len-as _ _ _ (ap (rear_at c.args.level) e)
    (closed-len c.args.level _ _ _ c.indent_len.ensures c.capped_add.ensures)

pub returns-in-Infixed : goal.returns-in-Infixed
returns-in-Infixed c =
    let e = layout-shaped c.requires.node
    (sym c.in-Infixed.is ∙ c.shape_of.ensures) in
    omega (arith, ap (λ (l : Layout). length (rear_at c.args.level l)) e)
