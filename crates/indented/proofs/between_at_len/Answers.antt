-- `indented::between_at_len` meets its contract: by the shape. Assumes nothing.
use Rattle.indented.proofs.IndentLaws.{infixed-len}
use Rattle.view.proofs.NodeLaws.{layout-shaped}
use Rattle.view.specs.View.{layout_at}
use Rattle.text.proofs.CappedLaws.{len-as}
use Rattle.text.specs.Layout.{Layout, operator, between_at}
use lib.ListN.{length}
use mathlib.Core.Path.{sym, ap, ◌∙◌}
use native.Mathlib.Omega.{arith}
use Rattle.indented.proofs.between_at_len.Goals as goal

pub indent_len-lead-requires : goal.indent_len-lead-requires
indent_len-lead-requires c =
    c.requires.level

pub overflow_sub-cap : goal.overflow_sub-cap
overflow_sub-cap c =
    omega (arith, c.indent_len-lead.ensures)

pub operator_len-requires : goal.operator_len-requires
operator_len-requires c =
    c.requires.node

pub overflow_add-lead : goal.overflow_add-lead
overflow_add-lead c =
    omega (arith, c.indent_len-lead.ensures, c.operator_len.ensures)

pub returns-in-Whole : goal.returns-in-Whole
returns-in-Whole c =
    let e = layout-shaped c.requires.node
    (sym c.in-Whole.is ∙ c.shape_of.ensures) in
    omega (arith, ap (λ (l : Layout). length (between_at c.args.level l)) e)

pub returns-in-Minus : goal.returns-in-Minus
returns-in-Minus c =
    let e = layout-shaped c.requires.node
    (sym c.in-Minus.is ∙ c.shape_of.ensures) in
    omega (arith, ap (λ (l : Layout). length (between_at c.args.level l)) e)

pub returns-in-Suffixed : goal.returns-in-Suffixed
returns-in-Suffixed c =
    let e = layout-shaped c.requires.node
    (sym c.in-Suffixed.is ∙ c.shape_of.ensures) in
    omega (arith, ap (λ (l : Layout). length (between_at c.args.level l)) e)

pub returns-in-Enclosed : goal.returns-in-Enclosed
returns-in-Enclosed c =
    let e = layout-shaped c.requires.node
    (sym c.in-Enclosed.is ∙ c.shape_of.ensures) in
    omega (arith, c.capped_add.ensures, ap (λ (l : Layout). length (between_at c.args.level l)) e)

pub returns-in-Infixed : goal.returns-in-Infixed
returns-in-Infixed c =
    let e = layout-shaped c.requires.node
    (sym c.in-Infixed.is ∙ c.shape_of.ensures) in
    len-as _ _ _ (ap (between_at c.args.level) e)
    (infixed-len c.args.level
    (operator (layout_at c.args.page.now c.args.node)) _ _ _ _
    c.indent_len-lead.ensures c.operator_len.ensures c.capped_add-in-Infixed.ensures)
