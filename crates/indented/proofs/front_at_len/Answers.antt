-- `indented::front_at_len` meets its contract: by the shape. Assumes nothing.
use Rattle.view.proofs.NodeLaws.{layout-shaped}
use Rattle.view.specs.View.{layout_at}
use Rattle.text.proofs.CappedLaws.{len-as, len-plus}
use Rattle.text.specs.Layout.{Layout, head, indent_if, front_at}
use Rattle.page.specs.Bytes.{bytes}
use lib.ListN.{length}
use mathlib.Core.List.{◌++◌}
use mathlib.Core.Path.{sym, ap, ◌∙◌}
use native.Mathlib.Omega.{arith}
use Rattle.indented.proofs.front_at_len.Goals as goal

pub led_len-requires : goal.led_len-requires
led_len-requires c =
    c.requires

pub led_len-requires-in-Minus : goal.led_len-requires-in-Minus
led_len-requires-in-Minus c =
    c.requires

pub led_len-requires-in-Enclosed : goal.led_len-requires-in-Enclosed
led_len-requires-in-Enclosed c =
    c.requires

pub returns-in-Whole : goal.returns-in-Whole
returns-in-Whole c =
    let e = layout-shaped c.requires.node
    (sym c.in-Whole.is ∙ c.shape_of.ensures) in
    len-as _ _ _ (ap (front_at c.args.indents c.args.level) e) c.led_len.ensures

pub returns-in-Minus : goal.returns-in-Minus
returns-in-Minus c =
    let e = layout-shaped c.requires.node
    (sym c.in-Minus.is ∙ c.shape_of.ensures) in
    len-as _ _ _
    (ap (front_at c.args.indents c.args.level) e
    ∙ sym (ap (λ (l : Layout). indent_if c.args.indents c.args.level ++ head l) e))
    c.led_len-in-Minus.ensures

pub returns-in-Suffixed : goal.returns-in-Suffixed
returns-in-Suffixed c =
    let e = layout-shaped c.requires.node
    (sym c.in-Suffixed.is ∙ c.shape_of.ensures) in
    omega (arith, ap (λ (l : Layout). length (front_at c.args.indents c.args.level l)) e)

pub returns-in-Enclosed : goal.returns-in-Enclosed
returns-in-Enclosed c =
    let e = layout-shaped c.requires.node
    (sym c.in-Enclosed.is ∙ c.shape_of.ensures) in
    len-plus _
    (indent_if c.args.indents c.args.level
    ++ head (layout_at c.args.page.now c.args.node)) (bytes "(\n") _ _ _
    (ap (front_at c.args.indents c.args.level) e) c.led_len-in-Enclosed.ensures
    c.capped_add.ensures

pub returns-in-Infixed : goal.returns-in-Infixed
returns-in-Infixed c =
    let e = layout-shaped c.requires.node
    (sym c.in-Infixed.is ∙ c.shape_of.ensures) in
    omega (arith, ap (λ (l : Layout). length (front_at c.args.indents c.args.level l)) e)
