-- `indented::put_front_at` meets its contract. Assumes nothing.
use Rattle.view.proofs.NodeLaws.{layout-shaped}
use Rattle.view.specs.View.{layout_at}
use Rattle.text.proofs.WriteLaws.{wrote_nothing, wrote_as, room_as, run-two}
use Rattle.text.specs.Layout.{Layout, head, indent_if, front_at}
use Rattle.page.specs.Bytes.{bytes}
use Rattle.base.proofs.SpliceLaws.{fits, next, end}
use mathlib.Core.List.{◌++◌}
use mathlib.Core.Path.{sym, ap, ◌∙◌}
use Rattle.indented.proofs.put_front_at.Goals as goal

pub put_led-requires : goal.put_led-requires
put_led-requires c =
    let e = layout-shaped c.requires.node
    (sym c.in-Whole.is ∙ c.shape_of.ensures) in record {
      node = c.requires.node;
      room = room_as _ _ c.args.at _ (ap (front_at c.args.indents c.args.level) e)
          c.requires.room;
    }

pub put_led-requires-in-Minus : goal.put_led-requires-in-Minus
put_led-requires-in-Minus c =
    let e = layout-shaped c.requires.node
    (sym c.in-Minus.is ∙ c.shape_of.ensures) in record {
      node = c.requires.node;
      room = room_as _ _ c.args.at _
          (ap (front_at c.args.indents c.args.level) e
          ∙ sym (ap (λ (l : Layout). indent_if c.args.indents c.args.level ++ head l) e))
          c.requires.room;
    }

pub put_led-next-requires : goal.put_led-next-requires
put_led-next-requires c =
    let e = layout-shaped c.requires.node
    (sym c.in-Enclosed.is ∙ c.shape_of.ensures) in record {
      node = c.requires.node;
      room = fits (run-two (indent_if c.args.indents c.args.level
          ++ head (layout_at c.args.page.now c.args.node)) (bytes "(\n")
          c.args.out.now c.args.at
          (ap (front_at c.args.indents c.args.level) e) c.requires.room);
    }

pub put_bytes-requires : goal.put_bytes-requires
put_bytes-requires c =
    let e = layout-shaped c.requires.node
    (sym c.in-Enclosed.is ∙ c.shape_of.ensures) in
    fits (next (run-two (indent_if c.args.indents c.args.level
    ++ head (layout_at c.args.page.now c.args.node)) (bytes "(\n")
    c.args.out.now c.args.at
    (ap (front_at c.args.indents c.args.level) e) c.requires.room)
    c.put_led-next.ensures)

pub shape_of-out-in-Whole : goal.shape_of-out-in-Whole
shape_of-out-in-Whole c =
    c.put_led.auto.out

pub returns-in-Whole : goal.returns-in-Whole
returns-in-Whole c =
    let e = layout-shaped c.requires.node
    (sym c.in-Whole.is ∙ c.shape_of.ensures) in
    wrote_as (ap (front_at c.args.indents c.args.level) e)
    c.put_led.ensures

pub shape_of-out-in-Minus : goal.shape_of-out-in-Minus
shape_of-out-in-Minus c =
    c.put_led-in-Minus.auto.out

pub returns-in-Minus : goal.returns-in-Minus
returns-in-Minus c =
    let e = layout-shaped c.requires.node
    (sym c.in-Minus.is ∙ c.shape_of.ensures) in
    wrote_as (ap (front_at c.args.indents c.args.level) e
    ∙ sym (ap (λ (l : Layout). indent_if c.args.indents c.args.level ++ head l) e))
    c.put_led-in-Minus.ensures

pub returns-in-Suffixed : goal.returns-in-Suffixed
returns-in-Suffixed c =
    let e = layout-shaped c.requires.node
    (sym c.in-Suffixed.is ∙ c.shape_of.ensures) in
    wrote_nothing _ _ (ap (front_at c.args.indents c.args.level) e)

pub shape_of-out-in-Enclosed : goal.shape_of-out-in-Enclosed
shape_of-out-in-Enclosed c =
    c.put_bytes.auto.out ∙ c.put_led-next.auto.out

pub returns-in-Enclosed : goal.returns-in-Enclosed
returns-in-Enclosed c =
    let e = layout-shaped c.requires.node
    (sym c.in-Enclosed.is ∙ c.shape_of.ensures) in
    end (next (next (run-two (indent_if c.args.indents c.args.level
    ++ head (layout_at c.args.page.now c.args.node)) (bytes "(\n")
    c.args.out.now c.args.at
    (ap (front_at c.args.indents c.args.level) e) c.requires.room)
    c.put_led-next.ensures) c.put_bytes.ensures)

pub returns-in-Infixed : goal.returns-in-Infixed
returns-in-Infixed c =
    let e = layout-shaped c.requires.node
    (sym c.in-Infixed.is ∙ c.shape_of.ensures) in
    wrote_nothing _ _ (ap (front_at c.args.indents c.args.level) e)
