-- `canonical::own::put_front` meets its contract. Assumes nothing.
use Rattle.view.proofs.NodeLaws.{layout-shaped}
use Rattle.view.specs.View.{layout_at}
use Rattle.text.proofs.WriteLaws.{wrote_nothing, wrote_as, room_as, run-two}
use Rattle.text.specs.Layout.{head, front}
use Rattle.page.specs.Bytes.{bytes}
use Rattle.base.proofs.SpliceLaws.{fits, next, end}
use mathlib.Core.Path.{sym, ap, ◌∙◌}
use Rattle.canonical.proofs.own.put_front.Goals as goal

pub put_head-requires : goal.put_head-requires
put_head-requires c =
    let e = layout-shaped c.requires.node
    (sym c.in-Whole.is ∙ c.shape_of.ensures) in
    record { node = c.requires.node; room = room_as _ _ c.args.at _ (ap front e) c.requires.room }

pub put_head-requires-in-Minus : goal.put_head-requires-in-Minus
put_head-requires-in-Minus c =
    let e = layout-shaped c.requires.node
    (sym c.in-Minus.is ∙ c.shape_of.ensures) in record {
      node = c.requires.node;
      room = room_as _ _ c.args.at _ (ap front e ∙ sym (ap head e)) c.requires.room;
    }

pub put_head-next-requires : goal.put_head-next-requires
put_head-next-requires c =
    let e = layout-shaped c.requires.node
    (sym c.in-Enclosed.is ∙ c.shape_of.ensures) in record {
      node = c.requires.node;
      room = fits (run-two (head (layout_at c.args.page.now c.args.node)) (bytes "(")
          c.args.out.now c.args.at (ap front e) c.requires.room);
    }

pub put_byte-requires : goal.put_byte-requires
put_byte-requires c =
    let e = layout-shaped c.requires.node
    (sym c.in-Enclosed.is ∙ c.shape_of.ensures) in
    fits (next (run-two (head (layout_at c.args.page.now c.args.node)) (bytes "(")
    c.args.out.now c.args.at (ap front e) c.requires.room)
    c.put_head-next.ensures)

pub shape_of-out-in-Whole : goal.shape_of-out-in-Whole
shape_of-out-in-Whole c =
    c.put_head.auto.out

pub returns-in-Whole : goal.returns-in-Whole
returns-in-Whole c =
    let e = layout-shaped c.requires.node
    (sym c.in-Whole.is ∙ c.shape_of.ensures) in
    wrote_as (ap front e) c.put_head.ensures

pub shape_of-out-in-Minus : goal.shape_of-out-in-Minus
shape_of-out-in-Minus c =
    c.put_head-in-Minus.auto.out

pub returns-in-Minus : goal.returns-in-Minus
returns-in-Minus c =
    let e = layout-shaped c.requires.node
    (sym c.in-Minus.is ∙ c.shape_of.ensures) in
    wrote_as (ap front e ∙ sym (ap head e)) c.put_head-in-Minus.ensures

pub returns-in-Suffixed : goal.returns-in-Suffixed
returns-in-Suffixed c =
    let e = layout-shaped c.requires.node
    (sym c.in-Suffixed.is ∙ c.shape_of.ensures) in
    wrote_nothing _ _ (ap front e)

pub shape_of-out-in-Enclosed : goal.shape_of-out-in-Enclosed
shape_of-out-in-Enclosed c =
    c.put_byte.auto.out ∙ c.put_head-next.auto.out

pub returns-in-Enclosed : goal.returns-in-Enclosed
returns-in-Enclosed c =
    let e = layout-shaped c.requires.node
    (sym c.in-Enclosed.is ∙ c.shape_of.ensures) in
    end (next (next (run-two (head (layout_at c.args.page.now c.args.node)) (bytes "(")
    c.args.out.now c.args.at (ap front e) c.requires.room)
    c.put_head-next.ensures) c.put_byte.ensures)

pub returns-in-Infixed : goal.returns-in-Infixed
returns-in-Infixed c =
    let e = layout-shaped c.requires.node
    (sym c.in-Infixed.is ∙ c.shape_of.ensures) in
    wrote_nothing _ _ (ap front e)
