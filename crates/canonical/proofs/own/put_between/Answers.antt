-- `canonical::own::put_between` meets its contract. Assumes nothing.
use Rattle.view.proofs.NodeLaws.{layout-shaped}
use Rattle.view.specs.View.{layout_at}
use Rattle.text.proofs.WriteLaws.{wrote_nothing, wrote_as, room_as, run-three}
use Rattle.text.specs.Layout.{operator, between}
use Rattle.page.specs.Bytes.{bytes}
use Rattle.base.proofs.SpliceLaws.{fits, next, end}
use mathlib.Core.List.{append_assoc}
use mathlib.Core.Path.{sym, ap, ◌∙◌}
use Rattle.canonical.proofs.own.put_between.Goals as goal

pub put_bytes-requires : goal.put_bytes-requires
put_bytes-requires c =
    let e = layout-shaped c.requires.node
    (sym c.in-Enclosed.is ∙ c.shape_of.ensures) in
    room_as _ _ c.args.at _ (ap between e) c.requires.room

pub put_byte-word-requires : goal.put_byte-word-requires
put_byte-word-requires c =
    let e = layout-shaped c.requires.node
    (sym c.in-Infixed.is ∙ c.shape_of.ensures) in
    fits (run-three (bytes " ") (operator (layout_at c.args.page.now c.args.node))
    (bytes " ") c.args.out.now c.args.at
    (ap between e
    ∙ append_assoc (bytes " ") (operator (layout_at c.args.page.now c.args.node))
    (bytes " ")) c.requires.room)

pub put_operator-others-requires : goal.put_operator-others-requires
put_operator-others-requires c =
    let e = layout-shaped c.requires.node
    (sym c.in-Infixed.is ∙ c.shape_of.ensures) in record {
      node = c.requires.node;
      room = fits (next (run-three (bytes " ") (operator (layout_at c.args.page.now c.args.node))
          (bytes " ") c.args.out.now c.args.at
          (ap between e
          ∙ append_assoc (bytes " ") (operator (layout_at c.args.page.now c.args.node))
          (bytes " ")) c.requires.room) c.put_byte-word.ensures);
    }

pub put_byte-requires : goal.put_byte-requires
put_byte-requires c =
    let e = layout-shaped c.requires.node
    (sym c.in-Infixed.is ∙ c.shape_of.ensures) in
    fits (next (next (run-three (bytes " ")
    (operator (layout_at c.args.page.now c.args.node)) (bytes " ")
    c.args.out.now c.args.at
    (ap between e
    ∙ append_assoc (bytes " ") (operator (layout_at c.args.page.now c.args.node))
    (bytes " ")) c.requires.room) c.put_byte-word.ensures) c.put_operator-others.ensures)

pub returns-in-Whole : goal.returns-in-Whole
returns-in-Whole c =
    let e = layout-shaped c.requires.node
    (sym c.in-Whole.is ∙ c.shape_of.ensures) in
    wrote_nothing _ _ (ap between e)

pub returns-in-Minus : goal.returns-in-Minus
returns-in-Minus c =
    let e = layout-shaped c.requires.node
    (sym c.in-Minus.is ∙ c.shape_of.ensures) in
    wrote_nothing _ _ (ap between e)

pub returns-in-Suffixed : goal.returns-in-Suffixed
returns-in-Suffixed c =
    let e = layout-shaped c.requires.node
    (sym c.in-Suffixed.is ∙ c.shape_of.ensures) in
    wrote_nothing _ _ (ap between e)

pub shape_of-out-in-Enclosed : goal.shape_of-out-in-Enclosed
shape_of-out-in-Enclosed c =
    c.put_bytes.auto.out

pub returns-in-Enclosed : goal.returns-in-Enclosed
returns-in-Enclosed c =
    let e = layout-shaped c.requires.node
    (sym c.in-Enclosed.is ∙ c.shape_of.ensures) in
    wrote_as (ap between e) c.put_bytes.ensures

pub shape_of-out-in-Infixed : goal.shape_of-out-in-Infixed
shape_of-out-in-Infixed c =
    c.put_byte.auto.out ∙ c.put_operator-others.auto.out
    ∙ c.put_byte-word.auto.out

pub returns-in-Infixed : goal.returns-in-Infixed
returns-in-Infixed c =
    let e = layout-shaped c.requires.node
    (sym c.in-Infixed.is ∙ c.shape_of.ensures) in
    end (next (next (next (run-three (bytes " ")
    (operator (layout_at c.args.page.now c.args.node)) (bytes " ")
    c.args.out.now c.args.at
    (ap between e
    ∙ append_assoc (bytes " ") (operator (layout_at c.args.page.now c.args.node))
    (bytes " ")) c.requires.room) c.put_byte-word.ensures) c.put_operator-others.ensures)
    c.put_byte.ensures)
