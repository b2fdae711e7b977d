-- `indented::put_between_at` meets its contract. Assumes nothing.
use Rattle.indented.proofs.IndentLaws.{run-infixed}
use Rattle.view.proofs.NodeLaws.{layout-shaped}
use Rattle.view.specs.View.{layout_at}
use Rattle.text.proofs.WriteLaws.{wrote_nothing, wrote_as, room_as}
use Rattle.text.specs.Layout.{operator, between_at}
use Rattle.base.proofs.SpliceLaws.{fits, next, end}
use mathlib.Core.Path.{sym, ap, ◌∙◌}
use Rattle.indented.proofs.put_between_at.Goals as goal

pub put_bytes-requires : goal.put_bytes-requires
put_bytes-requires c =
    let e = layout-shaped c.requires.node
    (sym c.in-Enclosed.is ∙ c.shape_of.ensures) in
    room_as _ _ c.args.at _ (ap (between_at c.args.level) e) c.requires.room

pub put_byte-lead-requires : goal.put_byte-lead-requires
put_byte-lead-requires c =
    let e = layout-shaped c.requires.node
    (sym c.in-Infixed.is ∙ c.shape_of.ensures) in
    fits (run-infixed c.args.level
    (operator (layout_at c.args.page.now c.args.node)) c.args.out.now
    c.args.at (ap (between_at c.args.level) e) c.requires.room)

pub put_spaces-token-requires : goal.put_spaces-token-requires
put_spaces-token-requires c =
    let e = layout-shaped c.requires.node
    (sym c.in-Infixed.is ∙ c.shape_of.ensures) in
    fits (next (run-infixed c.args.level
    (operator (layout_at c.args.page.now c.args.node)) c.args.out.now
    c.args.at (ap (between_at c.args.level) e) c.requires.room)
    c.put_byte-lead.ensures)

pub put_operator-behind-requires : goal.put_operator-behind-requires
put_operator-behind-requires c =
    let e = layout-shaped c.requires.node
    (sym c.in-Infixed.is ∙ c.shape_of.ensures) in record {
      node = c.requires.node;
      room = fits (next (next (run-infixed c.args.level
          (operator (layout_at c.args.page.now c.args.node)) c.args.out.now
          c.args.at (ap (between_at c.args.level) e) c.requires.room)
          c.put_byte-lead.ensures) c.put_spaces-token.ensures);
    }

pub put_byte-requires : goal.put_byte-requires
put_byte-requires c =
    let e = layout-shaped c.requires.node
    (sym c.in-Infixed.is ∙ c.shape_of.ensures) in
    fits (next (next (next (run-infixed c.args.level
    (operator (layout_at c.args.page.now c.args.node)) c.args.out.now
    c.args.at (ap (between_at c.args.level) e) c.requires.room)
    c.put_byte-lead.ensures) c.put_spaces-token.ensures)
    c.put_operator-behind.ensures)

pub returns-in-Whole : goal.returns-in-Whole
returns-in-Whole c =
    let e = layout-shaped c.requires.node
    (sym c.in-Whole.is ∙ c.shape_of.ensures) in
    wrote_nothing _ _ (ap (between_at c.args.level) e)

pub returns-in-Minus : goal.returns-in-Minus
returns-in-Minus c =
    let e = layout-shaped c.requires.node
    (sym c.in-Minus.is ∙ c.shape_of.ensures) in
    wrote_nothing _ _ (ap (between_at c.args.level) e)

pub returns-in-Suffixed : goal.returns-in-Suffixed
returns-in-Suffixed c =
    let e = layout-shaped c.requires.node
    (sym c.in-Suffixed.is ∙ c.shape_of.ensures) in
    wrote_nothing _ _ (ap (between_at c.args.level) e)

pub shape_of-out-in-Enclosed : goal.shape_of-out-in-Enclosed
shape_of-out-in-Enclosed c =
    c.put_bytes.auto.out

pub returns-in-Enclosed : goal.returns-in-Enclosed
returns-in-Enclosed c =
    let e = layout-shaped c.requires.node
    (sym c.in-Enclosed.is ∙ c.shape_of.ensures) in
    wrote_as (ap (between_at c.args.level) e) c.put_bytes.ensures

pub shape_of-out-in-Infixed : goal.shape_of-out-in-Infixed
shape_of-out-in-Infixed c =
    c.put_byte.auto.out ∙ c.put_operator-behind.auto.out
    ∙ c.put_spaces-token.auto.out ∙ c.put_byte-lead.auto.out

pub returns-in-Infixed : goal.returns-in-Infixed
returns-in-Infixed c =
    let e = layout-shaped c.requires.node
    (sym c.in-Infixed.is ∙ c.shape_of.ensures) in
    end (next (next (next (next (run-infixed c.args.level
    (operator (layout_at c.args.page.now c.args.node)) c.args.out.now
    c.args.at (ap (between_at c.args.level) e) c.requires.room)
    c.put_byte-lead.ensures) c.put_spaces-token.ensures)
    c.put_operator-behind.ensures) c.put_byte.ensures)
