-- `canonical::own::put_rear` meets its contract. Assumes nothing.
use Rattle.view.proofs.NodeLaws.{layout-shaped}
use Rattle.text.proofs.WriteLaws.{wrote_nothing, wrote_as, room_as}
use Rattle.text.specs.Layout.{rear}
use mathlib.Core.Path.{sym, ap, ◌∙◌}
use Rattle.canonical.proofs.own.put_rear.Goals as goal

pub put_suffix-requires : goal.put_suffix-requires
put_suffix-requires c =
    let e = layout-shaped c.requires.node
    (sym c.in-Suffixed.is ∙ c.shape_of.ensures) in
    record { node = c.requires.node; room = room_as _ _ c.args.at _ (ap rear e) c.requires.room }

pub put_byte-requires : goal.put_byte-requires
put_byte-requires c =
    let e = layout-shaped c.requires.node
    (sym c.in-Enclosed.is ∙ c.shape_of.ensures) in
    room_as _ _ c.args.at _ (ap rear e) c.requires.room

pub returns-in-Whole : goal.returns-in-Whole
returns-in-Whole c =
    let e = layout-shaped c.requires.node
    (sym c.in-Whole.is ∙ c.shape_of.ensures) in
    wrote_nothing _ _ (ap rear e)

pub returns-in-Minus : goal.returns-in-Minus
returns-in-Minus c =
    let e = layout-shaped c.requires.node
    (sym c.in-Minus.is ∙ c.shape_of.ensures) in
    wrote_nothing _ _ (ap rear e)

pub shape_of-out-in-Suffixed : goal.shape_of-out-in-Suffixed
shape_of-out-in-Suffixed c =
    c.put_suffix.auto.out

pub returns-in-Suffixed : goal.returns-in-Suffixed
returns-in-Suffixed c =
    let e = layout-shaped c.requires.node
    (sym c.in-Suffixed.is ∙ c.shape_of.ensures) in
    wrote_as (ap rear e) c.put_suffix.ensures

pub shape_of-out-in-Enclosed : goal.shape_of-out-in-Enclosed
shape_of-out-in-Enclosed c =
    c.put_byte.auto.out

pub returns-in-Enclosed : goal.returns-in-Enclosed
returns-in-Enclosed c =
    let e = layout-shaped c.requires.node
    (sym c.in-Enclosed.is ∙ c.shape_of.ensures) in
    wrote_as (ap rear e) c.put_byte.ensures

pub returns-in-Infixed : goal.returns-in-Infixed
returns-in-Infixed c =
    let e = layout-shaped c.requires.node
    (sym c.in-Infixed.is ∙ c.shape_of.ensures) in
    wrote_nothing _ _ (ap rear e)
