-- `joint_label::place::joint_label` meets its contract. Assumes nothing.
use mathlib.Core.Path.{◌∙◌}
use Rattle.ast.proofs.LabelLaws.{label_part-otherwise}
use Rattle.joint_label.proofs.PlacedLaws.{nowhere, part-as, part-joint}
use Rattle.joint_label.proofs.place.joint_label.Goals as goal

pub returns-in-Some : goal.returns-in-Some
returns-in-Some c =
    part-as (part-joint c.args.page.now c.args.number c.args.index c.record_start-start.result c.if-number-eq19.true
    c.record_start-start.ensures) (rw c.in-Some.is at c.joint_at.ensures)

pub returns-in_default : goal.returns-in_default
returns-in_default c =
    let none = rw c.in_default.is at c.joint_at.ensures in
    nowhere (part-joint c.args.page.now c.args.number c.args.index c.record_start-start.result c.if-number-eq19.true
    c.record_start-start.ensures ∙ none)

pub returns-else-number-eq19 : goal.returns-else-number-eq19
returns-else-number-eq19 c =
    nowhere (label_part-otherwise c.args.page.now c.args.index c.args.number c.if-number-eq19.false)
