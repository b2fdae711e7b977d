-- `sandzguli::part::label_span` meets its contract: the outcome of check says whether and where there is a label.
-- Assumes nothing.
use mathlib.Core.Path.{sym, ap, ◌∙◌}
use Rattle.joint_label.proofs.PlacedLaws.{nowhere, part-as}
use Rattle.ast.specs.Part.{label_part}
use Rattle.records.specs.Outcome.{refusal}
use Rattle.sandzguli.proofs.PartLaws.{part-accepted}
use Rattle.sandzguli.proofs.part.label_span.Goals as goal

pub returns-in-Ok : goal.returns-in-Ok
returns-in-Ok c =
    let e = rw c.in-Ok.is at c.check.ensures.is_check in
    nowhere (part-accepted c.args.page.now e)

pub returns-in-Err : goal.returns-in-Err
returns-in-Err c =
    let e = rw c.in-Err.is at c.check.ensures.is_check in
    part-as (ap (label_part c.args.page.now)
    (sym e
    ∙ ap (λ n. refusal n c.in-Err.refused.index) (sym c.refusal_number.ensures)))
    c.joint_label.ensures
