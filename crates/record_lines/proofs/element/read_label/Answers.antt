-- `record_lines::element::read_label` meets its contract: a label where it stands. Assumes nothing.
use Rattle.page.proofs.ExitLaws.{exit-is}
use Rattle.record_lines.proofs.ElementLaws.{label-read, label-refused}
use Rattle.record_lines.proofs.element.read_label.Goals as goal

pub returns : goal.returns
returns c =
    label-read _ _ c.in_ok-label.ensures.reads c.in_ok-label.ensures.lies

pub returns-in_err-label : goal.returns-in_err-label
returns-in_err-label c =
    rw (exit-is _ _ c.from_residual.ensures) (label-refused _ _ c.in_err-label.ensures.reads)
