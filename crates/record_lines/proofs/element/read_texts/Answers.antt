-- `record_lines::element::read_texts` meets its contract: name, value and mark, in this order. Assumes nothing.
use Rattle.page.proofs.ExitLaws.{exit-is}
use Rattle.record_lines.proofs.ElementLaws.{label-read, label-refused, texts-read, name-refused, value-refused, mark-refused}
use Rattle.record_lines.proofs.element.read_texts.Goals as goal

pub returns-in_err-name : goal.returns-in_err-name
returns-in_err-name c =
    rw (exit-is _ _ c.from_residual.ensures) (name-refused _ _ _ (label-refused _ _ c.in_err-name.ensures.reads))

pub returns-in_err-value : goal.returns-in_err-value
returns-in_err-value c =
    let name = label-read _ _ c.in_ok-name.ensures.reads c.in_ok-name.ensures.lies in
    rw (exit-is _ _ c.from_residual-in_err-value.ensures)
    (value-refused _ _ _ name (label-refused _ _ c.in_err-value.ensures.reads))

pub returns-in_err-mark : goal.returns-in_err-mark
returns-in_err-mark c =
    let name = label-read _ _ c.in_ok-name.ensures.reads c.in_ok-name.ensures.lies in
    let value = label-read _ _ c.in_ok-value.ensures.reads c.in_ok-value.ensures.lies in
    rw (exit-is _ _ c.from_residual-in_err-mark.ensures) (mark-refused _ _ _ name value c.in_err-mark.ensures)

pub returns : goal.returns
returns c =
    let name = label-read _ _ c.in_ok-name.ensures.reads c.in_ok-name.ensures.lies in
    let value = label-read _ _ c.in_ok-value.ensures.reads c.in_ok-value.ensures.lies in
    texts-read _ _ _ name value c.in_ok-mark.ensures
