-- `record_lines::element::read_kind` meets its contract. Assumes nothing.
use Rattle.page.proofs.ExitLaws.{exit-is}
use Rattle.record_lines.specs.Numbers.{read_kind_numbers}
use Rattle.record_lines.proofs.element.read_kind.Goals as goal

pub returns : goal.returns
unfolding read_kind_numbers
returns c =
    rw (← c.in_ok-kind.ensures, c.kind_number.ensures)

pub returns-in_err-kind : goal.returns-in_err-kind
unfolding read_kind_numbers
returns-in_err-kind c =
    rw (exit-is _ _ c.from_residual.ensures, ← c.in_err-kind.ensures)
