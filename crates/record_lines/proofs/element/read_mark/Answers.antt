-- `record_lines::element::read_mark` meets its contract, by the operator. Assumes nothing.
use borrow.Author.Tests.{lt-ltb, le-ltb}
use Rattle.page.proofs.ExitLaws.{exit-is}
use Rattle.record_lines.specs.Numbers.{read_pattern_flag_numbers}
use Rattle.record_lines.proofs.element.read_mark.Goals as goal

pub returns-then-op-lt2 : goal.returns-then-op-lt2
unfolding read_pattern_flag_numbers
returns-then-op-lt2 c =
    rw (lt-ltb _ _ c.if-op-lt2.true)

pub returns : goal.returns
unfolding read_pattern_flag_numbers
returns c =
    rw (le-ltb _ _ c.if-op-lt2.false, ← c.in_ok-flag.ensures)

pub returns-in_err-flag : goal.returns-in_err-flag
unfolding read_pattern_flag_numbers
returns-in_err-flag c =
    rw (exit-is _ _ c.from_residual.ensures, le-ltb _ _ c.if-op-lt2.false, ← c.in_err-flag.ensures)
