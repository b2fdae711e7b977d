-- `record_lines::line::put_number` meets its contract: the digits fit and are written, or they are left out. Assumes
-- nothing.
use native.Mathlib.Omega.{arith}
use Rattle.record_lines.proofs.LineLaws.{puts-fits, puts-left-out}
use Rattle.record_lines.proofs.line.put_number.Goals as goal

pub returns-then-line-at : goal.returns-then-line-at
returns-then-line-at c =
    puts-left-out _ (omega arith)

pub returns-then-line-at-2 : goal.returns-then-line-at-2
returns-then-line-at-2 c =
    puts-left-out _ (omega (arith, c.decimal_len.ensures.0))

pub put_decimal-requires : goal.put_decimal-requires
put_decimal-requires c =
    omega (arith, c.decimal_len.ensures.0)

pub returns : goal.returns
returns c =
    puts-fits (omega (arith, c.decimal_len.ensures.0)) c.put_decimal.ensures
