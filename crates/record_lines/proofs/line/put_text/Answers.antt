-- `record_lines::line::put_text` meets its contract: the text fits and is written, or it is left out. Assumes nothing.
use native.Mathlib.Omega.{arith}
use Rattle.record_lines.proofs.LineLaws.{puts-fits, puts-left-out}
use Rattle.record_lines.proofs.line.put_text.Goals as goal

pub returns-then-line-at : goal.returns-then-line-at
returns-then-line-at c =
    puts-left-out _ (omega arith)

pub returns-then-line-at-2 : goal.returns-then-line-at-2
returns-then-line-at-2 c =
    puts-left-out _ (omega arith)

pub returns : goal.returns
returns c =
    puts-fits (omega arith) c.put_bytes.ensures
