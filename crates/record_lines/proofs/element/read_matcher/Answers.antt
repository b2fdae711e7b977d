-- `record_lines::element::read_matcher` meets its contract: an operator from 0 to 3, and what follows it. Assumes
-- nothing.
use mathlib.Core.Path.{◌∙◌}
use Rattle.page.proofs.ExitLaws.{exit-is}
use Rattle.record_lines.proofs.ElementLaws.{operator-read, operator-high, operator-refused}
use Rattle.record_lines.proofs.element.read_matcher.Goals as goal

pub returns-then-op-le3 : goal.returns-then-op-le3
returns-then-op-le3 c =
    c.read_texts.ensures ∙ operator-read _ _ _ c.in_ok-op.ensures.reads c.if-op-le3.true

pub returns-else-op-le3 : goal.returns-else-op-le3
returns-else-op-le3 c =
    operator-high _ _ _ c.in_ok-op.ensures.reads c.if-op-le3.false

pub returns-in_err-op : goal.returns-in_err-op
returns-in_err-op c =
    rw (exit-is _ _ c.from_residual.ensures) (operator-refused _ _ c.in_err-op.ensures.reads)
