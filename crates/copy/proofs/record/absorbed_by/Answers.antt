-- `copy::record::absorbed_by` meets its contract. Assumes nothing.
use mathlib.Core.Path.{sym, ◌∙◌}
use native.Mathlib.Omega.{arith}
use Rattle.copy.proofs.SpanLaws.{span-wide, other-absorbed}
use Rattle.copy.proofs.NumberCopyLaws.{number-absorbed}
use Rattle.copy.proofs.record.absorbed_by.Goals as goal

pub bounds-page-start : goal.bounds-page-start
bounds-page-start c =
    omega (arith, span-wide c.requires, c.requires.inside)

pub returns-then-page-start-eq0 : goal.returns-then-page-start-eq0
returns-then-page-start-eq0 c =
    c.unaries_at.ensures ∙ sym (number-absorbed c.requires c.if-page-start-eq0.true)

pub returns-else-page-start-eq0 : goal.returns-else-page-start-eq0
returns-else-page-start-eq0 c =
    sym (other-absorbed c.requires c.if-page-start-eq0.false)
