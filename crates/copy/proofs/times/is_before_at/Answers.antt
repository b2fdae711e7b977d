-- `copy::times::is_before_at` meets its contract: the kind is the record's first byte, and so is that of the next
-- record, if there is one. Assumes nothing.
use mathlib.Core.Logic.{inl, inr}
use mathlib.Core.Path.{sym, ◌∙◌}
use native.Mathlib.Omega.{arith}
use borrow.Author.Tests.{ne_eqb, le-ltb}
use Rattle.copy.proofs.SpanLaws.{span-wide, before-at-other, before-at-inside, before-at-end}
use Rattle.copy.proofs.times.is_before_at.Goals as goal
use Rattle.copy.proofs.times.is_before_at.Goals.{then-page-start-eq6, else-page-start-eq6}

pub bounds-page-start : goal.bounds-page-start
bounds-page-start c =
    omega (arith, span-wide c.requires, c.requires.inside)

pub returns-then-next-page : goal.returns-then-next-page
returns-then-next-page c =
    sym (before-at-inside c.requires c.if-next-page.true.0 c.if-next-page.true.1)

pub returns-else-next-page : goal.returns-else-next-page
returns-else-next-page c =
    elim c.if-next-page.either [
      | inl p ↦
          elim c.if-page-start-eq6.branch [
            | then-page-start-eq6 w ↦ w.t-5-is ∙ le-ltb _ _ p.1 ∙ sym (before-at-end c.requires p.0 p.1)
            | else-page-start-eq6 w ↦ absurd (w.if-page-start-eq6.false p.0)
          ]
      | inr other ↦
          elim c.if-page-start-eq6.branch [
            | then-page-start-eq6 w ↦ absurd (other w.if-page-start-eq6.true)
            | else-page-start-eq6 w ↦ w.t-5-is ∙ ne_eqb _ _ other ∙ sym (before-at-other c.requires other)
          ]
    ]
