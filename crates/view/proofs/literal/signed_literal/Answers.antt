use mathlib.Core.Path.{sym, subst}
use native.Mathlib.Omega.{arith}
use Rattle.view.specs.View.{NumberAt}
use Rattle.view.proofs.ViewLaws.{descends-unary}
use Rattle.view.proofs.ViewLaws.{descends-number, descends-other}
use Rattle.view.proofs.literal.signed_literal.Goals as goal

pub loop-odd-preserved : goal.loop-odd-preserved
loop-odd-preserved c =
    descends-unary c.requires c.loop-odd.invariant
    (rw c.in-7.is at c.kind_at.ensures)

pub returns-then-odd : goal.returns-then-odd
returns-then-odd c =
    let number = rw c.if-odd.true at
    (descends-number c.requires c.loop-odd.invariant c.literal_at-l.ensures) in
    subst (NumberAt _ _ _) (sym c.negated.ensures) number

pub returns-in-0 : goal.returns-in-0
returns-in-0 c =
    rw c.if-odd.false at (descends-number c.requires c.loop-odd.invariant c.literal_at-l.ensures)

pub returns-in_default : goal.returns-in_default
returns-in_default c =
    descends-other c.requires c.loop-odd.invariant c.kind_at.ensures (omega arith)
    (omega arith)
