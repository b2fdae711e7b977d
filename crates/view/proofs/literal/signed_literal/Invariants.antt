-- `view::literal::signed_literal` meets its contract. Invariant: value and number are those of record j, with the sign
-- of the unary records passed. The measure is j. Assumes nothing.
use Rattle.view.proofs.ViewLaws.{Descends}
use Rattle.view.proofs.literal.signed_literal.Given as goal

abbrev pub invariant-loop-odd : goal.invariant-loop-odd
invariant-loop-odd l =
    Descends l.page l.starts l.i l.j l.odd

abbrev pub decreases-loop-odd : goal.decreases-loop-odd
decreases-loop-odd l =
    l.j
