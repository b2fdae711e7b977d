-- `tokens::token::place_of` meets its contract. Assumes nothing.
use native.Mathlib.Omega.{arith}
use Rattle.tokens.proofs.TokenLaws.{place-zero, place-past, place-code}
use Rattle.tokens.proofs.token.place_of.Goals as goal

pub returns-then-code-eq0 : goal.returns-then-code-eq0
returns-then-code-eq0 c =
    (omega arith, place-zero _ c.if-code-eq0.true)

pub returns-then-code-gt30 : goal.returns-then-code-gt30
returns-then-code-gt30 c =
    (omega arith, place-past _ c.if-code-gt30.true)

pub returns : goal.returns
returns c =
    (omega (arith, c.if-code-gt30.false), place-code _ c.if-code-gt30.false c.if-code-eq0.false)
