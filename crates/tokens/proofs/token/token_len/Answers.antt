-- `tokens::token::token_len` meets its contract. Assumes nothing.
use native.Mathlib.Omega.{arith}
use mathlib.Core.Path.{ap}
use lib.ListN.{length}
use Rattle.tokens.proofs.TokenLaws.{placed, length-token_at}
use Rattle.tokens.proofs.token.token_len.Goals as goal

pub overflow_cast-start : goal.overflow_cast-start
overflow_cast-start c =
    let p = placed _ c.place_of-place.ensures.0 in omega (arith, p.ordered, p.inside)

pub overflow_cast-end : goal.overflow_cast-end
overflow_cast-end c =
    let p = placed _ c.place_of-place.ensures.0 in omega (arith, p.inside)

pub overflow_sub-result : goal.overflow_sub-result
overflow_sub-result c =
    (placed _ c.place_of-place.ensures.0).ordered

pub returns : goal.returns
returns c =
    let p = placed _ c.place_of-place.ensures.0 in
    (omega (arith, length-token_at _ c.place_of-place.ensures.0, ap length c.place_of-place.ensures.1), p.short)
