-- `tokens::token::put_token` meets its contract: the token stands at its place among the letters. Assumes nothing.
use Rattle.tokens.specs.Tokens.{token_at}
use Rattle.tokens.proofs.TokenLaws.{placed}
use Rattle.tokens.proofs.token.put_token.Goals as goal

pub slice_bounds-put_bytes-count : goal.slice_bounds-put_bytes-count
slice_bounds-put_bytes-count c =
    (placed _ c.place_of-place.ensures.0).ordered

pub slice_bounds-put_bytes-start : goal.slice_bounds-put_bytes-start
slice_bounds-put_bytes-start c =
    (placed _ c.place_of-place.ensures.0).ordered

pub slice_bounds-put_bytes-end : goal.slice_bounds-put_bytes-end
slice_bounds-put_bytes-end c =
    (placed _ c.place_of-place.ensures.0).inside

pub put_bytes-requires : goal.put_bytes-requires
unfolding token_at
put_bytes-requires c =
    rw (← c.place_of-place.ensures.1) at c.requires

pub returns : goal.returns
unfolding token_at
returns c =
    rw (← c.place_of-place.ensures.1) c.put_bytes.ensures
