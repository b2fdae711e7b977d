-- `tokens::fill::put_both` meets its contract: one fill, or each. Assumes nothing.
use mathlib.Core.Path.{refl}
use Rattle.base.proofs.SpliceLaws.{begin, first, room, step, finish, cut-last}
use Rattle.tokens.proofs.FillLaws.{both_one, both-each}
use Rattle.tokens.proofs.fill.put_both.Goals as goal

pub put_filled-requires : goal.put_filled-requires
put_filled-requires c =
    rw (both_one _ _ _ c.if-same.true) at c.requires

pub returns-then-same : goal.returns-then-same
returns-then-same c =
    rw (both_one _ _ _ c.if-same.true) c.put_filled.ensures

pub put_filled-next-requires : goal.put_filled-next-requires
put_filled-next-requires c =
    first _ _ c.requires (both-each _ _ _ c.if-same.false)

pub put_filled-requires-2 : goal.put_filled-requires-2
put_filled-requires-2 c =
    room (step (begin _ _ _ c.requires) (both-each _ _ _ c.if-same.false)
    c.put_filled-next.ensures) (cut-last _)

pub returns : goal.returns
returns c =
    finish (step (step (begin _ _ _ c.requires) (both-each _ _ _ c.if-same.false)
    c.put_filled-next.ensures) (cut-last _) c.put_filled-2.ensures) refl
