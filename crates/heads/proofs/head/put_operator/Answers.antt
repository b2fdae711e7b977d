-- `heads::head::put_operator` meets its contract: the word, and the modifier where there is one. Assumes nothing.
use mathlib.Core.Path.{refl}
use Rattle.base.proofs.SpliceLaws.{begin, step, finish, cut-last}
use Rattle.heads.proofs.HeadLaws.{operator-modified}
use Rattle.heads.proofs.head.put_operator.Goals as goal

pub returns-in-Some : goal.returns-in-Some
returns-in-Some c =
    finish (step (step (begin _ _ _ c.requires.room)
    (operator-modified c.args.page.now c.args.code c.args.modifier _
    c.in-Some.is) c.put_token-behind.ensures) (cut-last _)
    c.put_modifier.ensures) refl
