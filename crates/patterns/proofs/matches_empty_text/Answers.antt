-- `patterns::matches_empty_text` meets its contract: what `choice` finds is the whole pattern, or not. Assumes nothing.
use Rattle.patterns.proofs.ChoiceLaws.{whole-none, whole-covered, whole-longer}
use Rattle.patterns.proofs.matches_empty_text.Goals as goal

pub returns-in_err-empty : goal.returns-in_err-empty
returns-in_err-empty c =
    rw c.from_residual.ensures (whole-none c.args.pattern.now c.in_err-empty.ensures)

pub returns-then-next-pattern : goal.returns-then-next-pattern
returns-then-next-pattern c =
    whole-covered _ _ _ c.in_ok-empty.ensures c.if-next-pattern.true

pub returns : goal.returns
returns c =
    whole-longer _ _ _ c.in_ok-empty.ensures c.if-next-pattern.false
