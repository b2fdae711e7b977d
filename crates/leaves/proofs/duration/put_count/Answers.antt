-- `leaves::duration::put_count` meets its contract. Assumes nothing.
use mathlib.Core.Path.{refl}
use Rattle.base.proofs.SpliceLaws.{begin, first, room, step, finish, cut-last}
use Rattle.leaves.proofs.DurationLaws.{display_count-none, display_count-some}
use Rattle.leaves.proofs.duration.put_count.Goals as goal

pub returns-then-count-eq0 : goal.returns-then-count-eq0
returns-then-count-eq0 c =
    finish (begin _ _ _ c.requires.1) (display_count-none _ _ c.if-count-eq0.true)

pub put_decimal-next-requires : goal.put_decimal-next-requires
put_decimal-next-requires c =
    first _ _ c.requires.1 (display_count-some _ _ c.if-count-eq0.false)

pub put_unit-requires : goal.put_unit-requires
put_unit-requires c = (
  c.requires.0,
  room (step (begin _ _ _ c.requires.1) (display_count-some _ _ c.if-count-eq0.false)
      c.put_decimal-next.ensures) (cut-last _),
)

pub returns : goal.returns
returns c =
    finish
    (step (step (begin _ _ _ c.requires.1) (display_count-some _ _ c.if-count-eq0.false)
    c.put_decimal-next.ensures) (cut-last _) c.put_unit.ensures)
    refl
