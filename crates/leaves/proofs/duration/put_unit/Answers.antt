-- `leaves::duration::put_unit` meets its contract. Assumes nothing.
use mathlib.Core.Path.{refl}
use Rattle.base.proofs.SpliceLaws.{begin, first, room, step, finish}
use Rattle.leaves.proofs.DurationLaws.{tabled, behind_letter-ms, behind_letter-none}
use Rattle.leaves.proofs.duration.put_unit.Goals as goal

pub put_byte-next-requires : goal.put_byte-next-requires
put_byte-next-requires c =
    first _ _ c.requires.1 (tabled _ c.requires.0).name

pub put_byte-requires : goal.put_byte-requires
put_byte-requires c =
    room
    (step (begin _ _ _ c.requires.1) (tabled _ c.requires.0).name c.put_byte-next.ensures)
    (behind_letter-ms _ c.if-unit-eq6.true)

pub returns-then-unit-eq6 : goal.returns-then-unit-eq6
returns-then-unit-eq6 c =
    finish
    (step
    (step (begin _ _ _ c.requires.1) (tabled _ c.requires.0).name c.put_byte-next.ensures)
    (behind_letter-ms _ c.if-unit-eq6.true) c.put_byte.ensures)
    refl

pub returns : goal.returns
returns c =
    finish
    (step (begin _ _ _ c.requires.1) (tabled _ c.requires.0).name c.put_byte-next.ensures)
    (behind_letter-none _ c.if-unit-eq6.false)
