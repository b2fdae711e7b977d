-- `leaves::time::put_offset` meets its contract, form by form. Assumes nothing.
use mathlib.Core.Path.{refl}
use Rattle.base.proofs.SpliceLaws.{begin, first, room, step, finish, cut-last}
use Rattle.leaves.proofs.TimeLaws.{display_offset-pos, display_offset-neg}
use Rattle.leaves.proofs.time.put_offset.Goals as goal

pub put_duration-requires : goal.put_duration-requires
put_duration-requires c =
    rw (display_offset-pos _ _ c.in-Pos.is) at c.requires

pub put_byte-next-requires : goal.put_byte-next-requires
put_byte-next-requires c =
    first _ _ c.requires (display_offset-neg _ _ c.in-Neg.is)

pub put_duration-requires-in-Neg : goal.put_duration-requires-in-Neg
put_duration-requires-in-Neg c =
    room (step (begin _ _ _ c.requires) (display_offset-neg _ _ c.in-Neg.is)
    c.put_byte-next.ensures) (cut-last _)

pub returns-in-Pos : goal.returns-in-Pos
returns-in-Pos c =
    rw (display_offset-pos _ _ c.in-Pos.is) c.put_duration.ensures

pub returns-in-Neg : goal.returns-in-Neg
returns-in-Neg c =
    finish (step (step (begin _ _ _ c.requires) (display_offset-neg _ _ c.in-Neg.is)
    c.put_byte-next.ensures) (cut-last _) c.put_duration-in-Neg.ensures) refl
