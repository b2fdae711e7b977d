-- `leaves::time::put_time` meets its contract. Assumes nothing.
use mathlib.Core.Path.{refl}
use Rattle.base.proofs.SpliceLaws.{begin, first, room, step, finish, cut-last}
use Rattle.leaves.proofs.TimeLaws.{display_time-cut}
use Rattle.leaves.proofs.time.put_time.Goals as goal

pub put_bytes-seconds-requires : goal.put_bytes-seconds-requires
put_bytes-seconds-requires c =
    first _ _ c.requires (display_time-cut _)

pub put_expansion-requires : goal.put_expansion-requires
put_expansion-requires c =
    room (step (begin _ _ _ c.requires) (display_time-cut _) c.put_bytes-seconds.ensures) (cut-last _)

pub returns : goal.returns
returns c =
    finish (step (step (begin _ _ _ c.requires) (display_time-cut _) c.put_bytes-seconds.ensures)
    (cut-last _) c.put_expansion.ensures) refl
