-- `leaves::time::offset_len` meets its contract, form by form. Assumes nothing.
use native.Mathlib.Omega.{arith}
use Rattle.leaves.proofs.TimeLaws.{display_offset-pos, display_offset-neg}
use Rattle.leaves.proofs.time.offset_len.Goals as goal

pub returns-in-Pos : goal.returns-in-Pos
returns-in-Pos c =
    rw (display_offset-pos _ _ c.in-Pos.is) (omega (arith, c.duration_len.ensures))

pub returns-in-Neg : goal.returns-in-Neg
returns-in-Neg c =
    rw (display_offset-neg _ _ c.in-Neg.is).is (omega (arith, c.duration_len-in-Neg.ensures))
