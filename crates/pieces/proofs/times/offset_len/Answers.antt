-- `pieces::times::offset_len` meets its contract: the word and the offset. Assumes nothing.
use native.Mathlib.Omega.{arith}
use Rattle.pieces.proofs.times.offset_len.Goals as goal

pub returns-in-Some : goal.returns-in-Some
returns-in-Some c =
    rw c.in-Some.is (omega (arith, c.offset_len.ensures))
