-- `pieces::times::at_len` meets its contract: a space and the time. Assumes nothing.
use native.Mathlib.Omega.{arith}
use Rattle.pieces.proofs.times.at_len.Goals as goal

pub returns-in-Some : goal.returns-in-Some
returns-in-Some c =
    rw c.in-Some.is (omega (arith, c.at_len.ensures))
