-- `pieces::times::step_len` meets its contract: the duration. Assumes nothing.
use Rattle.pieces.proofs.times.step_len.Goals as goal

pub returns-in-Some : goal.returns-in-Some
returns-in-Some c =
    rw c.in-Some.is c.duration_len.ensures
