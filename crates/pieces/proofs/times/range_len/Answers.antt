-- `pieces::times::range_len` meets its contract: the duration in brackets. Assumes nothing.
use Rattle.pieces.proofs.PieceLaws.{bracketed-len}
use Rattle.leaves.specs.Duration.{display_duration}
use native.Mathlib.Omega.{arith}
use Rattle.pieces.proofs.times.range_len.Goals as goal

pub returns-in-Some : goal.returns-in-Some
returns-in-Some c =
    rw c.in-Some.is
    (omega
    (arith, c.duration_len.ensures, bracketed-len (display_duration c.in-Some.n)))
