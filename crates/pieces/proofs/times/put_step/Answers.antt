-- `pieces::times::put_step` meets its contract: the duration. Assumes nothing.
use Rattle.text.proofs.WriteLaws.{wrote_nothing}
use mathlib.Core.Path.{refl}
use Rattle.pieces.proofs.times.put_step.Goals as goal

pub put_duration-requires : goal.put_duration-requires
put_duration-requires c =
    rw c.in-Some.is at c.requires

pub returns-in-None : goal.returns-in-None
returns-in-None c =
    rw c.in-None.is (wrote_nothing _ _ refl)

pub returns-in-Some : goal.returns-in-Some
returns-in-Some c =
    rw c.in-Some.is c.put_duration.ensures
