-- `float::infinity` meets its contract. Assumes nothing.
use Rattle.float.proofs.ValueLaws.{inf-is}
use Rattle.float.proofs.infinity.Goals as goal

pub returns : goal.returns
returns c =
    inf-is
