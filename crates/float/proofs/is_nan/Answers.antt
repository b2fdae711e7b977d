-- `float::is_nan` meets its contract. Assumes nothing.
use Rattle.float.proofs.ValueLaws.{differs}
use Rattle.float.proofs.is_nan.Goals as goal

pub returns : goal.returns
returns c =
    differs _
