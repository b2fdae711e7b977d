-- `float::not_a_number` meets its contract. Assumes nothing.
use Rattle.float.proofs.ValueLaws.{nan_is}
use Rattle.float.proofs.not_a_number.Goals as goal

pub returns : goal.returns
returns c =
    nan_is
