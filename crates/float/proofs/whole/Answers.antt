-- `float::whole` meets its contract: the cast is exact up to 2^53. Assumes nothing.
use Rattle.float.proofs.ValueLaws.{castable}
use Rattle.float.proofs.whole.Goals as goal

pub int_to_float-result : goal.int_to_float-result
int_to_float-result c =
    castable _ c.requires
