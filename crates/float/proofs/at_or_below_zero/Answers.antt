-- `float::at_or_below_zero` meets its contract. Assumes nothing.
use Rattle.float.proofs.ValueLaws.{zero_is}
use lib.Ieee as Ieee
use mathlib.Core.Path.{ap}
use Rattle.float.proofs.at_or_below_zero.Goals as goal

pub returns : goal.returns
returns c =
    ap (Ieee.le c.args.x) zero_is
