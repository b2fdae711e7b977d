-- `patterns::is_single` meets its contract: what passes the test of names, and one byte more. Assumes nothing.
use mathlib.Core.Bool.{Bool, ◌||◌}
use mathlib.Core.Path.{ap}
use lib.Dec.{eqb}
use Rattle.patterns.specs.Pattern.{is_single}
use Rattle.patterns.proofs.is_single.Goals as goal

pub returns : goal.returns
unfolding is_single
returns c =
    ap (λ (t : Bool). t || eqb c.args.b 45) c.byte_is.ensures
