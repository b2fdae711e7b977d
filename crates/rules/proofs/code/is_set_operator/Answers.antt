-- `rules::code::is_set_operator` meets its contract: the class is a list of codes, tested once over all of them.
-- Assumes nothing.
use mathlib.Core.Path.{refl}
use lib.Dec.{eqb}
use mathlib.Core.List.{[], ◌∷◌}
use mathlib.Core.Bool.{◌||◌}
use native.Mathlib.Omega.{arith}
use Rattle.rules.proofs.CodeLaws.{is_one_of-test, is-not}
use Rattle.rules.proofs.code.is_set_operator.Goals as goal

pub returns : goal.returns
returns c =
    is_one_of-test ("and" ∷ "or" ∷ "unless" ∷ []) (λ c. (eqb c 6 || eqb c 7) || eqb c 10) tt refl c.args.code
    (λ h. rw (
      is-not c.args.code 6 h (omega arith),
      is-not c.args.code 7 h (omega arith),
      is-not c.args.code 10 h (omega arith),
    ))
