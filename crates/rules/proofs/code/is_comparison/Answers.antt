-- `rules::code::is_comparison` meets its contract: the class is a list of codes, tested once over all of them. Assumes
-- nothing.
use mathlib.Core.Path.{refl}
use lib.Dec.{eqb}
use mathlib.Core.List.{[], ◌∷◌}
use mathlib.Core.Bool.{◌||◌}
use native.Mathlib.Omega.{arith}
use Rattle.rules.proofs.CodeLaws.{is_one_of-test, is-not}
use Rattle.rules.proofs.code.is_comparison.Goals as goal

pub returns : goal.returns
returns c =
    is_one_of-test ("==" ∷ "!=" ∷ "<=" ∷ "<" ∷ ">=" ∷ ">" ∷ [])
    (λ c. ((((eqb c 3 || eqb c 4) || eqb c 5) || eqb c 8) || eqb c 9) || eqb c 13) tt refl c.args.code
    (λ h. rw (
      is-not c.args.code 3 h (omega arith),
      is-not c.args.code 4 h (omega arith),
      is-not c.args.code 5 h (omega arith),
      is-not c.args.code 8 h (omega arith),
      is-not c.args.code 9 h (omega arith),
      is-not c.args.code 13 h (omega arith),
    ))
