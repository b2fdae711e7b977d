-- `rules::code::asks_scalar` meets its contract: the class is a list of codes, tested once over all of them. Assumes
-- nothing.
use mathlib.Core.Path.{refl}
use lib.Dec.{eqb}
use mathlib.Core.List.{[], ◌∷◌}
use mathlib.Core.Bool.{◌||◌}
use native.Mathlib.Omega.{arith}
use Rattle.rules.proofs.CodeLaws.{is_one_of-test, is-not}
use Rattle.rules.proofs.code.asks_scalar.Goals as goal

pub returns : goal.returns
returns c =
    is_one_of-test ("topk" ∷ "bottomk" ∷ "quantile" ∷ []) (λ c. (eqb c 18 || eqb c 24) || eqb c 28) tt refl
    c.args.code
    (λ h. rw (
      is-not c.args.code 18 h (omega arith),
      is-not c.args.code 24 h (omega arith),
      is-not c.args.code 28 h (omega arith),
    ))
