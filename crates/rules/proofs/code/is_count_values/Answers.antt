-- `rules::code::is_count_values` meets its contract: the class is one code, tested once over all of them. Assumes
-- nothing.
use mathlib.Core.Path.{refl}
use lib.Dec.{eqb}
use mathlib.Core.List.{[], ◌∷◌}
use native.Mathlib.Omega.{arith}
use Rattle.rules.proofs.CodeLaws.{is_one_of-test, is-not}
use Rattle.rules.proofs.code.is_count_values.Goals as goal

pub returns : goal.returns
returns c =
    is_one_of-test ("count_values" ∷ []) (λ c. eqb c 20) tt refl c.args.code
    (λ h. rw (is-not c.args.code 20 h (omega arith)))
