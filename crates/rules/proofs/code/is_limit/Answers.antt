-- `rules::code::is_limit` meets its contract: the class is a list of codes, tested once over all of them. Assumes
-- nothing.
use mathlib.Core.Path.{refl}
use lib.Dec.{eqb}
use mathlib.Core.List.{[], ◌∷◌}
use mathlib.Core.Bool.{◌||◌}
use native.Mathlib.Omega.{arith}
use Rattle.rules.proofs.CodeLaws.{is_one_of-test, is-not}
use Rattle.rules.proofs.code.is_limit.Goals as goal

pub returns : goal.returns
returns c =
    is_one_of-test ("limitk" ∷ "limit_ratio" ∷ []) (λ c. eqb c 29 || eqb c 30) tt refl c.args.code
    (λ h. rw (is-not c.args.code 29 h (omega arith), is-not c.args.code 30 h (omega arith)))
