-- The names of a table of functions ascend in the order in which the printed texts of matchers are sorted, that of
-- texts as bytes. Assumes nothing.
use mathlib.Core.Path.{◌≡◌, refl}
use mathlib.Core.Bool.{Bool, true, false, not}
use mathlib.Core.List.{[], ◌∷◌}
use native.Mathlib.Omega.{arith}
use lib.Dec.{ltb}
use borrow.Author.Tests.{ltb-true, ltb-false, le-ltb, eq-eqb, ne_eqb}
use Rattle.page.specs.Text.{Text}
use Rattle.functions.specs.Order.{is_before}
use Rattle.label.specs.Label.{at_most}

-- a text stands before another exactly where the other is not at most it
pub is_before-at_most : (t u : Text) → is_before t u ≡ not (at_most u t)
unfolding at_most
is_before-at_most [] [] = refl
is_before-at_most [] (b ∷ u) = refl
is_before-at_most (a ∷ t) [] = refl
is_before-at_most (a ∷ t) (b ∷ u) = by (is_before-at_most t u) (ltb a b) refl (ltb b a) refl
  where
    by : is_before t u ≡ not (at_most u t) → (x : Bool) → ltb a b ≡ x → (y : Bool) → ltb b a ≡ y
        → is_before (a ∷ t) (b ∷ u) ≡ not (at_most (b ∷ u) (a ∷ t))
    by rest true p y q =
        let below = ltb-true a b p in
        rw (p, le-ltb b a (omega (arith, below)), ne_eqb b a (λ e. omega (arith, e, below))) refl
    by rest false p true q = rw (p, q) refl
    by rest false p false q =
        rw (p, q, eq-eqb b a (omega (arith, ltb-false a b p, ltb-false b a q))) rest
