-- Two fills that are there are the same for the code if and only if they are equal by value: of numbers with a float the
-- floats decide, of fractions sign, digits and places. Assumes nothing.
use Prim.Native.Nat.{ℕ}
use native.Mathlib.Omega.{arith}
use mathlib.Core.Bool.{Bool, true, false, ◌||◌}
use mathlib.Core.Path.{◌≡◌, refl, ◌∙◌}
use borrow.Author.Tests.{ne_eqb}
use lib.Dec.{eqb}
use lib.Ieee as Ieee
use Rattle.records.specs.Literal.{whole, fraction, infinite, Literal, plus, minus, nan, signed, equal_by_value}
use Rattle.records.specs.Float.{float, HasFloat, IsExact, IsExactMagnitude}
use Rattle.records.proofs.FloatLaws.{float_equal, nan_left}
use Rattle.records.proofs.FractionLaws.{digits-bounds, places-bounds}
use Rattle.float.specs.Fills.{no_fraction, fraction_of, same_fraction}

abbrev SameByValue : Literal → Literal → Type 0
SameByValue x y = (Ieee.eq (float x) (float y) || same_fraction (fraction_of x) (fraction_of y)) ≡ equal_by_value x y

or-false : (b : Bool) → (b || false) ≡ b
or-false true = refl
or-false false = refl

-- a number that is no fraction
by-floats : (x y : Literal) → IsExact x → IsExact y → HasFloat x → fraction_of x ≡ no_fraction → SameByValue x y
by-floats x y h k f e = rw e (or-false (Ieee.eq (float x) (float y)) ∙ float_equal x y h k f)

module _ (d p : ℕ) (h : IsExactMagnitude (fraction d p)) where
  some-digits : eqb d 0 ≡ false
  some-digits = ne_eqb d 0 (λ e. omega (arith, digits-bounds d h.0))

  some-places : eqb p 0 ≡ false
  some-places = ne_eqb p 0 (λ e. omega (arith, places-bounds p h.1))

  no-float : (s : Bool) (y : Literal) → Ieee.eq (float (signed s (fraction d p))) (float y) ≡ false
  unfolding Ieee.neg
  no-float true y = nan_left (float y)
  no-float false y = nan_left (float y)

  alike : (s : Bool) (y : Literal) → same_fraction (fraction_of (signed s (fraction d p))) (fraction_of y) ≡ equal_by_value (signed s (fraction d p)) y
  alike true (plus (whole n)) = rw (some-digits, some-places)
  alike true (plus (fraction e q)) = rw some-places
  alike true (plus infinite) = rw (some-digits, some-places)
  alike true (minus (whole n)) = rw (some-digits, some-places)
  alike true (minus (fraction e q)) = rw some-places
  alike true (minus infinite) = rw (some-digits, some-places)
  alike true nan = rw (some-digits, some-places)
  alike false (plus (whole n)) = rw (some-digits, some-places)
  alike false (plus (fraction e q)) = rw some-places
  alike false (plus infinite) = rw (some-digits, some-places)
  alike false (minus (whole n)) = rw (some-digits, some-places)
  alike false (minus (fraction e q)) = rw some-places
  alike false (minus infinite) = rw (some-digits, some-places)
  alike false nan = rw (some-digits, some-places)

  by_fraction : (s : Bool) (y : Literal) → SameByValue (signed s (fraction d p)) y
  by_fraction s y = rw (no-float s y) (alike s y)

pub same-by-value : (x y : Literal) → IsExact x → IsExact y
    → (Ieee.eq (float x) (float y) || same_fraction (fraction_of x) (fraction_of y)) ≡ equal_by_value x y
same-by-value (plus (whole n)) y h k = by-floats (plus (whole n)) y h k tt refl
same-by-value (plus (fraction d p)) y h k = by_fraction d p h false y
same-by-value (plus infinite) y h k = by-floats (plus infinite) y h k tt refl
same-by-value (minus (whole n)) y h k = by-floats (minus (whole n)) y h k tt refl
same-by-value (minus (fraction d p)) y h k = by_fraction d p h true y
same-by-value (minus infinite) y h k = by-floats (minus infinite) y h k tt refl
same-by-value nan y h k = by-floats nan y h k tt refl
