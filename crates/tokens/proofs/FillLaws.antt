-- Fills by their forms, as the code has them. That the code's comparison is `equal_by_value` is `same-by-value` of float;
-- here it is turned round, since the definition names the right number first. Assumes nothing.
use Prim.Native.Nat.{ℕ, ◌+◌}
use Prim.Native.String.{String}
use native.Mathlib.Omega.{arith}
use mathlib.Core.Bool.{Bool, true, false, ◌&&◌}
use mathlib.Core.List.{List, [], ◌∷◌, ◌++◌}
use mathlib.Core.Option.{Option, none, some}
use mathlib.Core.Path.{◌≡◌, refl, sym, ap, ◌∙◌}
use borrow.Author.Tests.{eq-eqb, ne_eqb}
use lib.Dec.{eqb}
use lib.ListN.{length, length-append}
use Rattle.base.proofs.Cases.{by-eq}
use Rattle.base.specs.Splice.{join}
use Rattle.base.proofs.SpliceLaws.{Cut}
use Rattle.page.specs.Bytes.{bytes}
use Rattle.records.specs.Literal.{Magnitude, whole, fraction, infinite, Literal, plus, minus, nan, is_zero, equal_magnitude, equal_by_value}
use Rattle.records.specs.Float.{IsExact}
use Rattle.records.specs.Allowed.{IsFill}
use Rattle.float.specs.Fills.{is_present, fill_values, same_fills}
use Rattle.float.specs.declared.FillValues.{FillValues}
use Rattle.float.proofs.SameLaws.{same-by-value}
use Rattle.leaves.specs.Numeral.{display_fill}
use Rattle.text.specs.Display.{filled, display_fills}
use Rattle.tokens.specs.Labelled.{fill_digits, filled_bytes, both_fills}
use Rattle.tokens.proofs.LabelledLaws.{four}

-- ## equal_by_value, turned round

eqb-turned : (n m : ℕ) → eqb n m ≡ eqb m n
eqb-turned n m = by-eq n m (λ e. eq-eqb n m e ∙ sym (eq-eqb m n (sym e))) (λ d. ne_eqb n m d ∙ sym (ne_eqb m n (λ e. d (sym e))))

magnitude-turned : (a b : Magnitude) → equal_magnitude a b ≡ equal_magnitude b a
magnitude-turned (whole n) (whole m) = eqb-turned n m
magnitude-turned (whole n) (fraction e q) = refl
magnitude-turned (whole n) infinite = refl
magnitude-turned (fraction d p) (whole m) = refl
magnitude-turned (fraction d p) (fraction e q) = rw (eqb-turned d e, eqb-turned p q)
magnitude-turned (fraction d p) infinite = refl
magnitude-turned infinite (whole m) = refl
magnitude-turned infinite (fraction e q) = refl
magnitude-turned infinite infinite = refl

and-turned : (a b : Bool) → a && b ≡ b && a
and-turned true true = refl
and-turned true false = refl
and-turned false true = refl
and-turned false false = refl

equal-turned : (a b : Literal) → equal_by_value a b ≡ equal_by_value b a
equal-turned (plus m) (plus n) = magnitude-turned m n
equal-turned (plus m) (minus n) = and-turned (is_zero m) (is_zero n)
equal-turned (plus m) nan = refl
equal-turned (minus m) (plus n) = and-turned (is_zero m) (is_zero n)
equal-turned (minus m) (minus n) = magnitude-turned m n
equal-turned (minus m) nan = refl
equal-turned nan (plus n) = refl
equal-turned nan (minus n) = refl
equal-turned nan nan = refl

-- ## filled

filled-bytes : (w : String) (l : Literal) → filled w l ≡ filled_bytes (bytes w) l
unfolding filled_bytes join
filled-bytes w l = four (bytes w) (bytes " (") (display_fill l) (bytes ")")

pub length-filled_bytes : (w : List ℕ) (l : Literal) → length (filled_bytes w l) ≡ length w + 3 + length (display_fill l)
unfolding filled_bytes join
length-filled_bytes w l = omega (arith, length-append w (32 ∷ 40 ∷ (display_fill l ++ (bytes ")"))), length-append (display_fill l) (bytes ")"))

-- ## The digits of a fill

pub digits-exact : (x : Option Literal) → IsFill x → IsExact (fill_digits x)
digits-exact none h = omega arith
digits-exact (some l) h = h

-- ## Both fills

-- the bytes of ` fill`, ` fill_left` and ` fill_right`
abbrev pub fill_word : List ℕ
fill_word = bytes " fill"

abbrev pub left_word : List ℕ
left_word = bytes " fill_left"

abbrev pub right_word : List ℕ
right_word = bytes " fill_right"

module _ (same : Bool) (l r : Literal) where
  pub both_one : same ≡ true → both_fills same l r ≡ filled_bytes fill_word r
  unfolding both_fills
  both_one e = rw e (filled-bytes " fill" r)

  pub both-each : same ≡ false → Cut (both_fills same l r) (filled_bytes left_word l) (filled_bytes right_word r)
  unfolding both_fills
  both-each e =
      record {
        is = rw e (ap (λ (a : List ℕ). a ++ filled " fill_right" r) (filled-bytes " fill_left" l)
            ∙ ap (λ (a : List ℕ). filled_bytes left_word l ++ a) (filled-bytes " fill_right" r));
      }

-- ## display_fills, by the bools of the values

module _ (l r : Option Literal) (values : FillValues) (is : values ≡ fill_values l r) where
  left-mark : (b : Bool) → values.has_left ≡ b → is_present l ≡ b
  left-mark b e = sym (ap (λ (v : FillValues). v.has_left) is) ∙ e

  right-mark : (b : Bool) → values.has_right ≡ b → is_present r ≡ b
  right-mark b e = sym (ap (λ (v : FillValues). v.has_right) is) ∙ e

  pub fills-none : values.has_left ≡ false → values.has_right ≡ false → display_fills l r ≡ []
  fills-none e f = none-there l r (left-mark false e) (right-mark false f)
    where
      none-there : (l r : Option Literal) → is_present l ≡ false → is_present r ≡ false → display_fills l r ≡ []
      none-there none none e f = refl
      none-there (some x) r e f = cc
      none-there none (some y) e f = cc

  pub fills-right : values.has_left ≡ false → values.has_right ≡ true → display_fills l r ≡ filled_bytes right_word (fill_digits r)
  fills-right e f = right_there l r (left-mark false e) (right-mark true f)
    where
      right_there : (l r : Option Literal) → is_present l ≡ false → is_present r ≡ true → display_fills l r ≡ filled_bytes right_word (fill_digits r)
      right_there none (some y) e f = filled-bytes " fill_right" y
      right_there none none e f = cc
      right_there (some x) r e f = cc

  pub fills-left : values.has_left ≡ true → values.has_right ≡ false → display_fills l r ≡ filled_bytes left_word (fill_digits l)
  fills-left e f = left_there l r (left-mark true e) (right-mark false f)
    where
      left_there : (l r : Option Literal) → is_present l ≡ true → is_present r ≡ false → display_fills l r ≡ filled_bytes left_word (fill_digits l)
      left_there (some x) none e f = filled-bytes " fill_left" x
      left_there (some x) (some y) e f = cc
      left_there none r e f = cc

  -- same is what `same_fills` answered
  pub fills-both : (same : Bool) → values.has_left ≡ true → values.has_right ≡ true → IsFill l → IsFill r → same ≡ same_fills values
      → display_fills l r ≡ both_fills same (fill_digits l) (fill_digits r)
  unfolding both_fills
  fills-both same e f hl hr answered = both-there l r (left-mark true e) (right-mark true f) hl hr (answered ∙ ap same_fills is)
    where
      both-there : (l r : Option Literal) → is_present l ≡ true → is_present r ≡ true → IsFill l → IsFill r → same ≡ same_fills (fill_values l r)
          → display_fills l r ≡ both_fills same (fill_digits l) (fill_digits r)
      both-there (some x) (some y) e f hl hr answered =
          let compared : same ≡ equal_by_value y x = answered ∙ same-by-value x y hl hr ∙ equal-turned x y in
          rw compared
      both-there (some x) none e f hl hr answered = cc
      both-there none r e f hl hr answered = cc
