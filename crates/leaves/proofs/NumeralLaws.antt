-- Texts of literals by their forms, as the code has them. Assumes nothing.
use Prim.Native.Nat.{ℕ, ◌+◌}
use Prim.Native.String.{String}
use native.Mathlib.Omega.{arith}
use mathlib.Core.List.{[], ◌∷◌}
use mathlib.Core.Path.{◌≡◌}
use lib.ListN.{length}
use Rattle.base.proofs.SpliceLaws.{Cut}
use Rattle.page.specs.Bytes.{bytes}
use Rattle.records.specs.Answers.{literal_of}
use Rattle.records.specs.declared.literal.Literal.{Literal}
use Rattle.records.specs.declared.literal.Literal.TheVariants.{Whole, Negative, Nan, Inf, NegInf}
use Rattle.records.specs.declared.literal.Literal.TheVariants.{Fraction, NegativeFraction}
use Rattle.leaves.specs.Decimal.{decimal, expansion}
use Rattle.leaves.specs.Numeral.{display_number, display_literal, display_fill}
use Rattle.leaves.specs.NumeralLength.{NumeralLength}

-- ## display_number

module _ (infinity : String) (l : Literal) where
  pub display_number-whole : (n : ℕ) → l ≡ Whole n → display_number infinity (literal_of l) ≡ decimal n
  unfolding display_number
  display_number-whole n e = rw e

  pub display_number-negative : (n : ℕ) → l ≡ Negative n → Cut (display_number infinity (literal_of l)) (45 ∷ []) (decimal n)
  unfolding display_number
  display_number-negative n e = record { is = rw e }

  pub display_number-nan : l ≡ Nan → display_number infinity (literal_of l) ≡ bytes "NaN"
  unfolding display_number
  display_number-nan e = rw e

  pub display_number-inf : l ≡ Inf → display_number infinity (literal_of l) ≡ bytes infinity
  unfolding display_number
  display_number-inf e = rw e

  pub display_number-neg-inf : l ≡ NegInf → Cut (display_number infinity (literal_of l)) (45 ∷ []) (bytes infinity)
  unfolding display_number
  display_number-neg-inf e = record { is = rw e }

  pub display_number-fraction : (p d : ℕ) → l ≡ Fraction p d → display_number infinity (literal_of l) ≡ expansion p d
  unfolding display_number
  display_number-fraction p d e = rw e

  pub display_number-negative-fraction : (p d : ℕ) → l ≡ NegativeFraction p d
      → Cut (display_number infinity (literal_of l)) (45 ∷ []) (expansion p d)
  unfolding display_number
  display_number-negative-fraction p d e = record { is = rw e }

-- ## The length of both texts: what `numeral_len` answers, form by form

module _ (l : Literal) where
  pub measured-whole : (n r : ℕ) → l ≡ Whole n → r ≡ length (decimal n) → NumeralLength l r
  unfolding display_literal display_fill display_number
  measured-whole n r e is = record { literal = rw e is; fill = rw e is }

  pub measured-negative : (n r : ℕ) → l ≡ Negative n → r ≡ length (decimal n) → NumeralLength l (r + 1)
  unfolding display_literal display_fill display_number
  measured-negative n r e is = record { literal = rw e (omega arith); fill = rw e (omega arith) }

  pub measured-nan : l ≡ Nan → NumeralLength l 3
  unfolding display_literal display_fill display_number
  measured-nan e = record { literal = rw e; fill = rw e }

  pub measured-inf : l ≡ Inf → NumeralLength l 3
  unfolding display_literal display_fill display_number
  measured-inf e = record { literal = rw e; fill = rw e }

  pub measured-neg-inf : l ≡ NegInf → NumeralLength l 4
  unfolding display_literal display_fill display_number
  measured-neg-inf e = record { literal = rw e; fill = rw e }

  pub measured-fraction : (p d r : ℕ) → l ≡ Fraction p d → r ≡ length (expansion p d) → NumeralLength l r
  unfolding display_literal display_fill display_number
  measured-fraction p d r e is = record { literal = rw e is; fill = rw e is }

  pub measured-negative-fraction : (p d r : ℕ) → l ≡ NegativeFraction p d
      → r ≡ length (expansion p d) → NumeralLength l (r + 1)
  unfolding display_literal display_fill display_number
  measured-negative-fraction p d r e is = record { literal = rw e (omega arith); fill = rw e (omega arith) }
