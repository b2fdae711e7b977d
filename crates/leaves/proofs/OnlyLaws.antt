-- The text of a number determines it: two literals print alike only if they are the same, in sign, digits and places;
-- and so two fills. For what is printed, read byte by byte, gives the number back. Assumes nothing.
use Prim.Native.Nat.{ℕ, zero, suc, ◌+◌, ◌-◌, ◌*◌, ◌/◌, ◌%◌, ◌≤◌, ◌<◌}
use Prim.Native.String.{String}
use native.Mathlib.Nat.{zero-add}
use native.Mathlib.Omega.{arith}
use mathlib.Core.Bool.{Bool, true, false}
use mathlib.Core.List.{List, [], ◌∷◌, ◌++◌}
use mathlib.Core.Path.{◌≡◌, refl, sym, ap, ◌∙◌}
use borrow.Author.Tests.{ne_eqb, le-ltb, ltb-true}
use lib.Dec.{eqb, ltb}
use Rattle.page.specs.Bytes.{pick, bytes}
use Rattle.records.specs.Literal.{Magnitude, whole, fraction, infinite, Literal, plus, minus, nan, signed, negate}
use Rattle.leaves.specs.Decimal.{digits, decimal, expansion}
use Rattle.leaves.specs.Numeral.{display_number, display_literal, display_fill}
use Rattle.leaves.proofs.DecimalLaws.{expansion-none, expansion-more}

-- ## A number read byte by byte

abbrev on_magnitude : (Magnitude → Magnitude) → Literal → Literal
on_magnitude f (plus m) = plus (f m)
on_magnitude f (minus m) = minus (f m)
on_magnitude f nan = nan

abbrev with_digit : ℕ → Magnitude → Magnitude
with_digit k (whole n) = whole (10 * n + k)
with_digit k (fraction d p) = fraction (10 * d + k) (suc p)
with_digit k infinite = infinite

abbrev with_point : Magnitude → Magnitude
with_point (whole n) = fraction n 0
with_point (fraction d p) = fraction d p
with_point infinite = infinite

-- what was read, and one byte more: `-`, `.`, the `N` of NaN, a letter of infinity, a digit
abbrev with_byte : Literal → ℕ → Literal
with_byte l c =
    pick (eqb c 45) (negate l)
    (pick (eqb c 46) (on_magnitude with_point l)
    (pick (eqb c 78) nan
    (pick (ltb 57 c) (on_magnitude (λ m. infinite) l)
    (on_magnitude (with_digit (c - 48)) l))))

abbrev read_from : Literal → List ℕ → Literal
read_from l [] = l
read_from l (c ∷ text) = read_from (with_byte l c) text

-- after the sign, before the first digit
abbrev nothing : Bool → Literal
nothing sign = signed sign (whole 0)

read_from-last : (l : Literal) (text : List ℕ) (c : ℕ) → read_from l (text ++ (c ∷ [])) ≡ with_byte (read_from l text) c
read_from-last l [] c = refl
read_from-last l (b ∷ text) c = read_from-last (with_byte l b) text c

point-read : (sign : Bool) (m : Magnitude) → with_byte (signed sign m) 46 ≡ signed sign (with_point m)
point-read true m = refl
point-read false m = refl

digit-read : (sign : Bool) (m : Magnitude) (k : ℕ) → k < 10
    → with_byte (signed sign m) (48 + k) ≡ signed sign (with_digit k m)
digit-read sign m k h =
    rw (
      ne_eqb (48 + k) 45 (λ e. omega arith),
      ne_eqb (48 + k) 46 (λ e. omega arith),
      ne_eqb (48 + k) 78 (λ e. omega arith),
      le-ltb 57 (48 + k) (omega arith),
    ) (by sign)
  where
    same : 48 + k - 48 ≡ k
    same = omega arith

    by : (sign : Bool) → on_magnitude (with_digit (48 + k - 48)) (signed sign m) ≡ signed sign (with_digit k m)
    by true = rw same
    by false = rw same

-- ## Digits, expansions and numbers give back what they print

tens : (n : ℕ) → 10 * (n / 10) + n % 10 ≡ n
tens n = omega arith

digit-back : (sign : Bool) (n : ℕ) → n < 10 → with_byte (nothing sign) (48 + n) ≡ signed sign (whole n)
digit-back sign n h = digit-read sign (whole 0) n h ∙ ap (λ (m : ℕ). signed sign (whole m)) (zero-add n)

digits-back : (sign : Bool) (k n : ℕ) → n ≤ k → read_from (nothing sign) (digits k n) ≡ signed sign (whole n)
unfolding digits
digits-back sign zero n h = digit-back sign n (omega arith)
digits-back sign (suc k) n h = by (ltb n 10) refl (digits-back sign k (n / 10) (omega arith))
  where
    by : (b : Bool) → ltb n 10 ≡ b → read_from (nothing sign) (digits k (n / 10)) ≡ signed sign (whole (n / 10))
        → read_from (nothing sign) (pick b ((48 + n) ∷ []) (digits k (n / 10) ++ ((48 + n % 10) ∷ [])))
        ≡ signed sign (whole n)
    by true e more = digit-back sign n (ltb-true n 10 e)
    by false e more =
        read_from-last (nothing sign) (digits k (n / 10)) (48 + n % 10)
        ∙ rw more (digit-read sign (whole (n / 10)) (n % 10) (omega arith) ∙ rw (tens n))

decimal-back : (sign : Bool) (n : ℕ) → read_from (nothing sign) (decimal n) ≡ signed sign (whole n)
unfolding decimal
decimal-back sign n = digits-back sign n n (omega arith)

expansion-back : (sign : Bool) (places n : ℕ)
    → read_from (nothing sign) (expansion places n) ≡ signed sign (fraction n places)
expansion-back sign zero n =
    rw (expansion-none 0 n refl).is
    (read_from-last (nothing sign) (decimal n) 46 ∙ rw (decimal-back sign n) (point-read sign (whole n)))
expansion-back sign (suc k) n =
    let digit = digit-read sign (fraction (n / 10) k) (n % 10) (omega arith) in
    rw (expansion-more k n).is
    (read_from-last (nothing sign) (expansion k (n / 10)) (48 + n % 10)
    ∙ rw (expansion-back sign k (n / 10)) (digit ∙ rw (tens n)))

-- the word for infinity is read so, after either sign
module _ (infinity : String)
    (word : read_from (nothing false) (bytes infinity) ≡ plus infinite)
    (negative : read_from (nothing true) (bytes infinity) ≡ minus infinite) where
  display_number-back : (l : Literal) → read_from (nothing false) (display_number infinity l) ≡ l
  unfolding display_number
  display_number-back (plus (whole n)) = decimal-back false n
  display_number-back (plus (fraction d p)) = expansion-back false p d
  display_number-back (plus infinite) = word
  display_number-back (minus (whole n)) = decimal-back true n
  display_number-back (minus (fraction d p)) = expansion-back true p d
  display_number-back (minus infinite) = negative
  display_number-back nan = refl

  display_number-only : (a b : Literal) → display_number infinity a ≡ display_number infinity b → a ≡ b
  display_number-only a b e = sym (display_number-back a) ∙ ap (read_from (nothing false)) e ∙ display_number-back b

-- ## The text determines the number

pub display_literal-only : (a b : Literal) → display_literal a ≡ display_literal b → a ≡ b
unfolding display_literal
display_literal-only = display_number-only "Inf" refl refl

pub display_fill-only : (a b : Literal) → display_fill a ≡ display_fill b → a ≡ b
unfolding display_fill
display_fill-only = display_number-only "inf" refl refl
