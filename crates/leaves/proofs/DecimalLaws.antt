-- Laws of `decimal` and `expansion`, for any number. Both go on by tens: an expansion down to no places, where it is
-- the number and the point. So beside the point it has the number's digits, or its places and a 0, whichever are more.
-- Assumes nothing.
use Prim.Native.Nat.{ℕ, zero, suc, ◌+◌, ◌-◌, ◌/◌, ◌%◌, ◌^◌, ◌≤◌, ◌<◌, max}
use native.Mathlib.Nat.{div-lt_iff_lt-mul, div-one, div-div-eq-div-mul, pow-suc, pow-succ'}
use native.Mathlib.Numerals.{unary_clauses}
use native.Mathlib.Omega.{arith}
use mathlib.Core.List.{List, [], ◌∷◌, ◌++◌, append-nil, append_assoc}
use mathlib.Core.Path.{◌≡◌, refl, sym, ap, ◌∙◌}
use borrow.Author.Tests.{lt-ltb, le-ltb}
use lib.Dec.{ltb}
use lib.ListN.{length, length-append}
use Rattle.base.proofs.Cases.{by-lt}
use Rattle.base.proofs.SpliceLaws.{Cut, cut-length}
use Rattle.page.specs.Bytes.{pick, bytes}
use Rattle.leaves.specs.Decimal.{digits, decimal, padded, expansion}

-- ## decimal

-- enough digits are as good as any
fuel : (j k n : ℕ) → n ≤ j → n ≤ k → digits j n ≡ digits k n
unfolding digits
fuel zero zero n hj hk = refl
fuel zero (suc k) n hj hk = simp (lt-ltb n 10 (omega arith))
fuel (suc j) zero n hj hk = simp (lt-ltb n 10 (omega arith))
fuel (suc j) (suc k) n hj hk =
    ap (λ (l : List ℕ). pick (ltb n 10) ((48 + n) ∷ []) (l ++ ((48 + n % 10) ∷ []))) (fuel j k (n / 10) (omega arith) (omega arith))

pub decimal-last : (n : ℕ) → n < 10 → decimal n ≡ (48 + n) ∷ []
unfolding decimal digits
decimal-last zero h = refl
decimal-last (suc n) h = simp (lt-ltb (suc n) 10 h)

pub decimal-more : (n : ℕ) → 10 ≤ n → Cut (decimal n) (decimal (n / 10)) ((48 + n % 10) ∷ [])
unfolding decimal digits
decimal-more zero h = absurd (omega arith)
decimal-more (suc n) h = record { is = rw (le-ltb (suc n) 10 h, fuel n (suc n / 10) (suc n / 10) (omega arith) (omega arith)) }

pub decimal-length : (n : ℕ) → 10 ≤ n → length (decimal n) ≡ length (decimal (n / 10)) + 1
decimal-length n h = ap length (decimal-more n h).is ∙ length-append (decimal (n / 10)) ((48 + n % 10) ∷ [])

decimal-some : (n : ℕ) → 1 ≤ length (decimal n)
decimal-some n =
    by-lt n 10 (λ low. omega (arith, ap length (decimal-last n low))) (λ high. omega (arith, decimal-length n high))

-- a number below 10 ^ k has at most k digits
pub decimal-short : (k n : ℕ) → n < 10 ^ suc k → length (decimal n) ≤ suc k
decimal-short zero n h = omega (arith, ap length (decimal-last n (omega arith)))
decimal-short (suc k) n h =
    by-lt n 10 (λ low. omega (arith, ap length (decimal-last n low)))
    (λ high. omega (arith, decimal-length n high, decimal-short k (n / 10) ((div-lt_iff_lt-mul (omega arith)).1 (rw pow-suc at h))))

-- a number of 64 bits has at most 20
pub decimal-short-64 : (n : ℕ) → n < 2 ^ 64 → length (decimal n) ≤ 20
decimal-short-64 n h = decimal-short 19 n (omega arith)

-- ## expansion

pub expansion-none : (places n : ℕ) → places ≡ 0 → Cut (expansion places n) (decimal n) (bytes ".")
unfolding expansion padded
expansion-none places n e = record { is = rw e (append-nil _ ∙ ap (λ (m : ℕ). decimal m ++ bytes ".") (div-one n)) }

tenth : (k n : ℕ) → n / 10 ^ suc k ≡ n / 10 / 10 ^ k
tenth k n = rw pow-succ' (sym (div-div-eq-div-mul n 10 (10 ^ k)))

pub expansion-more : (k n : ℕ) → Cut (expansion (suc k) n) (expansion k (n / 10)) ((48 + n % 10) ∷ [])
unfolding expansion padded
expansion-more k n =
    let front = decimal (n / 10 / 10 ^ k) ++ bytes "." in
    record { is = rw (tenth k n) (sym (append_assoc front (padded k (n / 10)) ((48 + n % 10) ∷ []))) }

-- as the code has it
pub expansion-some : (places n : ℕ) → (places ≡ 0 → ⊥)
    → Cut (expansion places n) (expansion (places - 1) (n / 10)) ((48 + n % 10) ∷ [])
expansion-some zero n h = absurd (h refl)
expansion-some (suc k) n h = simp unary_clauses (expansion-more k n)

length-padded : (k n : ℕ) → length (padded k n) ≡ k
unfolding padded
length-padded zero n = refl
length-padded (suc k) n =
    omega (arith, length-append (padded k (n / 10)) ((48 + n % 10) ∷ []), length-padded k (n / 10))

pub length-expansion : (places n : ℕ) → length (expansion places n) ≡ length (decimal (n / 10 ^ places)) + 1 + places
unfolding expansion
length-expansion places n =
    let whole = decimal (n / 10 ^ places) in
    let point = length-append whole (bytes ".") in
    omega (arith, length-append (whole ++ bytes ".") (padded places n), point, length-padded places n)

-- the whole part has at least one digit
pub expansion-measured : (places n : ℕ) → length (expansion places n) ≡ max (length (decimal n)) (places + 1) + 1
expansion-measured zero n = omega (arith, cut-length (expansion-none 0 n refl), decimal-some n)
expansion-measured (suc k) n =
    let more = cut-length (expansion-more k n) in
    let shorter = expansion-measured k (n / 10) in
    by-lt n 10
    (λ low.
    let none' = ap length (decimal-last (n / 10) (omega arith)) in
    omega (arith, more, shorter, ap length (decimal-last n low), none'))
    (λ high. omega (arith, more, shorter, decimal-length n high))
