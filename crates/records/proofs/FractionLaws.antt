-- Fractions (document 02, No. 5) by value: digits / 10 ^ places. Digits that do not end in 0 and at least one place are
-- one form for one value: no fraction is whole, and two of equal value have the same digits and places. Assumes nothing.
use Prim.Native.Nat.{ℕ, zero, suc, ◌*◌, ◌%◌, ◌^◌, ◌≤◌}
use native.Mathlib.Nat.{mul_left_comm, pow-suc}
use native.Mathlib.Omega.{arith}
use mathlib.Core.Bool.{Bool, true, false, ◌&&◌, not, true≢false}
use mathlib.Core.Path.{◌≡◌, refl, sym, ap, ◌∙◌}
use borrow.Author.Tests.{eq-eqb}
use lib.Dec.{T, leb, eqb, eqb→eq, leb→le}
use Rattle.page.specs.Bytes.{between}
use Rattle.page.proofs.NumberLaws.{left-of, right_of}
use Rattle.records.specs.Literal.{fraction, signed, is_digits, is_places, equal_magnitude, equal_by_value}
use Rattle.records.specs.Float.{IsExactMagnitude}

-- ## The ranges

between-bounds : (a b x : ℕ) → T (between a b x) → (a ≤ x) × (x ≤ b)
between-bounds a b x h = (leb→le a x (left-of (leb a x) (leb x b) h), leb→le x b (right_of (leb a x) (leb x b) h))

pub places-bounds : (p : ℕ) → T (is_places p) → (1 ≤ p) × (p ≤ 15)
places-bounds p h = between-bounds 1 15 p h

pub digits-bounds : (d : ℕ) → T (is_digits d) → (1 ≤ d) × (d ≤ 999999999999999)
digits-bounds d h = between-bounds 1 999999999999999 d (left-of (between 1 999999999999999 d) (not (eqb (d % 10) 0)) h)

pub digits_last : (d : ℕ) → T (is_digits d) → d % 10 ≡ 0 → ⊥
digits_last d h e = refused (right_of (between 1 999999999999999 d) (not (eqb (d % 10) 0)) h)
  where
    refused : T (not (eqb (d % 10) 0)) → ⊥
    refused t = rw (eq-eqb (d % 10) 0 e) at t

-- ## Values

-- a product with 10 ends in 0
ends-in-zero : (x d : ℕ) → x ≡ 10 * d → x % 10 ≡ 0
ends-in-zero x d e = omega arith

cancel : (a b : ℕ) → 10 * a ≡ 10 * b → a ≡ b
cancel a b e = omega arith

tens : (n k : ℕ) → n * 10 ^ suc k ≡ 10 * (n * 10 ^ k)
tens n k = rw pow-suc (omega (arith, mul_left_comm n 10 (10 ^ k)))

-- no fraction is whole
pub fraction-whole : (d p n : ℕ) → IsExactMagnitude (fraction d p) → d ≡ n * 10 ^ p → ⊥
fraction-whole d zero n h e = absurd (omega (arith, places-bounds 0 h.1))
fraction-whole d (suc p) n h e = digits_last d h.0 (ends-in-zero d (n * 10 ^ p) (e ∙ tens n p))

same-value : (d p e q : ℕ) → (d % 10 ≡ 0 → ⊥) → (e % 10 ≡ 0 → ⊥) → d * 10 ^ q ≡ e * 10 ^ p → (d ≡ e) × (p ≡ q)
same-value d zero e zero h k v = (omega arith, refl)
same-value d zero e (suc q) h k v = absurd (k (ends-in-zero e (d * 10 ^ q) (omega (arith, tens d q))))
same-value d (suc p) e zero h k v = absurd (h (ends-in-zero d (e * 10 ^ p) (omega (arith, tens e p))))
same-value d (suc p) e (suc q) h k v =
    let more = same-value d p e q h k (cancel (d * 10 ^ q) (e * 10 ^ p) (sym (tens d q) ∙ v ∙ tens e p)) in
    (more.0, ap suc more.1)

same_parts : (d p e q : ℕ) → (eqb d e && eqb p q) ≡ true → (d ≡ e) × (p ≡ q)
same_parts d p e q t =
    let both : T (eqb d e && eqb p q) = rw t tt in
    (eqb→eq d e (left-of (eqb d e) (eqb p q) both), eqb→eq p q (right_of (eqb d e) (eqb p q) both))

-- "compare by value": two fractions are equal if and only if digits times powers of ten are
pub fraction-value : (d p e q : ℕ) → IsExactMagnitude (fraction d p) → IsExactMagnitude (fraction e q)
    → (equal_magnitude (fraction d p) (fraction e q) ≡ true → d * 10 ^ q ≡ e * 10 ^ p)
    × (d * 10 ^ q ≡ e * 10 ^ p → equal_magnitude (fraction d p) (fraction e q) ≡ true)
fraction-value d p e q h k = (value, equal)
  where
    value : (eqb d e && eqb p q) ≡ true → d * 10 ^ q ≡ e * 10 ^ p
    value t = let same = same_parts d p e q t in rw (same.0, same.1)

    equal : d * 10 ^ q ≡ e * 10 ^ p → (eqb d e && eqb p q) ≡ true
    equal v =
        let same = same-value d p e q (digits_last d h.0) (digits_last e k.0) v in
        rw (eq-eqb d e same.0, eq-eqb p q same.1)

-- so equality by value is that of sign, digits and places
pub fraction-equal : (s t : Bool) (d p e q : ℕ)
    → (equal_by_value (signed s (fraction d p)) (signed t (fraction e q)) ≡ true → (s ≡ t) × (d ≡ e) × (p ≡ q))
    × ((s ≡ t) × (d ≡ e) × (p ≡ q) → equal_by_value (signed s (fraction d p)) (signed t (fraction e q)) ≡ true)
fraction-equal s t d p e q = (by s t, λ same. rw (same.0, same.1, same.2) (itself t))
  where
    by : (s t : Bool) → equal_by_value (signed s (fraction d p)) (signed t (fraction e q)) ≡ true → (s ≡ t) × (d ≡ e) × (p ≡ q)
    by true true h = let same = same_parts d p e q h in (refl, same.0, same.1)
    by false false h = let same = same_parts d p e q h in (refl, same.0, same.1)
    by true false h = absurd (true≢false (sym h))
    by false true h = absurd (true≢false (sym h))

    itself : (s : Bool) → equal_by_value (signed s (fraction e q)) (signed s (fraction e q)) ≡ true
    itself true = rw (eq-eqb e e refl, eq-eqb q q refl)
    itself false = rw (eq-eqb e e refl, eq-eqb q q refl)
