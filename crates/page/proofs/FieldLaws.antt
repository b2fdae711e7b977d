-- Numbers a byte at a time, as `read_up_to` goes: a byte with its high bit set stands before the number of the groups
-- after it, which is at most 1/128 of the limit. Then choices of forms. Assumes nothing.
use Prim.Native.Nat.{ℕ, zero, suc, ◌+◌, ◌*◌, ◌-◌, ◌/◌, ◌≤◌, ◌<◌}
use mathlib.Core.Path.{◌≡◌, refl, sym, ap, ◌∙◌}
use mathlib.Core.Bool.{Bool, true, false}
use mathlib.Core.List.{List, [], ◌∷◌}
use native.Mathlib.Numerals.{add-one}
use native.Mathlib.Omega.{arith}
use lib.ListN.{length, drop, get_or, drop_of_length-le}
use lib.Seq.{drop-cons}
use lib.Dec.{leb, ltb}
use borrow.Author.Tests.{lt-ltb, le-ltb, le-leb, lt-leb, leb-true, leb-false}
use Rattle.base.proofs.Cases.{by-lt}
use Rattle.page.specs.Bytes.{pick}
use Rattle.page.specs.Read.{FieldFault, Read, refused, got, Reader, and_then, ensure, reader_at, bad_field}
use Rattle.page.specs.Number.{with_group, read_groups}
use Rattle.page.specs.Answers.{read_up_to}

-- ## read_up_to

pub past_end : (page : List ℕ) (at limit : ℕ) → length page ≤ at → refused bad_field ≡ read_up_to limit (drop at page)
past_end page at limit h = sym (ap (λ (s : List ℕ). read_up_to limit s) (drop_of_length-le page h))

abbrev capped : ℕ → Read ℕ → Read ℕ
capped limit m = and_then m (λ n. ensure (leb n limit) bad_field n)

small-enough : (limit n : ℕ) (rest : List ℕ) → n ≤ limit → capped limit (got n rest) ≡ got n rest
small-enough limit n rest h = ap (λ (b : Bool). ensure b bad_field n rest) (le-leb n limit h)

too_large : (limit n : ℕ) (rest : List ℕ) → limit < n → capped limit (got n rest) ≡ refused bad_field
too_large limit n rest h = ap (λ (b : Bool). ensure b bad_field n rest) (lt-leb n limit h)

-- what is read is at most the limit
read-capped : (limit v : ℕ) (t : List ℕ) (m : Read ℕ) → got v t ≡ capped limit m → v ≤ limit
read-capped limit v t (refused f) e = let z : ◌≡◌ {A = ℕ} 0 1 = cc in absurd (omega arith)
read-capped limit v t (got n rest) e =
    by-lt limit n
    (λ h. let no' : got v t ≡ refused bad_field = e ∙ too_large limit n rest h in let z : ◌≡◌ {A = ℕ} 0 1 = cc in absurd (omega arith))
    (λ h. let same : got v t ≡ got n rest = e ∙ small-enough limit n rest h in let value : v ≡ n = cc in rw value h)

pub read_small : (limit v : ℕ) (t s : List ℕ) → got v t ≡ read_up_to limit s → v ≤ limit
read_small limit v t s e = read-capped limit v t (read_groups s) e

-- a byte with its high bit set, before the number after it
abbrev joined : ℕ → ℕ → Read ℕ → Read ℕ
joined limit b (refused f) = refused f
joined limit b (got zero rest) = refused bad_field
joined limit b (got (suc v) rest) = pick (leb (b - 128 + 128 * suc v) limit) (got (b - 128 + 128 * suc v) rest) (refused bad_field)

larger : (limit b : ℕ) (m : Read ℕ) → capped limit (with_group b m) ≡ joined limit b (capped (limit / 128) m)
larger limit b (refused f) = refl
larger limit b (got zero rest) = sym (ap (joined limit b) (small-enough (limit / 128) zero rest (omega arith)))
larger limit b (got (suc v) rest) = by_size (leb (suc v) (limit / 128)) refl
  where
    n : ℕ
    n = b - 128 + 128 * suc v

    by-limit : (c : Bool) → ensure c bad_field n rest ≡ pick c (got n rest) (refused bad_field)
    by-limit true = refl
    by-limit false = refl

    by_size : (c : Bool) → leb (suc v) (limit / 128) ≡ c → capped limit (got n rest) ≡ joined limit b (capped (limit / 128) (got (suc v) rest))
    by_size true q = by-limit (leb n limit) ∙ sym (ap (joined limit b) (small-enough (limit / 128) (suc v) rest (leb-true (suc v) (limit / 128) q)))
    by_size false q =
        too_large limit n rest (above (leb-false (suc v) (limit / 128) q))
        ∙ sym (ap (joined limit b) (too_large (limit / 128) (suc v) rest (leb-false (suc v) (limit / 128) q)))
      where
        above : limit / 128 < suc v → limit < b - 128 + 128 * suc v
        above h = omega arith

-- whatever is wrong with a number is a bad field
abbrev OnlyBad : Read ℕ → Type 0
OnlyBad (refused f) = f ≡ bad_field
OnlyBad (got n rest) = Unit {0}

grouped-bad : (b : ℕ) (m : Read ℕ) → OnlyBad m → OnlyBad (with_group b m)
grouped-bad b (refused f) e = e
grouped-bad b (got zero rest) e = refl
grouped-bad b (got (suc v) rest) e = tt

first-bad : (b : ℕ) (bs : List ℕ) (c : Bool) (m : Read ℕ) → OnlyBad m → OnlyBad (pick c (got b bs) m)
first-bad b bs true m e = tt
first-bad b bs false m e = e

groups-bad : (s : List ℕ) → OnlyBad (read_groups s)
groups-bad [] = refl
groups-bad (b ∷ bs) = first-bad b bs (ltb b 128) (with_group b (read_groups bs)) (grouped-bad b (read_groups bs) (groups-bad bs))

-- a first byte above the limit
above-limit : (limit b : ℕ) (m : Read ℕ) → OnlyBad m → 128 ≤ b → limit < b → refused bad_field ≡ capped limit (with_group b m)
above-limit limit b (refused f) e g h = rw e
above-limit limit b (got zero rest) e g h = refl
above-limit limit b (got (suc v) rest) e g h = sym (too_large limit (b - 128 + 128 * suc v) rest (omega arith))

module _ (page : List ℕ) (at limit : ℕ) (inside : at < length page) where
  pub over_first : limit < get_or page at 0 → refused bad_field ≡ read_up_to limit (drop at page)
  over_first h =
      rw (drop-cons page at 0 inside)
      (by-lt (get_or page at 0) 128
      (λ g. rw (lt-ltb (get_or page at 0) 128 g) (sym (too_large limit (get_or page at 0) (drop (suc at) page) h)))
      (λ g. rw (le-ltb (get_or page at 0) 128 g) (above-limit limit (get_or page at 0) (read_groups (drop (suc at) page)) (groups-bad (drop (suc at) page)) g h)))

  pub one_byte : get_or page at 0 ≤ limit → get_or page at 0 < 128 → got (get_or page at 0) (drop (at + 1) page) ≡ read_up_to limit (drop at page)
  one_byte h g = rw (add-one, drop-cons page at 0 inside, lt-ltb (get_or page at 0) 128 g) (sym (small-enough limit (get_or page at 0) (drop (suc at) page) h))

  module _ (high : 128 ≤ get_or page at 0) where
    more : read_up_to limit (drop at page) ≡ joined limit (get_or page at 0) (read_up_to (limit / 128) (drop (at + 1) page))
    more = rw (add-one, drop-cons page at 0 inside, le-ltb (get_or page at 0) 128 high) (larger limit (get_or page at 0) (read_groups (drop (suc at) page)))

    joined-high : {n : ℕ} {t : List ℕ} (m : Read ℕ) → got n t ≡ joined limit (get_or page at 0) m → 128 ≤ n
    joined-high (refused f) e = let z : ◌≡◌ {A = ℕ} 0 1 = cc in absurd (omega arith)
    joined-high (got zero rest) e = let z : ◌≡◌ {A = ℕ} 0 1 = cc in absurd (omega arith)
    joined-high {n} {t} (got (suc v) rest) e = by (leb (get_or page at 0 - 128 + 128 * suc v) limit) e
      where
        by : (c : Bool) → got n t ≡ pick c (got (get_or page at 0 - 128 + 128 * suc v) rest) (refused bad_field) → 128 ≤ n
        by true e = let same : n ≡ get_or page at 0 - 128 + 128 * suc v = cc in omega (arith, same)
        by false e = let z : ◌≡◌ {A = ℕ} 0 1 = cc in absurd (omega arith)

    -- a number of more than one byte
    pub high-number : {n : ℕ} {t : List ℕ} → got n t ≡ read_up_to limit (drop at page) → 128 ≤ n
    high-number e = joined-high (read_up_to (limit / 128) (drop (at + 1) page)) (e ∙ more)

    pub none-behind : {f : FieldFault} → refused f ≡ read_up_to (limit / 128) (drop (at + 1) page) → refused f ≡ read_up_to limit (drop at page)
    none-behind e = sym (more ∙ ap (joined limit (get_or page at 0)) (sym e))

    pub zero-behind : {v : ℕ} {t : List ℕ} → got v t ≡ read_up_to (limit / 128) (drop (at + 1) page) → v ≡ 0 → refused bad_field ≡ read_up_to limit (drop at page)
    zero-behind {v} {t} e z = sym (more ∙ ap (joined limit (get_or page at 0)) (sym e) ∙ ap (λ (n : ℕ). joined limit (get_or page at 0) (got n t)) z)

    not-zero : (w : ℕ) (t : List ℕ) → (w ≡ 0 → ⊥)
        → joined limit (get_or page at 0) (got w t)
        ≡ pick (leb (get_or page at 0 - 128 + 128 * w) limit) (got (get_or page at 0 - 128 + 128 * w) t)
        (refused bad_field)
    not-zero zero t h = absurd (h refl)
    not-zero (suc w) t h = refl

    pub fits : {v : ℕ} {t : List ℕ} → got v t ≡ read_up_to (limit / 128) (drop (at + 1) page) → (v ≡ 0 → ⊥) → get_or page at 0 - 128 + 128 * v ≤ limit
        → got (get_or page at 0 - 128 + 128 * v) t ≡ read_up_to limit (drop at page)
    fits {v} {t} e h g =
        sym (more ∙ ap (joined limit (get_or page at 0)) (sym e) ∙ not-zero v t h
        ∙ ap (λ (c : Bool). pick c (got (get_or page at 0 - 128 + 128 * v) t) (refused bad_field)) (le-leb (get_or page at 0 - 128 + 128 * v) limit g))

    pub over : {v : ℕ} {t : List ℕ} → got v t ≡ read_up_to (limit / 128) (drop (at + 1) page) → (v ≡ 0 → ⊥) → limit < get_or page at 0 - 128 + 128 * v
        → refused bad_field ≡ read_up_to limit (drop at page)
    over {v} {t} e h g =
        sym (more ∙ ap (joined limit (get_or page at 0)) (sym e) ∙ not-zero v t h
        ∙ ap (λ (c : Bool). pick c (got (get_or page at 0 - 128 + 128 * v) t) (refused bad_field)) (lt-leb (get_or page at 0 - 128 + 128 * v) limit g))

-- ## reader_at

-- a number past the forms of a choice
pub no-form : {A : Type 0} (rs : List (Reader A)) (n : ℕ) (s : List ℕ) → length rs ≤ n → refused bad_field ≡ reader_at rs n s
no-form [] n s h = refl
no-form (r ∷ rs) zero s h = absurd (let z : ⊥ = omega arith in z)
no-form (r ∷ rs) (suc n) s h = no-form rs n s (omega arith)
