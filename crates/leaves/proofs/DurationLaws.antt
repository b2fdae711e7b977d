-- Laws of the seven counts, and how a duration's text is cut into the pieces that are written. Assumes nothing.
use Prim.Native.Nat.{ℕ, zero, suc, ◌+◌, ◌-◌, ◌*◌, ◌%◌, ◌^◌, ◌≤◌, ◌<◌}
use native.Mathlib.Nat.{div-add-mod'}
use native.Mathlib.Numerals.{add-one}
use native.Mathlib.Omega.{arith}
use mathlib.Core.Bool.{Bool, false, ◌&&◌, not}
use mathlib.Core.List.{List, [], ◌∷◌, ◌++◌, append-nil}
use mathlib.Core.Path.{◌≡◌, refl, sym, ap, ◌∙◌}
use borrow.Author.Tests.{eq-eqb, ne_eqb}
use lib.Dec.{ltb, eqb}
use lib.ListN.{length, get_or, take, drop, set, length-append, drop_of_length-le}
use lib.Seq.{drop-cons, append_snoc, take-suc-set, take_all}
use Rattle.base.proofs.Cases.{by_flag}
use Rattle.base.proofs.SpliceLaws.{Cut}
use Rattle.page.specs.Bytes.{bytes, pick}
use Rattle.leaves.specs.Decimal.{decimal}
use Rattle.leaves.specs.Duration.{time_unit, units, unit_at, unit_name, count_of, counts_of, duration_counts, display_count, display_counts, display_duration}
use Rattle.leaves.proofs.DecimalLaws.{decimal-short-64}

-- ## unit_at: the code's table of lengths, letters and marks is that of the units

abbrev pub lengths : List ℕ
lengths = 31536000000 ∷ 604800000 ∷ 86400000 ∷ 3600000 ∷ 60000 ∷ 1000 ∷ 1 ∷ []

abbrev pub letters : List ℕ
letters = bytes "ywdhmsm"

-- what stands after the first letter: an `s` in `ms`
unfoldable pub behind_letter : ℕ → List ℕ
behind_letter i = pick (eqb i 6) (115 ∷ []) []

pub record Tabled (i : ℕ) : Type 0 where
  pub millis : (unit_at i).millis ≡ get_or lengths i 0
  pub exact : (unit_at i).exact ≡ ltb i 2
  pub positive : 0 < get_or lengths i 0
  pub name : Cut (unit_name i) (get_or letters i 0 ∷ []) (behind_letter i)

pub tabled : (i : ℕ) → i < 7 → Tabled i
unfolding unit_at unit_name behind_letter
tabled zero h = record { millis = refl; exact = refl; positive = omega arith; name = record { is = refl } }
tabled (suc zero) h = record { millis = refl; exact = refl; positive = omega arith; name = record { is = refl } }
tabled (suc (suc zero)) h = record { millis = refl; exact = refl; positive = omega arith; name = record { is = refl } }
tabled (suc (suc (suc zero))) h = record { millis = refl; exact = refl; positive = omega arith; name = record { is = refl } }
tabled (suc (suc (suc (suc zero)))) h = record { millis = refl; exact = refl; positive = omega arith; name = record { is = refl } }
tabled (suc (suc (suc (suc (suc zero))))) h = record { millis = refl; exact = refl; positive = omega arith; name = record { is = refl } }
tabled (suc (suc (suc (suc (suc (suc zero)))))) h = record { millis = refl; exact = refl; positive = omega arith; name = record { is = refl } }
tabled (suc (suc (suc (suc (suc (suc (suc i))))))) h = absurd (omega arith)

pub behind_letter-ms : (i : ℕ) → i ≡ 6 → Cut (behind_letter i) (115 ∷ []) []
unfolding behind_letter
behind_letter-ms i e = record { is = rw (eq-eqb i 6 e) }

pub behind_letter-none : (i : ℕ) → (i ≡ 6 → ⊥) → behind_letter i ≡ []
unfolding behind_letter
behind_letter-none i h = rw (ne_eqb i 6 h)

-- ## count_of

-- the units counted are no more than the rest
pub count_of-within : (exact : Bool) (unit rest : ℕ) → count_of exact unit rest * unit ≤ rest
unfolding count_of
count_of-within exact unit rest =
    by_flag (exact && not (eqb (rest % unit) 0)) (λ e. rw e (omega arith)) (λ e. rw e (omega (arith, div-add-mod' rest unit)))

-- ## counts_of

-- n is the count of unit i
pub counts_of-next : (i rest n : ℕ) → i < 7 → n ≡ count_of (ltb i 2) (get_or lengths i 0) rest
    → counts_of (drop i units) rest ≡ n ∷ counts_of (drop (i + 1) units) (rest - n * get_or lengths i 0)
unfolding counts_of unit_at
counts_of-next i rest n h is =
    let t = tabled i h in
    rw (add-one i, drop-cons units i (time_unit "" 1 false) h, is, ← t.millis, ← t.exact)

-- a turn of the loop
pub counts_of-turn : (all counts : List ℕ) (i rest n : ℕ) → i < 7 → i < length counts → n ≡ count_of (ltb i 2) (get_or lengths i 0) rest
    → all ≡ take i counts ++ counts_of (drop i units) rest
    → all ≡ take (i + 1) (set counts i n) ++ counts_of (drop (i + 1) units) (rest - n * get_or lengths i 0)
counts_of-turn all counts i rest n h size is inv =
    inv ∙ rw (counts_of-next i rest n h is, add-one i, take-suc-set counts i n size) (sym (append_snoc (take i counts) n _))

-- after the last turn
pub counts_of-end : (all counts : List ℕ) (i rest : ℕ) → 7 ≤ i → length counts ≤ i
    → all ≡ take i counts ++ counts_of (drop i units) rest → counts ≡ all
unfolding counts_of
counts_of-end all counts i rest low size inv = sym (inv ∙ rw (drop_of_length-le units low, append-nil, take_all i counts size))

-- ## duration_counts

pub duration_counts-seven : (ms : ℕ) (counts : List ℕ) → counts ≡ duration_counts ms → length counts ≡ 7
unfolding duration_counts counts_of
duration_counts-seven ms counts e = ap length e

-- ## display_count: a count with its unit

pub display_count-none : (n i : ℕ) → n ≡ 0 → display_count n (unit_at i).name ≡ []
unfolding display_count
display_count-none n i e = rw e

pub display_count-some : (n i : ℕ) → (n ≡ 0 → ⊥) → Cut (display_count n (unit_at i).name) (decimal n) (unit_name i)
unfolding display_count unit_name
display_count-some zero i h = absurd (h refl)
display_count-some (suc n) i h = record { is = refl }

length-display_count : (n i : ℕ) → (n ≡ 0 → ⊥) → i < 7
    → length (display_count n (unit_at i).name) ≡ length (decimal n) + (1 + length (behind_letter i))
length-display_count n i h below =
    ap length (display_count-some n i h).is ∙ length-append (decimal n) (unit_name i)
    ∙ ap (λ (k : ℕ). length (decimal n) + k) (ap length (tabled i below).name.is ∙ omega arith)

-- what `count_len` answers, in its three ways: d is the number of digits
pub count-len-none : (n i : ℕ) → n ≡ 0 → (0 ≡ length (display_count n (unit_at i).name)) × (0 ≤ 22)
count-len-none n i e = (sym (ap length (display_count-none n i e)), omega arith)

pub count-len-ms : (n i d : ℕ) → n < 2 ^ 64 → (n ≡ 0 → ⊥) → i < 7 → i ≡ 6 → d ≡ length (decimal n)
    → (d + 2 ≡ length (display_count n (unit_at i).name)) × (d + 2 ≤ 22)
count-len-ms n i d fits h below e is = omega (arith, length-display_count n i h below, ap length (behind_letter-ms i e).is, decimal-short-64 n fits)

pub count-len-one : (n i d : ℕ) → n < 2 ^ 64 → (n ≡ 0 → ⊥) → i < 7 → (i ≡ 6 → ⊥) → d ≡ length (decimal n)
    → (d + 1 ≡ length (display_count n (unit_at i).name)) × (d + 1 ≤ 22)
count-len-one n i d fits h below e is = omega (arith, length-display_count n i h below, ap length (behind_letter-none i e), decimal-short-64 n fits)

-- ## display_counts: all seven

pub display_counts-next : (ns : List ℕ) (i : ℕ) → i < length ns → i < 7
    → Cut (display_counts (drop i units) (drop i ns)) (display_count (get_or ns i 0) (unit_at i).name) (display_counts (drop (i + 1) units) (drop (i + 1) ns))
unfolding display_counts unit_at
display_counts-next ns i h k = record { is = rw (add-one i, drop-cons ns i 0 h, drop-cons units i (time_unit "" 1 false) k) }

pub display_counts-end : (ns : List ℕ) (i : ℕ) → 7 ≤ i → display_counts (drop i units) (drop i ns) ≡ []
unfolding display_counts
display_counts-end ns i h = rw (drop_of_length-le units h)

-- ## display_duration

pub display_duration-zero : (ms : ℕ) → ms ≡ 0 → display_duration ms ≡ bytes "0s"
unfolding display_duration
display_duration-zero ms e = rw e

pub display_duration-counts : (ms : ℕ) (counts : List ℕ) → (ms ≡ 0 → ⊥) → counts ≡ duration_counts ms → display_duration ms ≡ display_counts units counts
unfolding display_duration
display_duration-counts zero counts h e = absurd (h refl)
display_duration-counts (suc ms) counts h e = rw (← e)
