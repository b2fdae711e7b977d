-- How long the texts of a page's values can be: quoted texts, numbers, durations, @ times and offsets. A number on a
-- page is at most 2^53, so it has at most 16 digits; a fraction has at most 15 digits and 15 places; and of a duration
-- after its days each rest is below its unit. Assumes nothing.
use Prim.Native.Nat.{ℕ, zero, suc, ◌+◌, ◌-◌, ◌*◌, ◌/◌, ◌^◌, ◌≤◌, ◌<◌}
use Prim.Native.String.{String}
use native.Mathlib.Omega.{arith}
use mathlib.Core.Bool.{Bool, true, false}
use mathlib.Core.List.{List, [], ◌∷◌}
use mathlib.Core.Path.{◌≡◌, refl}
use lib.ListN.{length, drop, length-append}
use lib.Dec.{eqb}
use Rattle.page.specs.Bytes.{pick, bytes}
use Rattle.page.specs.Limits.{number_limit}
use Rattle.page.specs.Text.{Text}
use Rattle.records.specs.Literal.{Magnitude, whole, fraction, infinite, Literal, plus, minus, nan}
use Rattle.records.specs.Float.{IsExactMagnitude, IsExact}
use Rattle.records.proofs.FractionLaws.{digits-bounds, places-bounds}
use Rattle.records.specs.Time.{Offset, pos, neg, AtModifier, start, end, after, before}
use Rattle.records.specs.Allowed.{IsOffset, IsAtModifier}
use Rattle.leaves.specs.Decimal.{digits, decimal, padded, expansion}
use Rattle.leaves.specs.Numeral.{display_magnitude, display_number, display_literal, display_fill, longest_numeral}
use Rattle.leaves.specs.Duration.{TimeUnit, time_unit, units, count_of, counts_of, duration_counts, display_count, display_counts, display_duration}
use Rattle.leaves.specs.Escape.{escape_byte, escape, quote}
use Rattle.leaves.specs.Time.{display_time, display_at, display_offset}
use Rattle.leaves.proofs.DecimalLaws.{decimal-short, expansion-measured}
use Rattle.leaves.proofs.DurationLaws.{count_of-within}
use Rattle.leaves.proofs.EscapeLaws.{length-quote}
use Rattle.leaves.proofs.TimeLaws.{length-display_time}

-- ## Quoted texts

pick-short : (b : Bool) (x y : List ℕ) (most : ℕ) → length x ≤ most → length y ≤ most → length (pick b x y) ≤ most
pick-short true x y most h k = h
pick-short false x y most h k = k

escape_byte-short : (c : ℕ) → length (escape_byte c) ≤ 2
unfolding escape_byte
escape_byte-short c =
    pick-short (eqb c 92) _ _ 2 (omega arith)
    (pick-short (eqb c 34) _ _ 2 (omega arith)
    (pick-short (eqb c 10) _ _ 2 (omega arith)
    (pick-short (eqb c 13) _ _ 2 (omega arith)
    (pick-short (eqb c 9) _ _ 2 (omega arith) (omega arith)))))

escape-short : (t : Text) → length (escape t) ≤ 2 * length t
unfolding escape
escape-short [] = omega arith
escape-short (c ∷ t) = omega (arith, length-append (escape_byte c) (escape t), escape_byte-short c, escape-short t)

pub quote-short : (t : Text) → length (quote t) ≤ 2 * length t + 2
quote-short t = omega (arith, length-quote t, escape-short t)

-- ## Numbers

decimal-short-53 : (n : ℕ) → n ≤ number_limit → length (decimal n) ≤ 16
decimal-short-53 n h = decimal-short 15 n (omega arith)

-- as long as the digits or the places, whichever are more
expansion-short : (p d : ℕ) → IsExactMagnitude (fraction d p) → length (expansion p d) ≤ 17
expansion-short p d h =
    let few = decimal-short 14 d (omega (arith, digits-bounds d h.0)) in
    omega (arith, expansion-measured p d, few, places-bounds p h.1)

module _ (infinity : String) (short : length (bytes infinity) ≤ 17) where
  display_magnitude-short : (m : Magnitude) → IsExactMagnitude m → length (display_magnitude infinity m) ≤ 17
  display_magnitude-short (whole n) h = omega (arith, decimal-short-53 n h)
  display_magnitude-short (fraction d p) h = expansion-short p d h
  display_magnitude-short infinite h = short

  display_number-short : (l : Literal) → IsExact l → length (display_number infinity l) ≤ longest_numeral
  unfolding display_number
  display_number-short (plus m) h = omega (arith, display_magnitude-short m h)
  display_number-short (minus m) h = omega (arith, display_magnitude-short m h)
  display_number-short nan h = omega arith

pub display_literal-short : (l : Literal) → IsExact l → length (display_literal l) ≤ longest_numeral
unfolding display_literal
display_literal-short = display_number-short "Inf" (omega arith)

pub display_fill-short : (l : Literal) → IsExact l → length (display_fill l) ≤ longest_numeral
unfolding display_fill
display_fill-short = display_number-short "inf" (omega arith)

-- `-0.000000000000001`
pub longest-numeral : length (display_literal (minus (fraction 1 15))) ≡ longest_numeral
unfolding display_literal display_number expansion decimal digits padded
longest-numeral = refl

-- ## Durations

display_count-short : (n k : ℕ) (name : String) → n < 10 ^ suc k → length (display_count n name) ≤ suc k + length (bytes name)
unfolding display_count
display_count-short zero k name h = omega arith
display_count-short (suc n) k name h = omega (arith, length-append (decimal (suc n)) (bytes name), decimal-short k (suc n) h)

-- the first unit's count has so many digits, and what it leaves is no longer than so much
display_counts-short : (u : TimeUnit) (us : List TimeUnit) (rest k most : ℕ) → count_of u.exact u.millis rest < 10 ^ suc k
    → length (display_counts us (counts_of us (rest - count_of u.exact u.millis rest * u.millis))) ≤ most
    → length (display_counts (u ∷ us) (counts_of (u ∷ us) rest)) ≤ suc k + length (bytes u.name) + most
unfolding display_counts counts_of
display_counts-short u us rest k most h more =
    let n = count_of u.exact u.millis rest in
    omega (arith, length-append (display_count n u.name) (display_counts us (counts_of us (rest - n * u.millis))), display_count-short n k u.name h)

-- from a unit on
abbrev TextFrom : ℕ → ℕ → List ℕ
TextFrom i rest = display_counts (drop i units) (counts_of (drop i units) rest)

millis-short : (rest : ℕ) → rest < 1000 → length (TextFrom 6 rest) ≤ 5
unfolding display_counts count_of
millis-short rest h = display_counts-short (time_unit "ms" 1 false) [] rest 2 0 (omega arith) (omega arith)

seconds-short : (rest : ℕ) → rest < 60000 → length (TextFrom 5 rest) ≤ 8
unfolding count_of
seconds-short rest h = display_counts-short (time_unit "s" 1000 false) (drop 6 units) rest 1 5 (omega arith) (millis-short _ (omega arith))

minutes-short : (rest : ℕ) → rest < 3600000 → length (TextFrom 4 rest) ≤ 11
unfolding count_of
minutes-short rest h = display_counts-short (time_unit "m" 60000 false) (drop 5 units) rest 1 8 (omega arith) (seconds-short _ (omega arith))

hours-short : (rest : ℕ) → rest < 86400000 → length (TextFrom 3 rest) ≤ 14
unfolding count_of
hours-short rest h = display_counts-short (time_unit "h" 3600000 false) (drop 4 units) rest 1 11 (omega arith) (minutes-short _ (omega arith))

days-short : (rest : ℕ) → rest ≤ number_limit → length (TextFrom 2 rest) ≤ 24
unfolding count_of
days-short rest h = display_counts-short (time_unit "d" 86400000 false) (drop 3 units) rest 8 14 (omega arith) (hours-short _ (omega arith))

weeks-short : (rest : ℕ) → rest ≤ number_limit → length (TextFrom 1 rest) ≤ 33
weeks-short rest h =
    display_counts-short (time_unit "w" 604800000 true) (drop 2 units) rest 7 24
    (omega (arith, count_of-within true 604800000 rest)) (days-short _ (omega arith))

pub display_duration-short : (ms : ℕ) → ms ≤ number_limit → length (display_duration ms) ≤ 40
unfolding display_duration duration_counts
display_duration-short zero h = omega arith
display_duration-short (suc ms) h =
    display_counts-short (time_unit "y" 31536000000 true) (drop 1 units) (suc ms) 5 33
    (omega (arith, count_of-within true 31536000000 (suc ms))) (weeks-short _ (omega arith))

-- ## @ times and offsets

display_time-short : (ms : ℕ) → ms ≤ number_limit → length (display_time ms) ≤ 22
display_time-short ms h = omega (arith, length-display_time ms, decimal-short-53 (ms / 1000) (omega arith))

pub display_at-short : (a : AtModifier) → IsAtModifier a → length (display_at a) ≤ 22
unfolding display_at
display_at-short start h = omega arith
display_at-short end h = omega arith
display_at-short (after n) h = display_time-short n (omega arith)
display_at-short (before n) h = display_time-short 0 (omega arith)

pub display_offset-short : (o : Offset) → IsOffset o → length (display_offset o) ≤ 41
unfolding display_offset
display_offset-short (pos n) h = omega (arith, display_duration-short n h)
display_offset-short (neg n) h = omega (arith, display_duration-short n h)
