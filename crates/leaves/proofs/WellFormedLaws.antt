-- The texts of numbers, durations and times are well-formed, being ASCII; and quoting keeps a text well-formed: only
-- bytes below 128 are escaped, and no byte of a longer character is one. Assumes nothing.
use Prim.Native.String.{String}
use Prim.Native.Nat.{ℕ, zero, suc, ◌+◌, ◌/◌, ◌%◌, ◌≤◌, ◌<◌}
use native.Mathlib.Omega.{arith}
use mathlib.Core.Path.{◌≡◌, refl, subst}
use mathlib.Core.Bool.{Bool, true, false, ◌&&◌}
use mathlib.Core.List.{List, [], ◌∷◌, ◌++◌}
use mathlib.Core.Option.{Option, none, some}
use lib.Dec.{T, leb, ltb, eqb, leb→le}
use borrow.Author.Tests.{ne_eqb, ltb-true}
use Rattle.base.proofs.Cases.{by-lt}
use Rattle.page.specs.Bytes.{pick, bytes, all}
use Rattle.page.specs.Text.{Text, is_text}
use Rattle.page.specs.Utf8.{Range, holds, following, begun, is_utf8_after, is_utf8}
use Rattle.page.proofs.NumberLaws.{left-of, right_of}
use Rattle.page.proofs.Utf8Laws.{byte-skip}
use Rattle.page.proofs.WellFormedLaws.{WellFormed, text-append, text-empty, text-word, text-pick, text-byte, are_high}
use Rattle.page.proofs.WellFormedLaws.{following-high}
use Rattle.records.specs.Literal.{Literal, plus, minus, nan, whole, fraction, infinite}
use Rattle.records.specs.Time.{Offset, pos, neg, AtModifier, start, end, after, before}
use Rattle.leaves.specs.Decimal.{digits, decimal, padded, expansion}
use Rattle.leaves.specs.Duration.{TimeUnit, units, duration_counts, display_count, display_counts, display_duration}
use Rattle.leaves.specs.Escape.{escape_byte, escape, quote}
use Rattle.leaves.specs.Numeral.{display_number, display_literal, display_fill}
use Rattle.leaves.specs.Time.{display_time, display_at, display_offset}

-- ## Strings

escape_byte-low : (c : ℕ) → c < 128 → WellFormed (escape_byte c)
unfolding escape_byte
escape_byte-low c l =
    text-pick (eqb c 92) (text-word "\\\\" tt)
    (text-pick (eqb c 34) (text-word "\\\"" tt)
    (text-pick (eqb c 10) (text-word "\\n" tt)
    (text-pick (eqb c 13) (text-word "\\r" tt)
    (text-pick (eqb c 9) (text-word "\\t" tt) (text-byte l text-empty)))))

escape_byte-high : (c : ℕ) → 128 ≤ c → escape_byte c ≡ c ∷ []
unfolding escape_byte
escape_byte-high c h =
    rw (
      other 92 (omega arith),
      other 34 (omega arith),
      other 10 (omega arith),
      other 13 (omega arith),
      other 9 (omega arith),
    )
  where
    other : (b : ℕ) → b < c → eqb c b ≡ false
    other b l = ne_eqb c b (λ e. omega arith)

-- what the escapes of the bytes after c are held to
abbrev Escapes : Text → Type 0
Escapes t = (due : List Range) → T (are_high due) → T (is_utf8_after due t) → T (is_utf8_after due (escape t))

low-escaped : (c : ℕ) (t : Text) → c < 128 → Escapes t → T (is_utf8 (c ∷ t)) → T (is_utf8 (escape_byte c ++ escape t))
low-escaped c t l more h =
    (text-append (escape_byte-low c l) (record { passes = more [] tt (subst T (byte-skip c t l) h) })).passes

high-escaped : (c : ℕ) (t : Text) → 128 ≤ c → Escapes t → T (is_utf8 (c ∷ t)) → T (is_utf8 (escape_byte c ++ escape t))
high-escaped c t l more h = rw (escape_byte-high c l) (by (following c) refl h)
  where
    by : (o : Option (List Range)) → following c ≡ o → T (begun o (λ due. is_utf8_after due t))
        → T (begun o (λ due. is_utf8_after due (escape t)))
    by none e h = absurd h
    by (some due) e h = more due (following-high c due e) h

due-escaped : (r : Range) (due : List Range) (c : ℕ) (t : Text) → T (are_high (r ∷ due)) → Escapes t
    → T (is_utf8_after (r ∷ due) (c ∷ t)) → T (is_utf8_after (r ∷ due) (escape_byte c ++ escape t))
due-escaped r due c t a more h =
    rw (escape_byte-high c (omega (arith, low, above)))
    (by (holds r c) (more due (right_of (leb 128 r.low) (are_high due) a)) h)
  where
    by : (b : Bool) → (T (is_utf8_after due t) → T (is_utf8_after due (escape t))) → T (b && is_utf8_after due t)
        → T (b && is_utf8_after due (escape t))
    by true more h = more h
    by false more h = absurd h

    low : 128 ≤ r.low
    low = leb→le 128 r.low (left-of (leb 128 r.low) (are_high due) a)

    above : r.low ≤ c
    above = leb→le r.low c (left-of (leb r.low c) (leb c r.high) (left-of (holds r c) (is_utf8_after due t) h))

escape-kept : (t : Text) → Escapes t
unfolding escape
escape-kept [] [] a h = tt
escape-kept [] (r ∷ due) a h = absurd h
escape-kept (c ∷ t) [] a h =
    by-lt c 128 (λ l. low-escaped c t l (escape-kept t) h) (λ l. high-escaped c t l (escape-kept t) h)
escape-kept (c ∷ t) (r ∷ due) a h = due-escaped r due c t a (escape-kept t) h

escape-text : (t : Text) → T (is_text t) → WellFormed (escape t)
escape-text t h = record { passes = escape-kept t [] tt h }

pub quote-text : (t : Text) → T (is_text t) → WellFormed (quote t)
unfolding quote
quote-text t h = text-append (text-append (text-word "\"" tt) (escape-text t h)) (text-word "\"" tt)

-- ## Numbers

digits-text : (k n : ℕ) → n ≤ k → WellFormed (digits k n)
unfolding digits
digits-text zero n l = text-byte (omega arith) text-empty
digits-text (suc k) n l = by (ltb n 10) refl (digits-text k (n / 10) (omega arith))
  where
    by : (b : Bool) → ltb n 10 ≡ b → WellFormed (digits k (n / 10))
        → WellFormed (pick b ((48 + n) ∷ []) (digits k (n / 10) ++ ((48 + n % 10) ∷ [])))
    by true e more = text-byte (omega (arith, ltb-true n 10 e)) text-empty
    by false e more = text-append more (text-byte (omega arith) text-empty)

pub decimal-text : (n : ℕ) → WellFormed (decimal n)
unfolding decimal
decimal-text n = digits-text n n (omega arith)

padded-text : (places n : ℕ) → WellFormed (padded places n)
unfolding padded
padded-text zero n = text-empty
padded-text (suc k) n = text-append (padded-text k (n / 10)) (text-byte {c = 48 + n % 10} (omega arith) text-empty)

expansion-text : (places n : ℕ) → WellFormed (expansion places n)
unfolding expansion
expansion-text places n = text-append (text-append (decimal-text _) (text-word "." tt)) (padded-text places n)

number-text : (infinity : String) → WellFormed (bytes infinity) → (l : Literal) → WellFormed (display_number infinity l)
unfolding display_number
number-text infinity h (plus (whole n)) = decimal-text n
number-text infinity h (plus (fraction d p)) = expansion-text p d
number-text infinity h (plus infinite) = h
number-text infinity h (minus (whole n)) = text-append (text-word "-" tt) (decimal-text n)
number-text infinity h (minus (fraction d p)) = text-append (text-word "-" tt) (expansion-text p d)
number-text infinity h (minus infinite) = text-append (text-word "-" tt) h
number-text infinity h nan = text-word "NaN" tt

pub literal-text : (l : Literal) → WellFormed (display_literal l)
unfolding display_literal
literal-text = number-text "Inf" (text-word "Inf" tt)

pub fill-text : (l : Literal) → WellFormed (display_fill l)
unfolding display_fill
fill-text = number-text "inf" (text-word "inf" tt)

-- ## Durations and times

count-text : (n : ℕ) (name : String) → WellFormed (bytes name) → WellFormed (display_count n name)
unfolding display_count
count-text zero name h = text-empty
count-text (suc n) name h = text-append (decimal-text (suc n)) h

abbrev is_named : TimeUnit → Bool
is_named u = is_text (bytes u.name)

counts-text : (us : List TimeUnit) (ns : List ℕ) → T (all is_named us) → WellFormed (display_counts us ns)
unfolding display_counts
counts-text [] ns h = text-empty
counts-text (u ∷ us) [] h = text-empty
counts-text (u ∷ us) (n ∷ ns) h =
    text-append (count-text n u.name (record { passes = left-of (is_named u) (all is_named us) h }))
    (counts-text us ns (right_of (is_named u) (all is_named us) h))

pub duration-text : (ms : ℕ) → WellFormed (display_duration ms)
unfolding display_duration
duration-text zero = text-word "0s" tt
duration-text (suc ms) = counts-text units (duration_counts (suc ms)) tt

time-text : (ms : ℕ) → WellFormed (display_time ms)
unfolding display_time
time-text ms = text-append (text-word "@ " tt) (expansion-text 3 ms)

pub at-text : (a : AtModifier) → WellFormed (display_at a)
unfolding display_at
at-text start = text-word "@ start()" tt
at-text end = text-word "@ end()" tt
at-text (after n) = time-text n
at-text (before n) = time-text 0

pub offset-text : (o : Offset) → WellFormed (display_offset o)
unfolding display_offset
offset-text (pos n) = duration-text n
offset-text (neg n) = text-append (text-word "-" tt) (duration-text n)
