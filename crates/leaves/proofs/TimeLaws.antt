-- Texts of @ times and offsets by their forms, as the code has them. Assumes nothing.
use Prim.Native.Nat.{ℕ, ◌+◌, ◌/◌, ◌≤◌}
use native.Mathlib.Omega.{arith}
use mathlib.Core.Path.{◌≡◌, refl, ap}
use lib.ListN.{length}
use Rattle.page.specs.Bytes.{bytes}
use Rattle.base.proofs.SpliceLaws.{Cut, cut-length}
use Rattle.records.specs.Answers.{at_modifier_of, offset_of}
use Rattle.records.specs.declared.time.AtModifier.{AtModifier}
use Rattle.records.specs.declared.time.AtModifier.TheVariants.{Start, End, After, Before}
use Rattle.records.specs.declared.time.Offset.{Offset}
use Rattle.records.specs.declared.time.Offset.TheVariants.{Pos, Neg}
use Rattle.leaves.specs.Decimal.{decimal, expansion}
use Rattle.leaves.specs.Duration.{display_duration}
use Rattle.leaves.specs.Time.{display_time, display_at, display_offset}
use Rattle.leaves.proofs.DecimalLaws.{decimal-last, length-expansion}

-- ## display_time

pub display_time-cut : (ms : ℕ) → Cut (display_time ms) (bytes "@ ") (expansion 3 ms)
unfolding display_time
display_time-cut ms = record { is = refl }

pub length-display_time : (ms : ℕ) → length (display_time ms) ≡ length (decimal (ms / 1000)) + 6
length-display_time ms = omega (arith, cut-length (display_time-cut ms), length-expansion 3 ms)

-- ## display_at

module _ (m : AtModifier) where
  pub display_at-start : m ≡ Start → display_at (at_modifier_of m) ≡ bytes "@ start()"
  unfolding display_at
  display_at-start e = rw e

  pub display_at-end : m ≡ End → display_at (at_modifier_of m) ≡ bytes "@ end()"
  unfolding display_at
  display_at-end e = rw e

  pub display_at-after : (n : ℕ) → m ≡ After n → display_at (at_modifier_of m) ≡ display_time n
  unfolding display_at
  display_at-after n e = rw e

  pub display_at-before : (n : ℕ) → m ≡ Before n → display_at (at_modifier_of m) ≡ display_time 0
  unfolding display_at
  display_at-before n e = rw e

  -- what `at_len` answers: d is the number of digits
  pub at-len-after : (n d : ℕ) → m ≡ After n → (d ≡ length (decimal (n / 1000))) × (d ≤ 20)
      → (d + 6 ≡ length (display_at (at_modifier_of m))) × (d + 6 ≤ 26)
  at-len-after n d e (is, short') = omega (arith, ap length (display_at-after n e), length-display_time n)

  pub at-len-before : (n : ℕ) → m ≡ Before n → (7 ≡ length (display_at (at_modifier_of m))) × (7 ≤ 26)
  at-len-before n e = omega (arith, ap length (display_at-before n e), length-display_time 0, ap length (decimal-last 0 (omega arith)))

-- ## display_offset

module _ (o : Offset) where
  pub display_offset-pos : (n : ℕ) → o ≡ Pos n → display_offset (offset_of o) ≡ display_duration n
  unfolding display_offset
  display_offset-pos n e = rw e

  pub display_offset-neg : (n : ℕ) → o ≡ Neg n → Cut (display_offset (offset_of o)) (bytes "-") (display_duration n)
  unfolding display_offset
  display_offset-neg n e = record { is = rw e }
