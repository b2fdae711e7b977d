-- The parts of a matcher that can be read: its operator is the first byte, then come two texts that can be read, and
-- after a pattern a flag that is one byte. Assumes nothing.
use Prim.Native.Nat.{ℕ, zero, suc, ◌+◌, ◌≤◌, ◌<◌}
use mathlib.Core.Path.{◌≡◌, refl, sym, ap, ◌∙◌}
use mathlib.Core.Bool.{Bool}
use mathlib.Core.List.{List}
use native.Mathlib.Omega.{arith}
use lib.ListN.{drop, get_or}
use lib.Dec.{eqb}
use Rattle.page.specs.Read.{got, reader_at}
use Rattle.page.specs.Text.{Text, read_any_text}
use Rattle.page.specs.Listed.{Readable}
use Rattle.page.proofs.StoredLaws.{first-readable, next-readable, Chosen, choice-stored}
use Rattle.records.specs.Field.{flag_forms, read_flag}
use Rattle.records.specs.Matcher.{matcher_of, re, not_re, matcher_forms, read_matcher}
use Rattle.records.proofs.MatcherFactsLaws.{by-operator}

-- ## Flags

module _ (page : List ℕ) (at : ℕ) (readable : Readable read_flag (drop at page)) where
  pub flag-chosen : Chosen flag_forms page at
  flag-chosen = choice-stored flag_forms page at (omega arith) readable

  pub flag-stored : got (eqb (get_or page at 0) 1) (drop (at + 1) page) ≡ read_flag (drop at page)
  flag-stored = by (get_or page at 0) flag-chosen.known ∙ sym flag-chosen.is
    where
      by : (b : ℕ) → b < 2 → got (eqb b 1) (drop (at + 1) page) ≡ reader_at flag_forms b (drop (at + 1) page)
      by zero h = refl
      by (suc zero) h = refl
      by (suc (suc b)) h = absurd (omega (arith, h))

-- ## Matchers

module _ (page : List ℕ) (at : ℕ) (readable : Readable read_matcher (drop at page)) where
  pub operator-chosen : Chosen matcher_forms page at
  operator-chosen = choice-stored matcher_forms page at (omega arith) readable

  pub operator-few : get_or page at 0 ≤ 3
  operator-few = omega (arith, operator-chosen.known)

  -- what follows the operator
  form : Readable (reader_at matcher_forms (get_or page at 0)) (drop (at + 1) page)
  form = record { value = readable.value; rest = readable.rest; reads = readable.reads ∙ operator-chosen.is }

  -- ### Its parts, by the forms of the four operators

  pub name-stored : Readable read_any_text (drop (at + 1) page)
  name-stored =
      by-operator (λ k. Readable (reader_at matcher_forms k) (drop (at + 1) page) → Readable read_any_text (drop (at + 1) page))
      (first-readable read_any_text _ (drop (at + 1) page))
      (first-readable read_any_text _ (drop (at + 1) page))
      (first-readable read_any_text _ (drop (at + 1) page))
      (first-readable read_any_text _ (drop (at + 1) page))
      (get_or page at 0) operator-few form

  module _ {n : Text} {t : List ℕ} (name : got n t ≡ read_any_text (drop (at + 1) page)) where
    pub value-stored : Readable read_any_text t
    value-stored =
        by-operator (λ k. Readable (reader_at matcher_forms k) (drop (at + 1) page) → Readable read_any_text t)
        (λ h. first-readable read_any_text _ t (next-readable read_any_text _ (drop (at + 1) page) h name))
        (λ h. first-readable read_any_text _ t (next-readable read_any_text _ (drop (at + 1) page) h name))
        (λ h. first-readable read_any_text _ t (next-readable read_any_text _ (drop (at + 1) page) h name))
        (λ h. first-readable read_any_text _ t (next-readable read_any_text _ (drop (at + 1) page) h name))
        (get_or page at 0) operator-few form

    module _ {v : Text} {u : List ℕ} (value : got v u ≡ read_any_text t) where
      pub pattern-flag-stored : (get_or page at 0 ≡ 0 → ⊥) → (get_or page at 0 ≡ 1 → ⊥) → Readable read_flag u
      pattern-flag-stored none one =
          by-operator (λ k. (k ≡ 0 → ⊥) → (k ≡ 1 → ⊥) → Readable (reader_at matcher_forms k) (drop (at + 1) page) → Readable read_flag u)
          (λ a b h. absurd (a refl))
          (λ a b h. absurd (b refl))
          (λ a b h. first-readable read_flag _ u (next-readable read_any_text _ t (next-readable read_any_text _ (drop (at + 1) page) h name) value))
          (λ a b h. first-readable read_flag _ u (next-readable read_any_text _ t (next-readable read_any_text _ (drop (at + 1) page) h name) value))
          (get_or page at 0) operator-few none one form

      by_form : {op : ℕ} → get_or page at 0 ≡ op → read_matcher (drop at page) ≡ reader_at matcher_forms op (drop (at + 1) page)
      by_form e = operator-chosen.is ∙ ap (λ (k : ℕ). reader_at matcher_forms k (drop (at + 1) page)) e

      module _ {b : Bool} {w : List ℕ} (flag : got b w ≡ read_flag u) where
        pub is-pattern : get_or page at 0 ≡ 2 → got (matcher_of (re b) n v) w ≡ read_matcher (drop at page)
        is-pattern e = sym (by_form e ∙ rw (← name, ← value, ← flag))

        pub is-negated : (get_or page at 0 ≡ 0 → ⊥) → (get_or page at 0 ≡ 1 → ⊥) → (get_or page at 0 ≡ 2 → ⊥)
            → got (matcher_of (not_re b) n v) w ≡ read_matcher (drop at page)
        is-negated none one two = sym (by_form {op = 3} (omega (arith, none, one, two, operator-few)) ∙ rw (← name, ← value, ← flag))
