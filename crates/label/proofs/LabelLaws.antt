-- Texts of labels and of lists of them, a label at a time. Assumes nothing.
use Prim.Native.Nat.{ℕ, zero, suc, ◌+◌, ◌-◌, ◌≤◌, ◌<◌, min}
use native.Mathlib.Omega.{arith}
use mathlib.Core.Bool.{Bool, true, false}
use mathlib.Core.List.{List, [], ◌++◌}
use mathlib.Core.Path.{◌≡◌, refl, ap, ◌∙◌}
use lib.ListN.{length, length-append}
use Rattle.page.specs.Bytes.{bytes}
use Rattle.base.proofs.SpliceLaws.{Cut, cut-length}
use Rattle.page.specs.Read.{got}
use Rattle.page.specs.Text.{Text, is_label, read_any_text}
use Rattle.page.specs.Listed.{listed}
use Rattle.page.proofs.ListLaws.{listed_more, listed-none}
use Rattle.leaves.specs.Escape.{quote}
use Rattle.label.specs.Label.{display_label, display_labels, display_more_labels}

-- a count that is not 0
pub some_left : (n : ℕ) → (n ≡ 0 → ⊥) → 0 < n
some_left zero h = absurd (h refl)
some_left (suc n) h = omega arith

-- ## display_label: r is what `is_label` answered

pub display_label-bare : (t : Text) (r : Bool) → r ≡ is_label t → r ≡ true → display_label t ≡ t
unfolding display_label
display_label-bare t r is yes' = rw (← is, yes')

pub display_label-quoted : (t : Text) (r : Bool) → r ≡ is_label t → r ≡ false → display_label t ≡ quote t
unfolding display_label
display_label-quoted t r is no' = rw (← is, no')

-- ## display_more_labels, display_labels: so many labels from s on, the first of them t with rest after it

module _ (n : ℕ) (s : List ℕ) where
  -- the first label, and those after it
  pub label_then : Text → List ℕ → List ℕ
  label_then t rest = display_label t ++ display_more_labels (listed read_any_text (n - 1) rest)

  module _ {t : Text} {rest : List ℕ} (some' : 0 < n) (is : got t rest ≡ read_any_text s) where
    pub display_more_labels-separator : Cut (display_more_labels (listed read_any_text n s)) (bytes ", ") (label_then t rest)
    unfolding display_more_labels label_then
    display_more_labels-separator = record { is = rw (listed_more read_any_text n s some' is) }

    pub label_then-label : Cut (label_then t rest) (display_label t) (display_more_labels (listed read_any_text (n - 1) rest))
    unfolding label_then
    label_then-label = record { is = refl }

    pub display_labels-first : Cut (display_labels (listed read_any_text n s)) (display_label t) (display_more_labels (listed read_any_text (n - 1) rest))
    unfolding display_labels display_more_labels
    display_labels-first = record { is = rw (listed_more read_any_text n s some' is) }

    pub length-display_more_labels : length (display_more_labels (listed read_any_text n s))
        ≡ 2 + length (display_label t) + length (display_more_labels (listed read_any_text (n - 1) rest))
    unfolding label_then
    length-display_more_labels =
        ap length display_more_labels-separator.is
        ∙ omega (arith, length-append (display_label t) (display_more_labels (listed read_any_text (n - 1) rest)))

  pub display_more_labels-none : n ≤ 0 → display_more_labels (listed read_any_text n s) ≡ []
  unfolding display_more_labels
  display_more_labels-none h = rw (listed-none read_any_text n s h)

  pub display_labels-none : n ≡ 0 → display_labels (listed read_any_text n s) ≡ []
  unfolding display_labels
  display_labels-none h = rw (listed-none read_any_text n s (omega arith))

-- ## `more_labels_len`: the sum so far and what is left come to the whole, up to the cap

module _ (n : ℕ) (s : List ℕ) (cap : ℕ) where
  -- a label's length, its separator with it, and the new sum
  pub labels-sum-on : {t : Text} {rest : List ℕ} (whole total label one sum : ℕ) (u : Text) → 0 < n → got t rest ≡ read_any_text s
      → whole ≡ min (total + length (display_more_labels (listed read_any_text n s))) cap → u ≡ t → label ≡ min (length (display_label u)) cap
      → one ≡ min (2 + label) cap → sum ≡ min (total + one) cap
      → whole ≡ min (sum + length (display_more_labels (listed read_any_text (n - 1) rest))) cap
  labels-sum-on {t} whole total label one sum u some' is inv same measured one-is sum_is_lem =
      let size : length (display_label u) ≡ length (display_label t) = ap (λ (v : Text). length (display_label v)) same in
      omega (arith, length-display_more_labels n s some' is)

  pub labels-first : {t : Text} {rest : List ℕ} (label more sum : ℕ) (u : Text) → (n ≡ 0 → ⊥) → got t rest ≡ read_any_text s → u ≡ t
      → label ≡ min (length (display_label u)) cap → more ≡ min (length (display_more_labels (listed read_any_text (n - 1) rest))) cap
      → sum ≡ min (label + more) cap → sum ≡ min (length (display_labels (listed read_any_text n s))) cap
  labels-first {t} label more sum u some' is same measured more-is sum_is_lem =
      let size : length (display_label u) ≡ length (display_label t) = ap (λ (v : Text). length (display_label v)) same in
      omega (arith, cut-length (display_labels-first n s (some_left n some') is))
