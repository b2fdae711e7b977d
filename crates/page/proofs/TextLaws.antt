-- Tests on texts a byte at a time, as the loops of `name`, `ascii` and `text` go. Assumes nothing.
use Rattle.std.specs.List.{list_all}
use Prim.Native.Nat.{ℕ, ◌+◌, ◌≤◌, ◌<◌}
use mathlib.Core.Path.{◌≡◌, refl, sym, ◌∙◌}
use mathlib.Core.Bool.{Bool, true, false, not, ◌&&◌}
use mathlib.Core.List.{List, [], ◌∷◌, ◌++◌}
use native.Mathlib.Numerals.{add-one}
use native.Mathlib.Omega.{arith}
use lib.ListN.{length, drop, get_or, drop_of_length-le}
use lib.Seq.{drop-cons}
use borrow.Author.Tests.{not-true, not-false}
use Rattle.page.specs.Bytes.{all, is_empty}

-- ## all

module _ (p : ℕ → Bool) (l : List ℕ) (i : ℕ) where
  all-step : i < length l → all p (drop i l) ≡ p (get_or l i 0) && all p (drop (i + 1) l)
  all-step h = rw (add-one, drop-cons l i 0 h)

  pub all_end : length l ≤ i → all p (drop i l) ≡ true
  all_end h = rw (drop_of_length-le l h)

  -- x is the answer that is due, r the test of the byte at i
  pub all-stop : (x r : Bool) → i < length l → r ≡ p (get_or l i 0) → not r ≡ true → x ≡ all p (drop i l) → false ≡ x
  all-stop x r h is no' inv = sym (inv ∙ all-step h ∙ rw (← is, not-true r no'))

  pub all_go : (x r : Bool) → i < length l → r ≡ p (get_or l i 0) → not r ≡ false → x ≡ all p (drop i l)
      → x ≡ all p (drop (i + 1) l)
  all_go x r h is yes' inv = inv ∙ all-step h ∙ rw (← is, not-false r yes')

module _ (p : ℕ → Bool) where
  pub all_append : (a b : List ℕ) → all p (a ++ b) ≡ all p a && all p b
  all_append [] b = refl
  all_append (c ∷ a) b = by_first (p c) (all_append a b)
    where
      by_first : (t : Bool) → all p (a ++ b) ≡ all p a && all p b → t && all p (a ++ b) ≡ (t && all p a) && all p b
      by_first true e = e
      by_first false e = refl

-- std's word for the same
pub all-is : (p : ℕ → Bool) (xs : List ℕ) → list_all p xs ≡ all p xs
all-is p [] = refl
all-is p (x ∷ xs) = rw (all-is p xs)

-- ## is_empty

pub empty-true : (l : List ℕ) → length l ≡ 0 → is_empty l ≡ true
empty-true [] e = refl
empty-true (b ∷ bs) e = absurd (omega arith)

pub empty-false : (l : List ℕ) → (length l ≡ 0 → ⊥) → is_empty l ≡ false
empty-false [] e = absurd (e refl)
empty-false (b ∷ bs) e = refl
