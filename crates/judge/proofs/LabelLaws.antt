-- The first label of a list that is in the on list too: as a loop finds it, and whether there is one. Assumes nothing.
use Prim.Native.Nat.{ℕ, zero, suc, ◌-◌, ◌≤◌, ◌<◌}
use mathlib.Core.Path.{◌≡◌, refl, sym, ap, ◌∙◌}
use mathlib.Core.Bool.{Bool, true, false, ◌||◌, not}
use mathlib.Core.List.{List, [], ◌∷◌}
use native.Mathlib.Nat.{not-suc-le-zero}
use native.Mathlib.Omega.{arith}
use borrow.Author.Tests.{ltb-true, ltb-false}
use lib.ListN.{length, drop, length-drop}
use lib.Dec.{ltb}
use Rattle.page.specs.Bytes.{pick, any, is_empty}
use Rattle.page.specs.Read.{FieldFault, Read, refused, got}
use Rattle.page.specs.Text.{Text, read_any_text}
use Rattle.page.specs.Listed.{before, listed}
use Rattle.page.proofs.StoredLaws.{not-refused}
use Rattle.page.proofs.TextLaws.{empty-true, empty-false}
use Rattle.records.specs.Field.{Labels}
use Rattle.ast.specs.CheckAst.{has_label}
use Rattle.judge.specs.Label.{from_label, from_joint}

-- ## The loop: `whole`, the bytes from such a label on, is found among the `left` labels from s on

module _ (on : Labels) (left : ℕ) (s : List ℕ) {whole : List ℕ} (inv : whole ≡ from_joint on left s) where
  from_joint-more : {a : Text} {t : List ℕ} → 0 < left → got a t ≡ read_any_text s → whole ≡ pick (has_label on a) s (from_joint on (left - 1) t)
  unfolding from_joint
  from_joint-more {a} {t} h e = inv ∙ by left h
    where
      by : (n : ℕ) → 0 < n → from_joint on n s ≡ pick (has_label on a) s (from_joint on (n - 1) t)
      by zero h = absurd (not-suc-le-zero h)
      by (suc n) h = let less : n ≡ suc n - 1 = omega arith in rw (← e) (ap (λ (k : ℕ). pick (has_label on a) s (from_joint on k t)) less)

  pub joint-found : {a : Text} {t : List ℕ} → 0 < left → got a t ≡ read_any_text s → has_label on a ≡ true → s ≡ whole
  joint-found h e has = sym (from_joint-more h e ∙ rw has)

  pub joint-next : {a : Text} {t : List ℕ} → 0 < left → got a t ≡ read_any_text s → has_label on a ≡ false → whole ≡ from_joint on (left - 1) t
  joint-next h e has = from_joint-more h e ∙ rw has

  pub joint-refused : {f : FieldFault} → refused f ≡ read_any_text s → [] ≡ whole
  unfolding from_joint
  joint-refused e = sym (inv ∙ by left)
    where
      by : (n : ℕ) → from_joint on n s ≡ []
      by zero = refl
      by (suc n) = rw (← e)

  pub joint-none : left ≤ 0 → [] ≡ whole
  unfolding from_joint
  joint-none h = sym (inv ∙ by left h)
    where
      by : (n : ℕ) → n ≤ 0 → from_joint on n s ≡ []
      by zero h = refl
      by (suc n) h = absurd (not-suc-le-zero h)

-- ## Whether there is one

-- bytes that begin with a text are not empty
text-full : (s : List ℕ) {a : Text} {t : List ℕ} → got a t ≡ read_any_text s → not (is_empty s) ≡ true
text-full [] e = not-refused e
text-full (b ∷ s) e = refl

first_any : (on : Labels) (n : ℕ) (s : List ℕ) (m : Read Text) → m ≡ read_any_text s
    → ((t : List ℕ) → not (is_empty (from_joint on n t)) ≡ any (has_label on) (listed read_any_text n t))
    → not (is_empty (from_label on s m (λ t. from_joint on n t))) ≡ any (has_label on) (before m (λ t. listed read_any_text n t))
first_any on n s (refused f) e more = refl
first_any on n s (got a t) e more = by (has_label on a)
  where
    by : (has : Bool) → not (is_empty (pick has s (from_joint on n t))) ≡ (has || any (has_label on) (listed read_any_text n t))
    by true = text-full s e
    by false = more t

from_joint-any : (on : Labels) (n : ℕ) (s : List ℕ) → not (is_empty (from_joint on n s)) ≡ any (has_label on) (listed read_any_text n s)
unfolding from_joint listed
from_joint-any on zero s = refl
from_joint-any on (suc n) s = first_any on n s (read_any_text s) refl (from_joint-any on n)

-- a position is before the end where bytes are left
ltb-drop : (r : ℕ) (l : List ℕ) → ltb r (length l) ≡ not (is_empty (drop r l))
ltb-drop r l = by (ltb r (length l)) refl
  where
    by : (b : Bool) → ltb r (length l) ≡ b → b ≡ not (is_empty (drop r l))
    by true e = sym (ap not (empty-false (drop r l) (λ z. omega (arith, z, length-drop r l, ltb-true r (length l) e))))
    by false e = sym (ap not (empty-true (drop r l) (omega (arith, length-drop r l, ltb-false r (length l) e))))

pub joint-before : (page : List ℕ) (on : Labels) (n : ℕ) (s : List ℕ) (r : ℕ) → drop r page ≡ from_joint on n s
    → ltb r (length page) ≡ any (has_label on) (listed read_any_text n s)
joint-before page on n s r e = ltb-drop r page ∙ ap (λ (l : List ℕ). not (is_empty l)) e ∙ from_joint-any on n s
