-- Of a record that was read no element is left out: the numbers of labels, matchers and kinds (specs/Numbers) are read
-- exactly where `read_any_text`, `read_matcher` and `read_kind` read, and leave the same bytes. Assumes nothing.
use Prim.Native.Nat.{ℕ, zero, suc, ◌-◌, ◌≤◌, ◌<◌}
use native.Mathlib.Omega.{arith}
use mathlib.Core.Bool.{Bool}
use mathlib.Core.List.{List, [], ◌∷◌}
use mathlib.Core.Path.{◌≡◌, refl, ap, ◌∙◌}
use borrow.Author.Tests.{lt-ltb, le-ltb, lt-leb}
use lib.Dec.{leb}
use lib.ListN.{length}
use Rattle.page.specs.Read.{Read, refused, got, Reader, and_then, return, ensure, reader_at, bad_field}
use Rattle.page.specs.Number.{read_number}
use Rattle.page.specs.Text.{Text, read_any_text}
use Rattle.page.specs.Listed.{before, listed, AllRead}
use Rattle.records.specs.Kind.{Kind, kind_number}
use Rattle.records.specs.Field.{read_flag, read_kind}
use Rattle.records.specs.Matcher.{MatchOp, equal, not_equal, re, not_re, plain, pattern, matcher_forms, read_matcher}
use Rattle.record_lines.specs.Numbers.{read_label_numbers, read_pattern_flag_numbers, read_matcher_texts, read_matcher_numbers, read_kind_numbers}

-- the bytes that are left, without the value
abbrev rest : {A : Type 0} → Read A → Read (Unit {0})
rest (refused f) = refused f
rest (got a t) = got tt t

module _ {A B C : Type 0} where
  rest_then : (m : Read A) (f : A → Reader B) (g : A → Reader C)
      → ((a : A) (t : List ℕ) → rest (f a t) ≡ rest (g a t)) → rest (and_then m f) ≡ rest (and_then m g)
  rest_then (refused x) f g h = refl
  rest_then (got a t) f g h = h a t

-- ## Labels

module _ {A B : Type 0} (page : List ℕ) (f : List ℕ → Reader A) (g : Text → Reader B)
    (h : (n : List ℕ) (t : Text) (u : List ℕ) → rest (f n u) ≡ rest (g t u)) where
  label-then : (s : List ℕ) → rest (and_then (read_label_numbers page s) f) ≡ rest (and_then (read_any_text s) g)
  unfolding read_label_numbers
  label-then s = by (read_any_text s)
    where
      by : (m : Read Text) → rest (and_then (and_then m (λ t u. got ((length page - length u - length t) ∷ length t ∷ []) u)) f) ≡ rest (and_then m g)
      by (refused x) = refl
      by (got t u) = h ((length page - length u - length t) ∷ length t ∷ []) t u

label-rest : (page s : List ℕ) → rest (read_label_numbers page s) ≡ rest (read_any_text s)
unfolding read_label_numbers
label-rest page s = by (read_any_text s)
  where
    by : (m : Read Text) → rest (and_then m (λ t u. got ((length page - length u - length t) ∷ length t ∷ []) u)) ≡ rest m
    by (refused x) = refl
    by (got t u) = refl

-- ## Matchers

module _ (page : List ℕ) where
  plain-rest : (op : ℕ) (o : MatchOp) (s : List ℕ) → op < 2 → rest (read_matcher_texts page op s) ≡ rest (plain o s)
  unfolding read_matcher_texts read_pattern_flag_numbers
  plain-rest op o s low = label-then page _ _ (λ n t u. label-then page _ _ (λ m v w. rw (lt-ltb op 2 low)) u) s

  flag-rest : {A B : Type 0} (f : Bool → A) (g : Bool → List ℕ) (h : List ℕ → B) (s : List ℕ)
      → rest (and_then (and_then (read_flag s) (λ b. return (g b))) (λ n. return (h n))) ≡ rest (and_then (read_flag s) (λ b. return (f b)))
  flag-rest f g h s = by (read_flag s)
    where
      by : (m : Read Bool) → rest (and_then (and_then m (λ b. return (g b))) (λ n. return (h n))) ≡ rest (and_then m (λ b. return (f b)))
      by (refused x) = refl
      by (got b t) = refl

  pattern-rest : (op : ℕ) (o : Bool → MatchOp) (s : List ℕ) → 2 ≤ op → rest (read_matcher_texts page op s) ≡ rest (pattern o s)
  unfolding read_matcher_texts read_pattern_flag_numbers
  pattern-rest op o s high = label-then page _ _ (λ n t u. label-then page _ _ (λ m v w. rw (le-ltb op 2 high) (flag-rest _ _ _ w)) u) s

  operator-rest : (op : ℕ) (s : List ℕ) → rest (and_then (ensure (leb op 3) bad_field op s) (read_matcher_texts page)) ≡ rest (reader_at matcher_forms op s)
  operator-rest zero s = plain-rest 0 equal s (omega arith)
  operator-rest (suc zero) s = plain-rest 1 not_equal s (omega arith)
  operator-rest (suc (suc zero)) s = pattern-rest 2 re s (omega arith)
  operator-rest (suc (suc (suc zero))) s = pattern-rest 3 not_re s (omega arith)
  operator-rest (suc (suc (suc (suc n)))) s = rw (lt-leb (suc (suc (suc (suc n)))) 3 (omega arith))

  matcher-rest : (s : List ℕ) → rest (read_matcher_numbers page s) ≡ rest (read_matcher s)
  unfolding read_matcher_numbers
  matcher-rest s = rest_then (read_number s) _ _ operator-rest

-- ## Kinds

kind-rest : (s : List ℕ) → rest (read_kind_numbers s) ≡ rest (read_kind s)
unfolding read_kind_numbers
kind-rest s = by (read_kind s)
  where
    by : (m : Read Kind) → rest (and_then m (λ k. return (kind_number k ∷ []))) ≡ rest m
    by (refused x) = refl
    by (got k t) = refl

-- ## Lists

module _ {A B : Type 0} (r : Reader A) (q : Reader B) where
  count_next : (n : ℕ) → ((t : List ℕ) → length (listed r n t) ≡ length (listed q n t)) → (a : Read A) (b : Read B) → rest a ≡ rest b
      → length (before a (λ t. listed r n t)) ≡ length (before b (λ t. listed q n t))
  count_next n ih (refused x) (refused y) e = refl
  count_next n ih (refused x) (got b u) e = let z : ◌≡◌ {A = ℕ} 0 1 = cc in absurd (omega arith)
  count_next n ih (got a t) (refused y) e = let z : ◌≡◌ {A = ℕ} 0 1 = cc in absurd (omega arith)
  count_next n ih (got a t) (got b u) e = let left : t ≡ u = cc in rw left (ap suc (ih u))

  count_same : ((s : List ℕ) → rest (r s) ≡ rest (q s)) → (n : ℕ) (s : List ℕ) → length (listed r n s) ≡ length (listed q n s)
  unfolding listed
  count_same same zero s = refl
  count_same same (suc n) s = count_next n (count_same same n) (r s) (q s) (same s)

  -- readers that leave the same bytes read equally many values
  all_shown : ((s : List ℕ) → rest (r s) ≡ rest (q s)) → (n : ℕ) (s : List ℕ) → AllRead q n s → AllRead r n s
  all_shown same n s h = count_same same n s ∙ h

pub labels-shown : (page : List ℕ) (n : ℕ) (s : List ℕ) → AllRead read_any_text n s → AllRead (read_label_numbers page) n s
labels-shown page = all_shown (read_label_numbers page) read_any_text (label-rest page)

pub matchers-shown : (page : List ℕ) (n : ℕ) (s : List ℕ) → AllRead read_matcher n s → AllRead (read_matcher_numbers page) n s
matchers-shown page = all_shown (read_matcher_numbers page) read_matcher (matcher-rest page)

pub kinds-shown : (n : ℕ) (s : List ℕ) → AllRead read_kind n s → AllRead read_kind_numbers n s
kinds-shown = all_shown read_kind_numbers read_kind kind-rest
