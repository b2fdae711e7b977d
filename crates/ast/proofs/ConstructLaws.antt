-- A claim on what the constructors of range, @ and offset make: it holds where it holds of each of their refusals and
-- of the tree that they make. And a claim on the trees that have @ and offset, one case for each. Assumes nothing.
use Prim.Native.Nat.{ℕ}
use mathlib.Core.Path.{◌≡◌, refl, subst}
use mathlib.Core.Option.{Option, none, some, none-ne-some, some-injective}
use Rattle.records.specs.Matcher.{Selector}
use Rattle.records.specs.Time.{Times, AtModifier, Offset}
use Rattle.ast.specs.Refusal.{Result, refused, ok}
use Rattle.ast.specs.Expr.{Expr, Aggregate, AggregateParam, Unary, Binary, Paren, Subquery, NumberLiteral}
use Rattle.ast.specs.Expr.{StringLiteral, VectorSelector, MatrixSelector, Call, times_of, with_times}
use Rattle.ast.specs.Construct.{range_after, new_matrix_selector, set_at, at_with, at_expr, set_offset, offset_with, offset_expr}

module _ {ℓ} (P : Result Expr → Type ℓ) where
  pub new_matrix_selector-by : (n : ℕ) (e : Expr) → P (refused 7) → P (refused 8) → P (refused 9)
      → ((s : Selector) (t : Times) → e ≡ VectorSelector s t → P (ok (MatrixSelector s t n))) → P (new_matrix_selector n e)
  new_matrix_selector-by n (Aggregate c m e) seven eight nine made = nine
  new_matrix_selector-by n (AggregateParam c m p e) seven eight nine made = nine
  new_matrix_selector-by n (Unary e) seven eight nine made = nine
  new_matrix_selector-by n (Binary c m l r) seven eight nine made = nine
  new_matrix_selector-by n (Paren e) seven eight nine made = nine
  new_matrix_selector-by n (Subquery e r s t) seven eight nine made = nine
  new_matrix_selector-by n (NumberLiteral l) seven eight nine made = nine
  new_matrix_selector-by n (StringLiteral t) seven eight nine made = nine
  new_matrix_selector-by n (VectorSelector s t) seven eight nine made = by t.offset t.at
    where
      by : (o : Option Offset) (a : Option AtModifier) → P (range_after o a (MatrixSelector s t n))
      by none none = made s t refl
      by none (some a) = eight
      by (some o) a = seven
  new_matrix_selector-by n (MatrixSelector s t r) seven eight nine made = nine
  new_matrix_selector-by n (Call f es) seven eight nine made = nine

  pub at_expr-by : (a : AtModifier) (e : Expr) → P (refused 10) → P (refused 11)
      → ((t : Times) → times_of e ≡ some t → t.at ≡ none → P (ok (with_times (record { at = some a; offset = t.offset }) e))) → P (at_expr a e)
  at_expr-by a e ten eleven made = by (times_of e) refl
    where
      set : (t : Times) → times_of e ≡ some t → (x : Option AtModifier) → t.at ≡ x → P (set_at a x t e)
      set t q none free = made t q free
      set t q (some b) free = ten

      by : (t : Option Times) → times_of e ≡ t → P (at_with a t e)
      by none q = eleven
      by (some t) q = set t q t.at refl

  pub offset_expr-by : (o : Offset) (e : Expr) → P (refused 12) → P (refused 13)
      → ((t : Times) → times_of e ≡ some t → t.offset ≡ none → P (ok (with_times (record { at = t.at; offset = some o }) e))) → P (offset_expr o e)
  offset_expr-by o e twelve thirteen made = by (times_of e) refl
    where
      set : (t : Times) → times_of e ≡ some t → (x : Option Offset) → t.offset ≡ x → P (set_offset o x t e)
      set t q none free = made t q free
      set t q (some b) free = twelve

      by : (t : Option Times) → times_of e ≡ t → P (offset_with o t e)
      by none q = thirteen
      by (some t) q = set t q t.offset refl

module _ {ℓ} (P : Expr → Times → Type ℓ)
    (subquery : (e : Expr) (r : ℕ) (s : Option ℕ) (t : Times) → P (Subquery e r s t) t)
    (vector : (s : Selector) (t : Times) → P (VectorSelector s t) t)
    (matrix : (s : Selector) (t : Times) (r : ℕ) → P (MatrixSelector s t r) t)
  where
    pub times_of-by : (e : Expr) (t : Times) → times_of e ≡ some t → P e t
    times_of-by (Aggregate c m e) t q = absurd (none-ne-some t q)
    times_of-by (AggregateParam c m p e) t q = absurd (none-ne-some t q)
    times_of-by (Unary e) t q = absurd (none-ne-some t q)
    times_of-by (Binary c m l r) t q = absurd (none-ne-some t q)
    times_of-by (Paren e) t q = absurd (none-ne-some t q)
    times_of-by (Subquery e r s v) t q = subst (P (Subquery e r s v)) (some-injective v t q) (subquery e r s v)
    times_of-by (NumberLiteral l) t q = absurd (none-ne-some t q)
    times_of-by (StringLiteral x) t q = absurd (none-ne-some t q)
    times_of-by (VectorSelector s v) t q = subst (P (VectorSelector s v)) (some-injective v t q) (vector s v)
    times_of-by (MatrixSelector s v r) t q = subst (P (MatrixSelector s v r)) (some-injective v t q) (matrix s v r)
    times_of-by (Call f es) t q = absurd (none-ne-some t q)
