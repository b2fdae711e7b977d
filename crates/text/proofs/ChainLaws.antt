-- Ranges, @ and offsets, going down: the tree that such a record ends is the one below with the record's part settled
-- on it. And a tree that is no bare number stays none.
use Prim.Native.Nat.{ℕ, suc, ◌-◌}
use mathlib.Core.Path.{◌≡◌, refl, ap, ◌∙◌}
use mathlib.Core.List.{List}
use mathlib.Core.Option.{Option, none, some}
use Rattle.records.specs.Time.{Times, AtModifier, Offset}
use Rattle.records.specs.Record.{Wrapper, range, at, offset, wrapper}
use Rattle.ast.specs.Refusal.{ok}
use Rattle.ast.specs.Expr.{Expr, Aggregate, AggregateParam, Unary, Binary, Paren, Subquery, NumberLiteral}
use Rattle.ast.specs.Expr.{StringLiteral, VectorSelector, MatrixSelector, Call, times_of, with_times}
use Rattle.ast.specs.Construct.{new_matrix_selector, at_expr, offset_expr, no_times}
use Rattle.ast.specs.CheckPage.{wrap}
use Rattle.ast.specs.Tables.{tree_at, Tables}
use Rattle.ast.proofs.ConstructLaws.{new_matrix_selector-by, at_expr-by, offset_expr-by, times_of-by}
use Rattle.text.specs.Chain.{overlaid, with_at, with_offset, ranged, settled}
use Rattle.text.specs.LaidOut.{Reads}
use Rattle.text.proofs.TreeLaws.{checked_expr}
use Rattle.text.proofs.EntryLaws.{tree_of, wrapped}

overlaid-nothing : (t : Times) → overlaid t no_times ≡ t
overlaid-nothing t = by t.at t.offset
  where
    by : (a : Option AtModifier) (o : Option Offset) → overlaid (record { at = a; offset = o }) no_times ≡ record { at = a; offset = o }
    by none none = refl
    by none (some o) = refl
    by (some a) none = refl
    by (some a) (some o) = refl

-- ## The constructors

pub range-settled : (r : ℕ) (n : Option ℕ) (u : Times) (e node : Expr) → new_matrix_selector r e ≡ ok node → settled n u (checked_expr node) ≡ settled (some r) u e
unfolding settled
range-settled r n u e node =
    new_matrix_selector-by (λ made. made ≡ ok node → settled n u (checked_expr node) ≡ settled (some r) u e) r e (λ h. cc) (λ h. cc) (λ h. cc)
    (λ s t q h. let same : node ≡ MatrixSelector s t r = cc in rw (same, q))

-- other @ and offset on a node, and some settled on it: those that there are in the end
settled-times : (n : Option ℕ) (u v w : Times) (e : Expr) (t : Times) → times_of e ≡ some t → overlaid v u ≡ overlaid t w
    → settled n u (checked_expr (with_times v e)) ≡ settled n w e
unfolding settled
settled-times n u v w =
    times_of-by (λ e t. overlaid v u ≡ overlaid t w → settled n u (checked_expr (with_times v e)) ≡ settled n w e)
    (λ e r s t same. ap (Subquery e r s) same)
    (λ s t same. ap (ranged n s) same)
    (λ s t r same. ap (λ (x : Times). MatrixSelector s x r) same)

pub at-settled : (a : AtModifier) (n : Option ℕ) (u : Times) (e node : Expr) → at_expr a e ≡ ok node → settled n u (checked_expr node) ≡ settled n (with_at a u) e
at-settled a n u e node =
    at_expr-by (λ made. made ≡ ok node → settled n u (checked_expr node) ≡ settled n (with_at a u) e) a e (λ h. cc) (λ h. cc)
    (λ t q free h.
    let is : node ≡ with_times (with_at a t) e = cc in
    rw is (settled-times n u (with_at a t) (with_at a u) e t q (rw free)))

pub offset-settled : (o : Offset) (n : Option ℕ) (u : Times) (e node : Expr) → offset_expr o e ≡ ok node
    → settled n u (checked_expr node) ≡ settled n (with_offset o u) e
offset-settled o n u e node =
    offset_expr-by (λ made. made ≡ ok node → settled n u (checked_expr node) ≡ settled n (with_offset o u) e) o e (λ h. cc) (λ h. cc)
    (λ t q free h.
    let is : node ≡ with_times (with_offset o t) e = cc in
    rw is (settled-times n u (with_offset o t) (with_offset o u) e t q (rw free)))

-- nothing settled
pub settled-nothing : (e : Expr) → settled none no_times e ≡ e
unfolding settled
settled-nothing (Aggregate c m e) = refl
settled-nothing (AggregateParam c m p e) = refl
settled-nothing (Unary e) = refl
settled-nothing (Binary c m x y) = refl
settled-nothing (Paren e) = refl
settled-nothing (Subquery e q s t) = ap (Subquery e q s) (overlaid-nothing t)
settled-nothing (NumberLiteral l) = refl
settled-nothing (StringLiteral x) = refl
settled-nothing (VectorSelector s t) = ap (VectorSelector s) (overlaid-nothing t)
settled-nothing (MatrixSelector s t q) = ap (λ (x : Times). MatrixSelector s x q) (overlaid-nothing t)
settled-nothing (Call f es) = refl

-- ## Record j, where the tables say

module _ {page starts firsts : List ℕ} {j : ℕ} (t : Tables page starts firsts (suc j)) (n : Option ℕ) (u : Times) where
  step : (w : Wrapper) (n' : Option ℕ) (u' : Times) → Reads page starts j (wrapper w)
      → ((e node : Expr) → wrap w e ≡ ok node → settled n u (checked_expr node) ≡ settled n' u' e)
      → settled n u (tree_at page j) ≡ settled n' u' (tree_at page (j - 1))
  step w n' u' r law =
      let p = (wrapped t w r).pushed in
      ap (settled n u) (tree_of page j (record { node = p.node; makes = refl; passes = p.passes; stack = p.stack })) ∙ law _ p.node p.makes

  pub chain-range : (r : ℕ) → Reads page starts j (wrapper (range r)) → settled n u (tree_at page j) ≡ settled (some r) u (tree_at page (j - 1))
  chain-range r is = step (range r) (some r) u is (range-settled r n u)

  pub chain-at : (a : AtModifier) → Reads page starts j (wrapper (at a)) → settled n u (tree_at page j) ≡ settled n (with_at a u) (tree_at page (j - 1))
  chain-at a is = step (at a) n (with_at a u) is (at-settled a n u)

  pub chain-offset : (o : Offset) → Reads page starts j (wrapper (offset o)) → settled n u (tree_at page j) ≡ settled n (with_offset o u) (tree_at page (j - 1))
  chain-offset o is = step (offset o) n (with_offset o u) is (offset-settled o n u)
