-- Records without operands and on one operand: what the working-out sees of each is what its tree says (`TreeClaim`).
-- One case for each tree that the operand can be; @ and offset lean on the check that a subquery on the stack has
-- passed (`is_formed`).
use Prim.Native.Nat.{ℕ}
use mathlib.Core.Path.{◌≡◌, refl}
use mathlib.Core.Bool.{Bool, true, false, ◌&&◌, not}
use mathlib.Core.List.{[], ◌∷◌}
use mathlib.Core.Option.{none, some}
use lib.Dec.{T}
use Rattle.page.specs.Bytes.{all, is_empty, any}
use Rattle.records.specs.Kind.{vector, matrix, is_vector}
use Rattle.records.specs.Matcher.{Selector}
use Rattle.records.specs.Time.{Times, AtModifier, Offset}
use Rattle.ast.specs.Refusal.{unless, when, or_else, first_fault, and_then}
use Rattle.records.specs.Record.{range, at, offset, unary, wrapper}
use Rattle.ast.specs.Expr.{Expr, Aggregate, AggregateParam, Unary, Binary, Paren, Subquery, NumberLiteral}
use Rattle.ast.specs.Expr.{StringLiteral, VectorSelector, MatrixSelector, Call, value_type, scalar_value, times_of}
use Rattle.ast.specs.Expr.{with_times}
use Rattle.records.specs.Matcher.{is_name_matcher, matches_empty, has_wrong_flag}
use Rattle.ast.specs.CheckAst.{check_ast, unary_rows, selector_rows}
use Rattle.ast.proofs.ConstructLaws.{new_matrix_selector-by, at_expr-by, offset_expr-by, times_of-by}
use Rattle.working_out.specs.Asked.{is_numeric}
use Rattle.working_out.specs.WorkingOut.{wrapper_number}
use Rattle.agreement.proofs.Bools.{not-not}
use Rattle.agreement.proofs.Faults.{FaultClaim, row, fine}
use Rattle.agreement.proofs.TreeOf.{tree_of, is_formed, TreeClaim, from_fault}

-- ## Selectors and ranges

selector_claim : (s : Selector) → FaultClaim true true true (first_fault (selector_rows s))
selector_claim s =
    row (any has_wrong_flag s.matchers) 41 _ (λ w k. absurd k) λ w.
    row (not (is_empty s.name) && any is_name_matcher s.matchers) 33 _ (λ h k. absurd k) λ h.
    row (is_empty s.name && all matches_empty s.matchers) 34 none (λ h' k. absurd k) λ h'.
    fine (λ o. (tt, tt))

pub selector_tree : (s : Selector) (t : Times) → TreeClaim true true true vector none (check_ast (VectorSelector s t))
unfolding check_ast
selector_tree s t = from_fault (first_fault (selector_rows s)) true true true (VectorSelector s t) (selector_claim s) tt

pub range_one : (n : ℕ) (e : Expr) → TreeClaim true true true matrix none (tree_of (wrapper (range n)) (e ∷ []))
unfolding check_ast
range_one n e =
    new_matrix_selector-by (λ made. TreeClaim true true true matrix none (and_then made check_ast)) n e (λ k. absurd k) (λ k. absurd k) (λ k. absurd k)
    (λ s t q. ((λ o. (tt, tt)), refl, refl, tt))

-- ## Subqueries

pub subquery_tree : (b : Bool) (e : Expr) → matrix ≡ value_type e → none ≡ scalar_value e → (T b → T (is_formed e))
    → TreeClaim true true b matrix none (unless (or_else (when (not b) 32) none) e)
subquery_tree true e q r g = ((λ o. (tt, tt)), q, r, g tt)
subquery_tree false e q r g = λ k. (tt, tt)

-- @ or offset on a subquery that was checked
formed_node : (b : Bool) (e : Expr) → T b → matrix ≡ value_type e → none ≡ scalar_value e → T (is_formed e)
    → TreeClaim true true true matrix none (unless (or_else (when (not b) 32) none) e)
formed_node true e h q r g = ((λ o. (tt, tt)), q, r, g)
formed_node false e h q r g = absurd h

-- ## @ and offset

-- the operands that have @ and offset, with others
times_tree : (u : Times) (e : Expr) (t : Times) → times_of e ≡ some t → T (is_formed e) → TreeClaim true true true (value_type e) none (check_ast (with_times u e))
unfolding check_ast
times_tree u =
    times_of-by (λ e t. T (is_formed e) → TreeClaim true true true (value_type e) none (check_ast (with_times u e)))
    (λ e r s t h. formed_node (is_vector (value_type e)) (Subquery e r s u) h refl refl h)
    (λ s t h. selector_tree s u)
    (λ s t r h. ((λ o. (tt, tt)), refl, refl, tt))

pub at_one : (a : AtModifier) (e : Expr) → T (is_formed e) → TreeClaim true true true (value_type e) none (tree_of (wrapper (at a)) (e ∷ []))
at_one a e h =
    at_expr-by (λ made. TreeClaim true true true (value_type e) none (and_then made check_ast)) a e (λ k. absurd k) (λ k. absurd k)
    (λ t q free. times_tree _ e t q h)

pub offset_one : (o : Offset) (e : Expr) → T (is_formed e) → TreeClaim true true true (value_type e) none (tree_of (wrapper (offset o)) (e ∷ []))
offset_one o e h =
    offset_expr-by (λ made. TreeClaim true true true (value_type e) none (and_then made check_ast)) o e (λ k. absurd k) (λ k. absurd k)
    (λ t q free. times_tree _ e t q h)

-- ## Unary

unary_tree : (e : Expr) → TreeClaim true true (is_numeric (value_type e)) (value_type e) none (check_ast (Unary e))
unfolding check_ast
unary_tree e =
    from_fault (first_fault (unary_rows (value_type e))) true true (is_numeric (value_type e)) (Unary e)
    (row (not (is_numeric (value_type e))) 31 none (λ h k. (tt, h)) λ h. fine (λ o. (tt, not-not (is_numeric (value_type e)) h)))
    tt

pub unary_one : (e : Expr)
    → TreeClaim true true (is_numeric (value_type e)) (value_type e) (wrapper_number unary (scalar_value e))
    (tree_of (wrapper unary) (e ∷ []))
unfolding check_ast
unary_one (Aggregate c m e) = unary_tree (Aggregate c m e)
unary_one (AggregateParam c m p e) = unary_tree (AggregateParam c m p e)
unary_one (Unary e) = unary_tree (Unary e)
unary_one (Binary c m l r) = unary_tree (Binary c m l r)
unary_one (Paren e) = unary_tree (Paren e)
unary_one (Subquery e r s t) = unary_tree (Subquery e r s t)
unary_one (NumberLiteral l) = ((λ o. (tt, tt)), refl, refl, tt)
unary_one (StringLiteral t) = λ k. (tt, tt)
unary_one (VectorSelector s t) = unary_tree (VectorSelector s t)
unary_one (MatrixSelector s t r) = λ k. (tt, tt)
unary_one (Call f es) = unary_tree (Call f es)
