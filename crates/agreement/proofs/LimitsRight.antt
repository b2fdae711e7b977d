-- Demand 3 of the added check (document 02, No. 8): its records make document 01's trees, with the row 42 behind the
-- rows of an aggregate (`limited_tree`). So it is an instance of the induction (`limits_right_with`). Assumes nothing.
use Prim.Native.Nat.{ℕ}
use mathlib.Core.Path.{◌≡◌, refl, sym, ap, ◌∙◌, subst}
use mathlib.Core.Bool.{Bool, true, false, ◌&&◌, not}
use mathlib.Core.List.{List, [], ◌∷◌, ◌++◌, map}
use mathlib.Core.Option.{Option, none, some}
use lib.ListN.{length, drop}
use lib.Dec.{T, leb}
use Rattle.page.specs.Bytes.{pick, all}
use Rattle.records.specs.Kind.{Kind, is_scalar}
use Rattle.records.specs.Code.{is_limit}
use Rattle.records.specs.Literal.{Literal}
use Rattle.records.specs.Modifier.{LabelModifier}
use Rattle.records.specs.Record.{Record, leaf, wrapper, binary, aggregate, call, operands, read_page}
use Rattle.records.specs.Stack.{operands_of}
use Rattle.ast.specs.Refusal.{Row, when, or_else, first_fault, Result, refused, ok, unless, and_then}
use Rattle.ast.specs.Expr.{Expr, Aggregate, AggregateParam, value_type, scalar_value}
use Rattle.ast.specs.CheckAst.{check_ast, aggregate_rows}
use Rattle.ast.specs.Rules.{apply_by, check_page_by}
use Rattle.ast.specs.Limits.{parameter_fault, limit_fault, with_limits, check_operators}
use Rattle.ast.proofs.StackLaws.{map-operands_of}
use Rattle.working_out.specs.Asked.{first_allowed}
use Rattle.working_out.specs.WorkingOut.{is_set_aside, is_set_aside_literal}
use Rattle.working_out.specs.Demand3.{documented_refusals, KindsRightWith}
use Rattle.agreement.proofs.Faults.{FaultClaim, limit_row, aggregate_claim, aggregate_param_claim}
use Rattle.agreement.proofs.TreeOf.{tree_of, pushed, on_operands, apply-operands, is_formed, TreeClaim, RecordClaimFor, from_fault}
use Rattle.agreement.proofs.Trees.{RecordClaim, widen, new_aggregate-by, record-claim}
use Rattle.agreement.proofs.KindsRight.{Agreeing, says, unread-documented}

-- ## The rule as a row behind the others

-- of the kinds of the operands
abbrev limit_rows : Record → List Kind → List Row
limit_rows (leaf l) ks = []
limit_rows (wrapper w) ks = []
limit_rows (binary c m) ks = []
limit_rows (aggregate c m n) ks = when (is_limit c && not (first_allowed is_scalar ks)) 42 ∷ []
limit_rows (call f n) ks = []

parameter-row : (b : Bool) (ks : List Kind) → pick b (parameter_fault ks) none ≡ or_else (when (b && not (first_allowed is_scalar ks)) 42) none
parameter-row false ks = refl
parameter-row true [] = refl
parameter-row true (k ∷ ks) = by (is_scalar k)
  where
    by : (b : Bool) → pick {A = Option ℕ} b none (some 42) ≡ or_else (when (not b) 42) none
    by true = refl
    by false = refl

limit-row : (r : Record) (ks : List Kind) → limit_fault r ks ≡ first_fault (limit_rows r (operands_of (operands r) ks))
limit-row (leaf l) ks = refl
limit-row (wrapper w) ks = refl
limit-row (binary c m) ks = refl
limit-row (aggregate c m n) ks = parameter-row (is_limit c) (operands_of n ks)
limit-row (call f n) ks = refl

abbrev limited_tree : Record → List Expr → Result Expr
limited_tree r es = and_then (tree_of r es) (λ e. unless (first_fault (limit_rows r (map value_type es))) e)

-- a fault asked of the stack is asked of the tree on its top
asked-of-tree : (enough : Bool) (made : Result Expr) (f : Option ℕ) (below : List Expr)
    → and_then {B = List Expr} (pick enough (pushed below made) (refused 2)) (λ s. unless f s)
    ≡ pick enough (pushed below (and_then made (λ e. unless f e))) (refused 2)
asked-of-tree false made f below = refl
asked-of-tree true (refused n) f below = refl
asked-of-tree true (ok e) none below = refl
asked-of-tree true (ok e) (some n) below = refl

limited-operands : (r : Record) (stack : List Expr) → apply_by with_limits r stack ≡ on_operands limited_tree r stack
limited-operands r stack =
    ap (λ (x : Result (List Expr)). and_then {B = List Expr} x (λ s. unless (limit_fault r (map value_type stack)) s)) (apply-operands r stack)
    ∙ ap (λ (f : Option ℕ). and_then {B = List Expr} (on_operands tree_of r stack) (λ s. unless f s)) of-operands
    ∙ asked-of-tree (leb (operands r) (length stack)) (tree_of r (operands_of (operands r) stack)) fault (drop (operands r) stack)
  where
    fault : Option ℕ
    fault = first_fault (limit_rows r (map value_type (operands_of (operands r) stack)))

    of-operands : limit_fault r (map value_type stack) ≡ fault
    of-operands =
        limit-row r (map value_type stack)
        ∙ ap (λ (ks : List Kind). first_fault (limit_rows r ks)) (sym (map-operands_of value_type (operands r) stack))

-- ## What its trees say

-- rows asked of a tree that passed others
from_rows : (rows more : List Row) (o p a : Bool) (e : Expr) → FaultClaim o p a (first_fault (rows ++ more)) → T (is_formed e)
    → TreeClaim o p a (value_type e) (scalar_value e) (and_then (unless (first_fault rows) e) (λ t. unless (first_fault more) t))
from_rows [] more o p a e h g = from_fault (first_fault more) o p a e h g
from_rows (when true n ∷ rows) more o p a e h g = h.claim
from_rows (when false n ∷ rows) more o p a e h g = from_rows rows more o p a e h g

limited_aggregate : (c : ℕ) (m : Option LabelModifier) (es : List Expr)
    → RecordClaimFor is_set_aside_literal documented_refusals limited_tree (aggregate c m (length es)) es
unfolding check_ast
limited_aggregate c m =
    new_aggregate-by (λ es made.
    RecordClaimFor is_set_aside_literal documented_refusals
    (λ r es. and_then (and_then made check_ast) (λ e. unless (first_fault (limit_rows r (map value_type es))) e))
    (aggregate c m (length es)) es) c m
    (λ es k. absurd k) (λ es k. absurd k)
    (λ e none-asked.
    from_rows (aggregate_rows c none (value_type e)) (limit_row c (value_type e) ∷ []) _ _ _ (Aggregate c m e)
    (widen (aggregate_claim c none-asked (value_type e))) tt)
    (λ p e.
    from_rows (aggregate_rows c (some (value_type p)) (value_type e)) (limit_row c (value_type p) ∷ []) _ _ _ (AggregateParam c m p e)
    (widen (aggregate_param_claim c (value_type p) (value_type e))) tt)

-- a record without such a row
passed : (o p a : Bool) (k : Kind) (l : Option Literal) (x : Result Expr) → TreeClaim o p a k l x → TreeClaim o p a k l (and_then x (λ e. ok e))
passed o p a k l (refused n) h = h
passed o p a k l (ok e) h = h

unasked : (r : Record) (es : List Expr) → RecordClaim r es
    → RecordClaimFor is_set_aside documented_refusals (λ r es. and_then (tree_of r es) (λ e. ok e)) r es
unasked r es h = passed _ _ _ _ _ (tree_of r es) h

limited-claim : (r : Record) (es : List Expr) → length es ≡ operands r → T (all is_formed es)
    → RecordClaimFor is_set_aside_literal documented_refusals limited_tree r es
limited-claim (leaf l) es n h = unasked (leaf l) es (record-claim (leaf l) es n h)
limited-claim (wrapper w) es n h = unasked (wrapper w) es (record-claim (wrapper w) es n h)
limited-claim (binary c m) es n h = unasked (binary c m) es (record-claim (binary c m) es n h)
limited-claim (aggregate c m i) es n h =
    subst (λ (j : ℕ). RecordClaimFor is_set_aside_literal documented_refusals limited_tree (aggregate c m j) es) n (limited_aggregate c m es)
limited-claim (call f i) es n h = unasked (call f i) es (record-claim (call f i) es n h)

-- ## Demand 3

operators-agree : Agreeing is_set_aside_literal documented_refusals (apply_by with_limits)
operators-agree =
    record {
      unread = unread-documented;
      short = λ k. k;
      tree = limited_tree;
      takes = limited-operands;
      claims = limited-claim;
    }

-- for every byte string, every type of contents and every contents
pub limits_right_with : {C : Type 0} (contents : ℕ → C) (page : List ℕ)
    → KindsRightWith is_set_aside_literal documented_refusals contents page (check_operators page)
unfolding check_page_by
limits_right_with contents page = says operators-agree contents (read_page page)
