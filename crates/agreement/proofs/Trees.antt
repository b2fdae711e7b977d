-- Every record: its tree against what the working-out sees of it. Binary, aggregate and call records by the claims of
-- `Faults`, the others by `WrapperTrees`.
use Prim.Native.Nat.{ℕ}
use mathlib.Core.Path.{◌≡◌, refl, sym, ap, subst}
use mathlib.Core.Bool.{Bool, true, false, ◌&&◌, ◌||◌, not}
use mathlib.Core.List.{List, [], ◌∷◌, map}
use mathlib.Core.Option.{Option, none, some}
use lib.ListN.{length, get_or, length-map}
use lib.Dec.{T, eqb}
use Rattle.page.specs.Bytes.{all, is_empty}
use Rattle.page.proofs.NumberLaws.{left-of}
use Rattle.records.specs.Kind.{Kind, is_vector, is_scalar}
use Rattle.records.specs.Code.{is_limit, has_parameter}
use Rattle.records.specs.Literal.{Literal}
use Rattle.records.specs.Modifier.{LabelModifier, BinModifier}
use Rattle.records.specs.Signature.{Function}
use Rattle.ast.specs.Refusal.{first_fault, Result, refused, ok, and_then}
use Rattle.records.specs.Record.{Leaf, number, string as string_leaf, selector, Wrapper, range, subquery, at, offset}
use Rattle.records.specs.Record.{unary, paren, Record, leaf, wrapper, binary, aggregate, call, operands}
use Rattle.ast.specs.Expr.{Expr, Aggregate, AggregateParam, Binary, Subquery, Call, value_type, scalar_value, args_of}
use Rattle.ast.specs.Construct.{new_aggregate_of, new_aggregate, no_times}
use Rattle.ast.specs.CheckAst.{check_ast, checked_modifier, kinds_of, first_literal, aggregate_rows, call_rows}
use Rattle.records.specs.LiteralException.{is_exempt}
use Rattle.working_out.specs.Asked.{are_declared}
use Rattle.working_out.specs.WorkingOut.{is_set_aside}
use Rattle.working_out.specs.Demand3.{documented_refusals}
use Rattle.agreement.proofs.Faults.{FaultClaim, without-last, binary_claim, aggregate_claim, aggregate_param_claim, call_claim}
use Rattle.agreement.proofs.TreeOf.{tree_of, is_formed, RecordClaimFor, from_fault}
use Rattle.agreement.proofs.WrapperTrees.{selector_tree, range_one, subquery_tree, at_one, offset_one, unary_one}

-- ## Binary expressions, aggregates, calls

abbrev pub RecordClaim : Record → List Expr → Type 0
RecordClaim = RecordClaimFor is_set_aside documented_refusals tree_of

binary_tree : (c : ℕ) (m : Option BinModifier) (l r : Expr) → RecordClaim (binary c m) (l ∷ r ∷ [])
unfolding check_ast
binary_tree c m l r = from_fault _ _ _ _ (Binary c (checked_modifier c m) l r) (binary_claim c m (value_type l) (value_type r)) tt

-- an aggregate of at least one argument is in place by its code
pub widen : {o p a : Bool} {f : Option ℕ} → FaultClaim o p a f → FaultClaim o (p && true) a f
widen {o} {p = true} {a} {f} h = h
widen {o} {p = false} {a} {f = none} h = record { claim = h.claim }
widen {o} {p = false} {a} {f = some x} h = record { claim = h.claim }

-- by the count of arguments: refused, of one argument, or of a parameter and an argument
pub new_aggregate-by : (P : List Expr → Result Expr → Type 0) (c : ℕ) (m : Option LabelModifier)
    → ((es : List Expr) → P es (refused 14)) → ((es : List Expr) → P es (refused 15))
    → ((e : Expr) → T (not (has_parameter c)) → P (e ∷ []) (ok (Aggregate c m e)))
    → ((p e : Expr) → P (p ∷ e ∷ []) (ok (AggregateParam c m p e)))
    → (es : List Expr) → P es (new_aggregate c m es)
new_aggregate-by P c m no_arguments other-count alone behind es = by (has_parameter c) refl es
  where
    by : (has : Bool) → has_parameter c ≡ has → (es : List Expr) → P es (new_aggregate_of has c m es)
    by has q [] = no_arguments []
    by true q (p ∷ []) = other-count (p ∷ [])
    by true q (p ∷ e ∷ []) = behind p e
    by true q (p ∷ e ∷ x ∷ es) = other-count (p ∷ e ∷ x ∷ es)
    by false q (e ∷ []) = alone e (subst (λ (b : Bool). T (not b)) (sym q) tt)
    by false q (e ∷ x ∷ es) = other-count (e ∷ x ∷ es)

aggregate_tree : (c : ℕ) (m : Option LabelModifier) (es : List Expr) → RecordClaim (aggregate c m (length es)) es
unfolding check_ast
aggregate_tree c m =
    new_aggregate-by (λ es made. RecordClaimFor is_set_aside documented_refusals (λ r es. and_then made check_ast) (aggregate c m (length es)) es) c m
    (λ es k. absurd k) (λ es k. absurd k)
    (λ e none-asked.
    from_fault _ _ _ _ (Aggregate c m e)
    (widen (without-last (aggregate_rows c none (value_type e)) (is_limit c && not (is_scalar (value_type e))) 42
    (aggregate_claim c none-asked (value_type e)))) tt)
    (λ p e.
    from_fault _ _ _ _ (AggregateParam c m p e)
    (widen (without-last (aggregate_rows c (some (value_type p)) (value_type e)) (is_limit c && not (is_scalar (value_type p))) 42
    (aggregate_param_claim c (value_type p) (value_type e)))) tt)

kinds-args : (es : List Expr) → kinds_of (args_of es) ≡ map value_type es
kinds-args [] = refl
kinds-args (e ∷ es) = ap {B = List Kind} (λ ks. value_type e ∷ ks) (kinds-args es)

first-args : (es : List Expr) → first_literal (args_of es) ≡ get_or (map scalar_value es) 0 none
first-args [] = refl
first-args (e ∷ es) = refl

call_tree : (f : Function) (es : List Expr) → RecordClaim (call f (length es)) es
unfolding check_ast
call_tree f es =
    from_fault (first_fault (call_rows f (first_literal (args_of es)) (kinds_of (args_of es)))) _ _ _ (Call f (args_of es)) claimed tt
  where
    o : Bool
    o = not (is_exempt f.name (get_or (map scalar_value es) 0 none))

    counted : FaultClaim o (eqb (length es) 0 || not (is_empty f.arg_types))
        (are_declared f.arg_types 0 (map value_type es))
        (first_fault (call_rows f (get_or (map scalar_value es) 0 none) (map value_type es)))
    counted =
        subst (λ (n : ℕ). FaultClaim o (eqb n 0 || not (is_empty f.arg_types))
        (are_declared f.arg_types 0 (map value_type es))
        (first_fault (call_rows f (get_or (map scalar_value es) 0 none) (map value_type es))))
        (length-map es value_type) (call_claim f (get_or (map scalar_value es) 0 none) (map value_type es))

    claimed : FaultClaim o (eqb (length es) 0 || not (is_empty f.arg_types))
        (are_declared f.arg_types 0 (map value_type es))
        (first_fault (call_rows f (first_literal (args_of es)) (kinds_of (args_of es))))
    claimed =
        subst (λ (ks : List Kind). FaultClaim o (eqb (length es) 0 || not (is_empty f.arg_types))
        (are_declared f.arg_types 0 (map value_type es)) (first_fault (call_rows f (first_literal (args_of es)) ks)))
        (sym (kinds-args es))
        (subst (λ (l : Option Literal). FaultClaim o (eqb (length es) 0 || not (is_empty f.arg_types))
        (are_declared f.arg_types 0 (map value_type es)) (first_fault (call_rows f l (map value_type es))))
        (sym (first-args es))
        counted)

-- ## Every record

leaf_tree : (l : Leaf) → RecordClaim (leaf l) []
unfolding check_ast
leaf_tree (number l) = ((λ o. (tt, tt)), refl, refl, tt)
leaf_tree (string_leaf t) = ((λ o. (tt, tt)), refl, refl, tt)
leaf_tree (selector s) = selector_tree s no_times

wrapper_tree : (w : Wrapper) (e : Expr) → T (is_formed e) → RecordClaim (wrapper w) (e ∷ [])
unfolding check_ast
wrapper_tree (range m) e h = range_one m e
wrapper_tree (subquery r s) e h = subquery_tree (is_vector (value_type e)) (Subquery e r s no_times) refl refl (λ g. g)
wrapper_tree (at a) e h = at_one a e h
wrapper_tree (offset o) e h = offset_one o e h
wrapper_tree unary e h = unary_one e
wrapper_tree paren e h = ((λ o. (tt, tt)), refl, refl, tt)

pub record-claim : (r : Record) (es : List Expr) → length es ≡ operands r → T (all is_formed es) → RecordClaim r es
record-claim (leaf l) es n h = leaf_tree l
record-claim (wrapper w) [] n h = λ k. absurd k
record-claim (wrapper w) (e ∷ []) n h = wrapper_tree w e (left-of (is_formed e) true h)
record-claim (wrapper w) (e ∷ x ∷ es) n h = λ k. absurd k
record-claim (binary c m) [] n h = λ k. absurd k
record-claim (binary c m) (l ∷ []) n h = λ k. absurd k
record-claim (binary c m) (l ∷ r ∷ []) n h = binary_tree c m l r
record-claim (binary c m) (l ∷ r ∷ x ∷ es) n h = λ k. absurd k
record-claim (aggregate c m i) es n h = subst (λ (j : ℕ). RecordClaim (aggregate c m j) es) n (aggregate_tree c m es)
record-claim (call f i) es n h = subst (λ (j : ℕ). RecordClaim (call f j) es) n (call_tree f es)
