-- The tree of a record (constructor and `check_ast`) as a function of its operands, and what a tree says of the
-- working-out: where the record is not set aside it is in place and as asked, a refusal for kinds is in place and not
-- as asked (`ClaimFor`, `RecordClaimFor`).
use Prim.Native.Nat.{ℕ, suc}
use mathlib.Core.Path.{◌≡◌, refl, sym, ap}
use mathlib.Core.Bool.{Bool, true, not}
use mathlib.Core.List.{List, [], ◌∷◌, map}
use mathlib.Core.Option.{Option, none, some}
use native.Mathlib.Omega.{arith}
use borrow.Author.Tests.{le-leb}
use lib.ListN.{length, drop}
use lib.Dec.{T, leb, eqb}
use Rattle.page.specs.Bytes.{pick, any}
use Rattle.records.specs.Kind.{Kind, is_vector}
use Rattle.records.specs.Literal.{Literal}
use Rattle.ast.specs.Refusal.{Result, refused, ok, unless, and_then}
use Rattle.records.specs.Record.{Record, leaf, wrapper, binary, aggregate, call, operands}
use Rattle.records.specs.Stack.{operands_of}
use Rattle.ast.specs.Expr.{Expr, Aggregate, AggregateParam, Unary, Binary, Paren, Subquery, NumberLiteral}
use Rattle.ast.specs.Expr.{StringLiteral, VectorSelector, MatrixSelector, Call, value_type, scalar_value, args_of}
use Rattle.ast.specs.Construct.{new_aggregate}
use Rattle.ast.specs.CheckAst.{check_ast}
use Rattle.ast.specs.CheckPage.{leaf_expr, wrap, apply}
use Rattle.working_out.specs.Asked.{are_as_asked, kind_given, is_in_place}
use Rattle.working_out.specs.WorkingOut.{bare_number}
use Rattle.working_out.specs.Demand3.{documented_refusals}
use Rattle.agreement.proofs.Faults.{FaultClaim}

-- ## The tree of a record

-- from a list of operands, the first operand first. With another count of operands, which `apply` rules out, 2
abbrev one : (Expr → Result Expr) → List Expr → Result Expr
one f [] = refused 2
one f (e ∷ []) = f e
one f (e ∷ x ∷ es) = refused 2

abbrev two : (Expr → Expr → Result Expr) → List Expr → Result Expr
two f [] = refused 2
two f (l ∷ []) = refused 2
two f (l ∷ r ∷ []) = f l r
two f (l ∷ r ∷ x ∷ es) = refused 2

abbrev construct : Record → List Expr → Result Expr
construct (leaf l) es = ok (leaf_expr l)
construct (wrapper w) es = one (wrap w) es
construct (binary c m) es = two (λ l r. ok (Binary c m l r)) es
construct (aggregate c m n) es = new_aggregate c m es
construct (call f n) es = ok (Call f (args_of es))

abbrev pub tree_of : Record → List Expr → Result Expr
tree_of r es = and_then (construct r es) check_ast

-- the tree in the place of its operands, if the stack has so many
abbrev pub pushed : List Expr → Result Expr → Result (List Expr)
pushed below made = and_then made (λ e. ok (e ∷ below))

abbrev pub on_operands : (Record → List Expr → Result Expr) → Record → List Expr → Result (List Expr)
on_operands tree r stack =
    pick (leb (operands r) (length stack)) (pushed (drop (operands r) stack) (tree r (operands_of (operands r) stack))) (refused 2)

-- every record takes its operands alike
enough : {A : Type 0} (b : Bool) (x y : A) → b ≡ true → x ≡ pick b x y
enough b x y e = ap (λ (c : Bool). pick c x y) (sym e)

pub apply-operands : (r : Record) (stack : List Expr) → apply r stack ≡ on_operands tree_of r stack
unfolding apply
apply-operands (leaf l) stack = enough (leb 0 (length stack)) _ _ (le-leb 0 (length stack) (omega arith))
apply-operands (wrapper w) [] = refl
apply-operands (wrapper w) (e ∷ below) = enough (leb 1 (suc (length below))) _ _ (le-leb 1 (suc (length below)) (omega arith))
apply-operands (binary c m) [] = refl
apply-operands (binary c m) (r ∷ []) = refl
apply-operands (binary c m) (r ∷ l ∷ below) = enough (leb 2 (suc (suc (length below)))) _ _ (le-leb 2 (suc (suc (length below))) (omega arith))
apply-operands (aggregate c m n) stack = refl
apply-operands (call f n) stack = refl

-- a subquery on the stack has an operand of kind vector; the check asked it before
abbrev pub is_formed : Expr → Bool
is_formed (Aggregate c m e) = true
is_formed (AggregateParam c m p e) = true
is_formed (Unary e) = true
is_formed (Binary c m l r) = true
is_formed (Paren e) = true
is_formed (Subquery e r s t) = is_vector (value_type e)
is_formed (NumberLiteral l) = true
is_formed (StringLiteral t) = true
is_formed (VectorSelector s t) = true
is_formed (MatrixSelector s t r) = true
is_formed (Call f es) = true

-- ## What a tree says

-- what the result of a record says for these kind refusals, where the record is ordinary, in place and allowed, and
-- gives this kind and this bare number
abbrev pub ClaimFor : List ℕ → Bool → Bool → Bool → Kind → Option Literal → Result Expr → Type 0
ClaimFor for_kinds ordinary in_place allowed k l (refused x) = T (any (eqb x) for_kinds) → T in_place × T (not allowed)
ClaimFor for_kinds ordinary in_place allowed k l (ok e) = (T ordinary → T in_place × T allowed) × (k ≡ value_type e) × (l ≡ scalar_value e) × T (is_formed e)

-- the same of a record and its operands: what is set aside, the kind refusals and the tree are parameters
abbrev pub RecordClaimFor : (Record → List Kind → List (Option Literal) → Bool) → List ℕ → (Record → List Expr → Result Expr)
    → Record → List Expr → Type 0
RecordClaimFor aside for_kinds tree r es =
    ClaimFor for_kinds (not (aside r (map value_type es) (map scalar_value es))) (is_in_place r) (are_as_asked r (map value_type es))
    (kind_given r (map value_type es)) (bare_number r (map scalar_value es)) (tree r es)

-- for the kind refusals of check and of the added check
abbrev pub TreeClaim : Bool → Bool → Bool → Kind → Option Literal → Result Expr → Type 0
TreeClaim = ClaimFor documented_refusals

pub from_fault : (f : Option ℕ) (o p a : Bool) (e : Expr) → FaultClaim o p a f → T (is_formed e) → TreeClaim o p a (value_type e) (scalar_value e) (unless f e)
from_fault none o p a e h g = (h.claim, refl, refl, g)
from_fault (some x) o p a e h g = h.claim
