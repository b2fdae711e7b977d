-- What an accepted record puts on the stack: the tree that its constructor made, with a set operator's modifier
-- completed, on what is left below its operands.
use Prim.Native.Nat.{ℕ}
use native.Mathlib.Omega.{arith}
use mathlib.Core.Path.{◌≡◌, refl, sym, ap, ◌∙◌}
use mathlib.Core.Bool.{Bool, true, false}
use mathlib.Core.List.{List, ◌∷◌}
use mathlib.Core.Option.{Option, none, some}
use lib.ListN.{length, drop}
use lib.Dec.{leb}
use Rattle.page.specs.Bytes.{pick}
use Rattle.records.specs.Stack.{operands_of}
use Rattle.records.specs.Modifier.{LabelModifier, BinModifier}
use Rattle.records.specs.Signature.{Function}
use Rattle.records.specs.Record.{Leaf, Wrapper, leaf, wrapper, binary, aggregate, call}
use Rattle.ast.specs.Refusal.{Result, refused, ok, unless, first_fault, and_then}
use Rattle.ast.specs.Expr.{Expr, Aggregate, AggregateParam, Unary, Binary, Paren, Subquery, NumberLiteral}
use Rattle.ast.specs.Expr.{StringLiteral, VectorSelector, MatrixSelector, Call, args_of, value_type}
use Rattle.ast.specs.Construct.{new_aggregate}
use Rattle.ast.specs.CheckAst.{binary_rows, checked_modifier, aggregate_rows, call_rows, kinds_of, first_literal, unary_rows, subquery_rows, selector_rows, check_ast}
use Rattle.ast.specs.CheckPage.{leaf_expr, wrap, push, push_call, apply}

-- what `check_ast` makes of a node that it accepts
abbrev pub checked_expr : Expr → Expr
checked_expr (Aggregate c m e) = Aggregate c m e
checked_expr (AggregateParam c m p e) = AggregateParam c m p e
checked_expr (Unary e) = Unary e
checked_expr (Binary c m l r) = Binary c (checked_modifier c m) l r
checked_expr (Paren e) = Paren e
checked_expr (Subquery e r s t) = Subquery e r s t
checked_expr (NumberLiteral l) = NumberLiteral l
checked_expr (StringLiteral t) = StringLiteral t
checked_expr (VectorSelector s t) = VectorSelector s t
checked_expr (MatrixSelector s t r) = MatrixSelector s t r
checked_expr (Call f es) = Call f es

unless-ok : (f : Option ℕ) (a e : Expr) → unless f a ≡ ok e → e ≡ a
unless-ok none a e h = cc
unless-ok (some n) a e h = cc

pub check_ast-ok : (e made : Expr) → check_ast e ≡ ok made → made ≡ checked_expr e
unfolding check_ast
check_ast-ok (Aggregate c m e) made h = unless-ok (first_fault (aggregate_rows c none (value_type e))) _ made h
check_ast-ok (AggregateParam c m p e) made h = unless-ok (first_fault (aggregate_rows c (some (value_type p)) (value_type e))) _ made h
check_ast-ok (Unary e) made h = unless-ok (first_fault (unary_rows (value_type e))) _ made h
check_ast-ok (Binary c m l r) made h = unless-ok (first_fault (binary_rows c m (value_type l) (value_type r))) _ made h
check_ast-ok (Paren e) made h = cc
check_ast-ok (Subquery e r s t) made h = unless-ok (first_fault (subquery_rows (value_type e))) _ made h
check_ast-ok (NumberLiteral l) made h = cc
check_ast-ok (StringLiteral t) made h = cc
check_ast-ok (VectorSelector s t) made h = unless-ok (first_fault (selector_rows s)) _ made h
check_ast-ok (MatrixSelector s t r) made h = cc
check_ast-ok (Call f es) made h = unless-ok (first_fault (call_rows f (first_literal es) (kinds_of es))) _ made h

-- a constructor's node, accepted and put on the stack
pub record PushedNode (made : Result Expr) (below after : List Expr) : Type 0 where
  pub node : Expr
  pub makes : made ≡ ok node
  pub passes : check_ast node ≡ ok (checked_expr node)
  pub stack : after ≡ checked_expr node ∷ below

pub push_ok : (made : Result Expr) (below after : List Expr) → push made below ≡ ok after → PushedNode made below after
push_ok (refused n) below after h = absurd (let z : ◌≡◌ {A = ℕ} 0 1 = cc in omega arith)
push_ok (ok e) below after h = checked (check_ast e) refl h
  where
    checked : (r : Result Expr) → check_ast e ≡ r → and_then r (λ x. ok (x ∷ below)) ≡ ok after → PushedNode (ok e) below after
    checked (refused n) p q = absurd (let z : ◌≡◌ {A = ℕ} 0 1 = cc in omega arith)
    checked (ok x) p q =
        let same = check_ast-ok e x p in
        record { node = e; makes = refl; passes = p ∙ ap ok same; stack = sym (inner q) ∙ ap (λ (y : Expr). y ∷ below) same }
      where
        inner : {a b : List Expr} → ok a ≡ ok b → a ≡ b
        inner k = cc

-- ## One record, where its operands are there

pub leaf-ok : (l : Leaf) (s after : List Expr) → apply (leaf l) s ≡ ok after → PushedNode (ok (leaf_expr l)) s after
unfolding apply
leaf-ok l s after h = push_ok (ok (leaf_expr l)) s after h

pub wrapper-ok : (w : Wrapper) (e : Expr) (below after : List Expr) → apply (wrapper w) (e ∷ below) ≡ ok after → PushedNode (wrap w e) below after
unfolding apply
wrapper-ok w e below after h = push_ok (wrap w e) below after h

pub binary-ok : (c : ℕ) (m : Option BinModifier) (l r : Expr) (below after : List Expr) → apply (binary c m) (r ∷ l ∷ below) ≡ ok after
    → PushedNode (ok (Binary c m l r)) below after
unfolding apply
binary-ok c m l r below after h = push_ok (ok (Binary c m l r)) below after h

push_call-ok : (n : ℕ) (make : List Expr → Result Expr) (s after : List Expr) → push_call n make s ≡ ok after
    → PushedNode (make (operands_of n s)) (drop n s) after
push_call-ok n make s after h = by (leb n (length s)) h
  where
    by : (b : Bool) → pick b (push (make (operands_of n s)) (drop n s)) (refused 2) ≡ ok after → PushedNode (make (operands_of n s)) (drop n s) after
    by true k = push_ok (make (operands_of n s)) (drop n s) after k
    by false k = absurd (let z : ◌≡◌ {A = ℕ} 0 1 = cc in omega arith)

pub aggregate-ok : (c : ℕ) (m : Option LabelModifier) (n : ℕ) (s after : List Expr) → apply (aggregate c m n) s ≡ ok after
    → PushedNode (new_aggregate c m (operands_of n s)) (drop n s) after
unfolding apply
aggregate-ok c m n s after h = push_call-ok n (new_aggregate c m) s after h

pub call_ok : (f : Function) (n : ℕ) (s after : List Expr) → apply (call f n) s ≡ ok after
    → PushedNode (ok (Call f (args_of (operands_of n s)))) (drop n s) after
unfolding apply
call_ok f n s after h = push_call-ok n (λ es. ok (Call f (args_of es))) s after h
