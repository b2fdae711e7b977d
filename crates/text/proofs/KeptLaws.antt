-- A property of trees that every node of allowed records has where its operands have it holds of every tree on the
-- stack of a page, after any number of records; and of the tree that each record ends. Assumes nothing.
use Prim.Native.Nat.{ℕ, zero, suc}
use native.Mathlib.Omega.{arith}
use mathlib.Core.Path.{◌≡◌, refl, sym, ap, subst, ◌∙◌}
use mathlib.Core.Bool.{Bool, true, false}
use mathlib.Core.List.{List, [], ◌∷◌, reverse_aux}
use mathlib.Core.Option.{Option, none, some}
use lib.ListN.{take, drop}
use lib.Dec.{T}
use Rattle.page.specs.Allowed.{Each}
use Rattle.records.specs.Stack.{operands_of}
use Rattle.records.specs.Code.{is_code, has_parameter}
use Rattle.records.specs.Literal.{Literal, negate, nan}
use Rattle.records.specs.Matcher.{Selector}
use Rattle.records.specs.Modifier.{LabelModifier, BinModifier}
use Rattle.records.specs.Time.{Times}
use Rattle.records.specs.Signature.{Function}
use Rattle.records.specs.Record.{Leaf, Wrapper, range, subquery, at, offset, unary, paren}
use Rattle.records.specs.Record.{Record, leaf, wrapper, binary, aggregate, call, read_page}
use Rattle.records.specs.Allowed.{IsLeaf, IsOptionOf, IsLabelModifier, IsBinModifier, IsFunction, IsAllowed}
use Rattle.records.proofs.PageLaws.{read_page-allowed}
use Rattle.ast.specs.Refusal.{Result, refused, ok}
use Rattle.ast.specs.Expr.{Expr, Aggregate, AggregateParam, Unary, Binary, Paren, Subquery, NumberLiteral}
use Rattle.ast.specs.Expr.{StringLiteral, VectorSelector, MatrixSelector, Call, args_of, scalar_value}
use Rattle.ast.specs.Construct.{new_aggregate_of, no_times}
use Rattle.ast.specs.CheckAst.{check_ast, checked_modifier}
use Rattle.ast.specs.CheckPage.{leaf_expr, wrap, apply}
use Rattle.ast.specs.Walk.{Walked, stack, stopped, walk}
use Rattle.ast.specs.Tables.{entries, newest, stack_at, tree_at}
use Rattle.ast.proofs.EachLaws.{each_take}
use Rattle.ast.proofs.WalkLaws.{walk_first}
use Rattle.text.specs.Chain.{with_at, with_offset, settled}
use Rattle.text.proofs.TreeLaws.{checked_expr, PushedNode, leaf-ok, wrapper-ok, binary-ok, aggregate-ok, call_ok}
use Rattle.text.proofs.EntryLaws.{negated, UnaryOf, unary-of}
use Rattle.text.proofs.LaidOutLaws.{number_is}
use Rattle.text.proofs.ChainLaws.{settled-nothing, range-settled, at-settled, offset-settled}

-- every node has the property where its operands have it
pub record Kept (P : Expr → Type 0) : Type 0 where
  pub leaves : (l : Leaf) → IsLeaf l → check_ast (leaf_expr l) ≡ ok (checked_expr (leaf_expr l)) → P (checked_expr (leaf_expr l))
  pub numbers : (l : Literal) → P (NumberLiteral l)
  -- whatever @ and offset
  pub selectors : (s : Selector) (t u : Times) → P (VectorSelector s t) → P (VectorSelector s u)
  pub ranges : (s : Selector) (t u : Times) (r : ℕ) → P (VectorSelector s t) → P (MatrixSelector s u r)
  pub matrices : (s : Selector) (t u : Times) (r : ℕ) → P (MatrixSelector s t r) → P (MatrixSelector s u r)
  pub subqueries : (e : Expr) (r : ℕ) (s : Option ℕ) (u : Times) → P e → P (Subquery e r s u)
  -- what holds of a subquery holds of its operand
  pub operands : (e : Expr) (r : ℕ) (s : Option ℕ) (t : Times) → P (Subquery e r s t) → P e
  pub unaries : (e : Expr) → P e → P (Unary e)
  pub parens : (e : Expr) → P e → P (Paren e)
  pub binaries : (c : ℕ) (m : Option BinModifier) (l r : Expr) → IsOptionOf IsBinModifier m → P l → P r
      → P (Binary c (checked_modifier c m) l r)
  pub aggregates : (c : ℕ) (m : Option LabelModifier) (e : Expr) → T (is_code c) → IsOptionOf IsLabelModifier m → P e
      → P (Aggregate c m e)
  pub aggregate_params : (c : ℕ) (m : Option LabelModifier) (p e : Expr) → T (is_code c) → IsOptionOf IsLabelModifier m
      → P p → P e → P (AggregateParam c m p e)
  pub calls : (f : Function) (es : List Expr) → IsFunction f → Each P es → P (Call f (args_of es))

-- a record that finds too few operands is refused
pub refused-never : {B : Type 0} {after : List Expr} → refused 2 ≡ ok after → B
refused-never e = absurd (let z : ◌≡◌ {A = ℕ} 0 1 = cc in omega arith)

module _ (P : Expr → Type 0) (kept : Kept P) where
  -- ## Records on one operand

  settled-kept : (n : Option ℕ) (u : Times) (e : Expr) → P e → P (settled n u e)
  unfolding settled
  settled-kept n u (Aggregate c m e) h = h
  settled-kept n u (AggregateParam c m p e) h = h
  settled-kept n u (Unary e) h = h
  settled-kept n u (Binary c m x y) h = h
  settled-kept n u (Paren e) h = h
  settled-kept n u (Subquery e r s t) h = kept.subqueries e r s _ (kept.operands e r s t h)
  settled-kept n u (NumberLiteral l) h = h
  settled-kept n u (StringLiteral x) h = h
  settled-kept none u (VectorSelector s t) h = kept.selectors s t _ h
  settled-kept (some r) u (VectorSelector s t) h = kept.ranges s t _ r h
  settled-kept n u (MatrixSelector s t r) h = kept.matrices s t _ r h
  settled-kept n u (Call f es) h = h

  part-kept : (n : Option ℕ) (u : Times) (e made : Expr) → P e → settled none no_times made ≡ settled n u e → P made
  part-kept n u e made h same = subst P (sym same ∙ settled-nothing made) (settled-kept n u e h)

  unary_kept : (e made : Expr) → UnaryOf e made → P e → P made
  unary_kept e made w h = by (scalar_value e) refl
    where
      by : (v : Option Literal) → scalar_value e ≡ v → P made
      by none is = subst P (sym (w.other is)) (kept.unaries e h)
      by (some l) is = subst P (sym (number_is made (negate l) (w.value ∙ ap negated is))) (kept.numbers (negate l))

  wrap-kept : (w : Wrapper) (e node : Expr) → P e → wrap w e ≡ ok node → P (checked_expr node)
  wrap-kept (range r) e node h is = part-kept (some r) no_times e _ h (range-settled r none no_times e node is)
  wrap-kept (subquery r s) e node h is =
      let same : node ≡ Subquery e r s no_times = cc in
      subst (λ (x : Expr). P (checked_expr x)) (sym same) (kept.subqueries e r s no_times h)
  wrap-kept (at a) e node h is = part-kept none (with_at a no_times) e _ h (at-settled a none no_times e node is)
  wrap-kept (offset o) e node h is = part-kept none (with_offset o no_times) e _ h (offset-settled o none no_times e node is)
  wrap-kept unary e node h is = unary_kept e _ (unary-of e node is) h
  wrap-kept paren e node h is =
      let same : node ≡ Paren e = cc in subst (λ (x : Expr). P (checked_expr x)) (sym same) (kept.parens e h)

  -- ## Operands

  reverse-kept : (s t : List Expr) → Each P s → Each P t → Each P (reverse_aux s t)
  reverse-kept [] t h k = k
  reverse-kept (e ∷ s) t h k = reverse-kept s (e ∷ t) h.1 (h.0, k)

  operands-kept : (n : ℕ) (s : List Expr) → Each P s → Each P (operands_of n s)
  operands-kept n s h = reverse-kept (take n s) [] (each_take P n s h) tt

  below-kept : (n : ℕ) (s : List Expr) → Each P s → Each P (drop n s)
  below-kept zero s h = h
  below-kept (suc n) [] h = h
  below-kept (suc n) (e ∷ s) h = below-kept n s h.1

  -- ## Records

  module _ (c : ℕ) (m : Option LabelModifier) (code : T (is_code c)) (a : IsOptionOf IsLabelModifier m) where
    aggregate-kept : (b : Bool) (es : List Expr) (node : Expr) → Each P es → new_aggregate_of b c m es ≡ ok node
        → P (checked_expr node)
    aggregate-kept true [] node h is = absurd (let z : ◌≡◌ {A = ℕ} 0 1 = cc in omega arith)
    aggregate-kept false [] node h is = absurd (let z : ◌≡◌ {A = ℕ} 0 1 = cc in omega arith)
    aggregate-kept true (p ∷ []) node h is = absurd (let z : ◌≡◌ {A = ℕ} 0 1 = cc in omega arith)
    aggregate-kept true (p ∷ e ∷ []) node h is =
        let same : node ≡ AggregateParam c m p e = cc in
        subst (λ (x : Expr). P (checked_expr x)) (sym same) (kept.aggregate_params c m p e code a h.0 h.1.0)
    aggregate-kept true (p ∷ e ∷ x ∷ es) node h is = absurd (let z : ◌≡◌ {A = ℕ} 0 1 = cc in omega arith)
    aggregate-kept false (e ∷ []) node h is =
        let same : node ≡ Aggregate c m e = cc in
        subst (λ (x : Expr). P (checked_expr x)) (sym same) (kept.aggregates c m e code a h.0)
    aggregate-kept false (e ∷ x ∷ es) node h is = absurd (let z : ◌≡◌ {A = ℕ} 0 1 = cc in omega arith)

  pushed-kept : {made : Result Expr} {below after : List Expr} (p : PushedNode made below after)
      → P (checked_expr p.node) → Each P below → Each P after
  pushed-kept p h below = subst (Each P) (sym p.stack) (h, below)

  -- the node that a constructor gives is the one put on the stack
  made_kept : (e : Expr) {below after : List Expr} (p : PushedNode (ok e) below after)
      → (check_ast e ≡ ok (checked_expr e) → P (checked_expr e)) → Each P below → Each P after
  made_kept e p h below = pushed-kept p (subst (λ (x : Expr). P (checked_expr x)) same (h passes)) below
    where
      same : e ≡ p.node
      same = let is = p.makes in cc

      passes : check_ast e ≡ ok (checked_expr e)
      passes = subst (λ (x : Expr). check_ast x ≡ ok (checked_expr x)) (sym same) p.passes

  apply-kept : (r : Record) (s after : List Expr) → IsAllowed r → Each P s → apply r s ≡ ok after → Each P after
  unfolding apply
  apply-kept (leaf l) s after a h is = made_kept (leaf_expr l) (leaf-ok l s after is) (kept.leaves l a) h
  apply-kept (wrapper w) [] after a h is = refused-never is
  apply-kept (wrapper w) (e ∷ s) after a h is =
      let p = wrapper-ok w e s after is in pushed-kept p (wrap-kept w e p.node h.0 p.makes) h.1
  apply-kept (binary c m) [] after a h is = refused-never is
  apply-kept (binary c m) (r ∷ []) after a h is = refused-never is
  apply-kept (binary c m) (r ∷ l ∷ s) after a h is =
      made_kept (Binary c m l r) (binary-ok c m l r s after is)
      (λ passes. kept.binaries c m l r a.1 h.1.0 h.0) h.1.1
  apply-kept (aggregate c m n) s after a h is =
      let p = aggregate-ok c m n s after is in
      pushed-kept p
      (aggregate-kept c m a.0 a.1 (has_parameter c) (operands_of n s) p.node (operands-kept n s h) p.makes)
      (below-kept n s h)
  apply-kept (call f n) s after a h is =
      made_kept (Call f (args_of (operands_of n s))) (call_ok f n s after is)
      (λ passes. kept.calls f (operands_of n s) a.0 (operands-kept n s h)) (below-kept n s h)

  -- ## Pages

  walk_kept : (rs : List Record) (i : ℕ) (s t : List Expr) → Each IsAllowed rs → Each P s → walk apply i s rs ≡ stack t
      → Each P t
  walk_kept [] i s t a h is = let same : s ≡ t = cc in subst (Each P) same h
  walk_kept (r ∷ rs) i s t a h is =
      let (u, first, more) = walk_first apply r rs i s t is in
      walk_kept rs (suc i) u t a.1 (apply-kept r s u a.0 h first) more

  -- the stack after the first k records of any page
  pub stack-kept : (page : List ℕ) (k : ℕ) → Each P (stack_at page k)
  unfolding stack_at
  stack-kept page k = by (walk apply 0 [] (take k (read_page page).records)) refl
    where
      by : (w : Walked Expr) → walk apply 0 [] (take k (read_page page).records) ≡ w → Each P (entries w)
      by (stopped n i) is = tt
      by (stack s) is =
          walk_kept (take k (read_page page).records) 0 [] s (each_take IsAllowed k (read_page page).records (read_page-allowed page)) tt is

  -- the tree that record i of any page ends
  pub tree-kept : (page : List ℕ) (i : ℕ) → P (tree_at page i)
  unfolding tree_at
  tree-kept page i = by (stack_at page (suc i)) (stack-kept page (suc i))
    where
      by : (s : List Expr) → Each P s → P (newest s)
      by [] h = kept.numbers nan
      by (e ∷ s) h = h.0
