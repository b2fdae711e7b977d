-- What each record says of the tree that it ends: how its text is put together and where its operands lie. The record
-- may have ranges, @ and offsets above it (`settled`): these are part of its node.
use Prim.Native.Nat.{ℕ, suc, ◌-◌, ◌≤◌, zero-le}
use native.Mathlib.Omega.{arith}
use mathlib.Core.Path.{◌≡◌, refl, sym, ap, ◌∙◌}
use mathlib.Core.Bool.{Bool, true, false}
use mathlib.Core.List.{List, [], ◌∷◌, ◌++◌}
use mathlib.Core.Option.{Option, none, some}
use lib.ListN.{length}
use Rattle.page.specs.Text.{Text}
use Rattle.records.specs.Stack.{operands_of}
use Rattle.records.specs.Code.{has_parameter}
use Rattle.records.specs.Literal.{Literal}
use Rattle.records.specs.Matcher.{Selector}
use Rattle.records.specs.Modifier.{LabelModifier, BinModifier}
use Rattle.records.specs.Time.{Times}
use Rattle.records.specs.Signature.{Function}
use Rattle.records.specs.Record.{number, string, selector, Wrapper, subquery, unary, paren, leaf, wrapper, binary, aggregate, call}
use Rattle.leaves.specs.Numeral.{display_literal}
use Rattle.leaves.specs.Escape.{quote}
use Rattle.ast.specs.Refusal.{ok}
use Rattle.ast.specs.Expr.{Expr, Aggregate, AggregateParam, Unary, Binary, Paren, Subquery, NumberLiteral}
use Rattle.ast.specs.Expr.{StringLiteral, VectorSelector, MatrixSelector, Call, args_of, scalar_value}
use Rattle.ast.specs.Construct.{new_aggregate_of, no_times}
use Rattle.ast.specs.CheckAst.{checked_modifier}
use Rattle.ast.specs.CheckPage.{wrap}
use Rattle.ast.specs.Tables.{stack_at, tree_at, Tables}
use Rattle.text.specs.Display.{display_operator, display_aggregator, display_selector, display_times, display_suffix}
use Rattle.text.specs.Layout.{Layout, whole, negation, suffixed, enclosed, infixed, display_range, layout_of, args_list, children}
use Rattle.text.specs.Chain.{ranged, settled}
use Rattle.text.specs.LaidOut.{Reads, LaidOut}
use Rattle.text.proofs.DisplayLaws.{display_operator-checked}
use Rattle.text.proofs.OperandLaws.{fewer, Newest}
use Rattle.text.proofs.TreeLaws.{checked_expr, binary-ok, aggregate-ok, call_ok}
use Rattle.text.proofs.EntryLaws.{tree_of, Wrapped, applies, enough, leaf-tree, wrapped, negated, unary-made}

-- ## The node

-- only a bare number has a value
pub number_is : (e : Expr) (l : Literal) → scalar_value e ≡ some l → e ≡ NumberLiteral l
number_is (Aggregate c m e) l h = cc
number_is (AggregateParam c m p e) l h = cc
number_is (Unary e) l h = cc
number_is (Binary c m x y) l h = cc
number_is (Paren e) l h = cc
number_is (Subquery e r s t) l h = cc
number_is (NumberLiteral x) l h = cc
number_is (StringLiteral x) l h = cc
number_is (VectorSelector s x) l h = cc
number_is (MatrixSelector s x r) l h = cc
number_is (Call f es) l h = cc

-- a node without operands
leaf-laid_out : (page : List ℕ) (i j : ℕ) (text : List ℕ) (e : Expr) → tree_at page i ≡ e → layout_of e ≡ whole text
    → children e ≡ [] → j ≤ i → LaidOut page i (whole text) j 0
leaf-laid_out page i j text e tree own none' low =
    record { layout = ap layout_of tree ∙ own; operands = ap children tree ∙ none'; enough = zero-le; low = low; unsigned = λ k. absurd (never k) }
  where
    never : whole text ≡ negation → ⊥
    never k = let z : ◌≡◌ {A = ℕ} 0 1 = cc in omega arith

module _ {page starts firsts : List ℕ} {i : ℕ} (t : Tables page starts firsts (suc i)) (j : ℕ) (low : j ≤ i)
    (n : Option ℕ) (u : Times) (chain : tree_at page i ≡ settled n u (tree_at page j)) where
  below : Tables page starts firsts (suc j)
  below = fewer t (omega arith)

  pub laid_out-number : (l : Literal) → Reads page starts j (leaf (number l)) → LaidOut page i (whole (display_literal l)) j 0
  unfolding settled
  laid_out-number l is = leaf-laid_out page i j (display_literal l) (NumberLiteral l) (chain ∙ ap (settled n u) (leaf-tree below (number l) is)) refl refl low

  pub laid_out-string : (x : Text) → Reads page starts j (leaf (string x)) → LaidOut page i (whole (quote x)) j 0
  unfolding settled
  laid_out-string x is = leaf-laid_out page i j (quote x) (StringLiteral x) (chain ∙ ap (settled n u) (leaf-tree below (string x) is)) refl refl low

  pub laid_out-selector : (s : Selector) → Reads page starts j (leaf (selector s))
      → LaidOut page i (whole (display_selector s ++ (display_range n ++ display_times u))) j 0
  unfolding settled
  laid_out-selector s is = leaf-laid_out page i j _ (ranged n s u) (chain ∙ ap (settled n u) (leaf-tree below (selector s) is)) (own n) (none' n) low
    where
      own : (m : Option ℕ) → layout_of (ranged m s u) ≡ whole (display_selector s ++ (display_range m ++ display_times u))
      own none = refl
      own (some r) = refl

      none' : (m : Option ℕ) → children (ranged m s u) ≡ []
      none' none = refl
      none' (some r) = refl

  one : Newest page firsts j → operands_of 1 (stack_at page j) ≡ tree_at page (j - 1) ∷ []
  one last = rw last.stack

  -- on one operand, not a unary expression
  one-laid_out : (w : Wrapper) (own : Layout) (e : Expr) → Wrapped page firsts j w → wrap w (tree_at page (j - 1)) ≡ ok e
      → layout_of (settled n u (checked_expr e)) ≡ own → children (settled n u (checked_expr e)) ≡ tree_at page (j - 1) ∷ []
      → (own ≡ negation → ⊥) → LaidOut page i own j 1
  one-laid_out w own e wr makes is holds not' =
      let tree : tree_at page i ≡ settled n u (checked_expr e) = chain ∙ ap (settled n u) (tree_of page j (rw makes at wr.pushed)) in
      record {
        layout = ap layout_of tree ∙ is;
        operands = ap children tree ∙ holds ∙ sym (one wr.last);
        enough = omega (arith, ap length wr.last.stack);
        low = low;
        unsigned = λ k. absurd (not' k);
      }

  pub laid_out-subquery : (r : ℕ) (s : Option ℕ) → Reads page starts j (wrapper (subquery r s)) → LaidOut page i (suffixed (display_suffix r s u)) j 1
  unfolding settled
  laid_out-subquery r s is = one-laid_out (subquery r s) _ (Subquery (tree_at page (j - 1)) r s no_times) (wrapped below (subquery r s) is) refl refl refl never
    where
      never : suffixed (display_suffix r s u) ≡ negation → ⊥
      never k = let z : ◌≡◌ {A = ℕ} 0 1 = cc in omega arith

  pub laid_out-paren : Reads page starts j (wrapper paren) → LaidOut page i (enclosed []) j 1
  unfolding settled
  laid_out-paren is = one-laid_out paren _ (Paren (tree_at page (j - 1))) (wrapped below paren is) refl refl refl never
    where
      never : enclosed [] ≡ negation → ⊥
      never k = let z : ◌≡◌ {A = ℕ} 0 1 = cc in omega arith

  -- a bare number, with the sign of the unary records on it
  pub laid_out-literal : (l : Literal) → scalar_value (tree_at page j) ≡ some l → LaidOut page i (whole (display_literal l)) j 0
  unfolding settled
  laid_out-literal l v = leaf-laid_out page i j (display_literal l) (NumberLiteral l) (chain ∙ ap (settled n u) (number_is (tree_at page j) l v)) refl refl low

  pub laid_out-unary : Reads page starts j (wrapper unary) → scalar_value (tree_at page j) ≡ none → LaidOut page i negation j 1
  unfolding settled
  laid_out-unary is v =
      let made = unary-made below is in
      let inner : scalar_value (tree_at page (j - 1)) ≡ none = none_inside (scalar_value (tree_at page (j - 1))) (sym made.value ∙ v) in
      let tree : tree_at page i ≡ Unary (tree_at page (j - 1)) = chain ∙ ap (settled n u) (made.other inner) in
      let last = (wrapped below unary is).last in
      record {
        layout = ap layout_of tree;
        operands = ap children tree ∙ sym (one last);
        enough = omega (arith, ap length last.stack);
        low = low;
        unsigned = λ k. inner;
      }
    where
      none_inside : (x : Option Literal) → negated x ≡ none → x ≡ none
      none_inside none h = refl
      none_inside (some l) h = cc

  -- on so many operands, all kept as the node's
  many-laid_out : (count : ℕ) (own : Layout) (e : Expr) → tree_at page j ≡ e → settled n u e ≡ e → layout_of e ≡ own
      → children e ≡ operands_of count (stack_at page j)
      → count ≤ length (stack_at page j) → (own ≡ negation → ⊥) → LaidOut page i own j count
  many-laid_out count own e made same is holds few not' =
      let tree : tree_at page i ≡ e = chain ∙ ap (settled n u) made ∙ same in
      record { layout = ap layout_of tree ∙ is; operands = ap children tree ∙ holds; enough = few; low = low; unsigned = λ k. absurd (not' k) }

  pub laid_out-binary : (c : ℕ) (m : Option BinModifier) → Reads page starts j (binary c m) → LaidOut page i (infixed (display_operator c m)) j 2
  unfolding settled
  laid_out-binary c m is = two (stack_at page j) refl
    where
      never : infixed (display_operator c m) ≡ negation → ⊥
      never k = let z : ◌≡◌ {A = ℕ} 0 1 = cc in omega arith

      two : (s : List Expr) → stack_at page j ≡ s → LaidOut page i (infixed (display_operator c m)) j 2
      two [] e = absurd (omega (arith, enough below is, ap length e))
      two (r ∷ []) e = absurd (omega (arith, enough below is, ap length e))
      two (r ∷ l ∷ s) e =
          many-laid_out 2 _ (Binary c (checked_modifier c m) l r) (tree_of page j (binary-ok c m l r s _ (rw e at (applies below is)))) refl
          (ap infixed (display_operator-checked c m)) (ap (operands_of 2) (sym e)) (enough below is) never

  pub laid_out-call : (f : Function) (count : ℕ) → Reads page starts j (call f count) → LaidOut page i (enclosed f.name) j count
  unfolding settled
  laid_out-call f count is =
      many-laid_out count _ (Call f (args_of (operands_of count (stack_at page j)))) (tree_of page j (call_ok f count _ _ (applies below is))) refl
      refl (back (operands_of count (stack_at page j))) (enough below is) never
    where
      never : enclosed f.name ≡ negation → ⊥
      never k = let z : ◌≡◌ {A = ℕ} 0 1 = cc in omega arith

      back : (es : List Expr) → args_list (args_of es) ≡ es
      back [] = refl
      back (e ∷ es) = ap (λ (r : List Expr). e ∷ r) (back es)

  pub laid_out-aggregate : (c : ℕ) (m : Option LabelModifier) (count : ℕ) → Reads page starts j (aggregate c m count)
      → LaidOut page i (enclosed (display_aggregator c m)) j count
  unfolding settled
  laid_out-aggregate c m count is =
      let p = aggregate-ok c m count (stack_at page j) _ (applies below is) in
      let made = tree_of page j (record { node = p.node; makes = refl; passes = p.passes; stack = p.stack }) in
      let w = shape (has_parameter c) (operands_of count (stack_at page j)) p.node p.makes in
      many-laid_out count _ (checked_expr p.node) made w.0 w.1 w.2 (enough below is) never
    where
      never : enclosed (display_aggregator c m) ≡ negation → ⊥
      never k = let z : ◌≡◌ {A = ℕ} 0 1 = cc in omega arith

      shape : (b : Bool) (es : List Expr) (node : Expr) → new_aggregate_of b c m es ≡ ok node
          → (settled n u (checked_expr node) ≡ checked_expr node)
          × (layout_of (checked_expr node) ≡ enclosed (display_aggregator c m))
          × (children (checked_expr node) ≡ es)
      shape true [] node h = absurd (let z : ◌≡◌ {A = ℕ} 0 1 = cc in omega arith)
      shape false [] node h = absurd (let z : ◌≡◌ {A = ℕ} 0 1 = cc in omega arith)
      shape true (p ∷ []) node h = absurd (let z : ◌≡◌ {A = ℕ} 0 1 = cc in omega arith)
      shape true (p ∷ e ∷ []) node h = let same : node ≡ AggregateParam c m p e = cc in rw same (refl, refl, refl)
      shape true (p ∷ e ∷ x ∷ es) node h = absurd (let z : ◌≡◌ {A = ℕ} 0 1 = cc in omega arith)
      shape false (e ∷ []) node h = let same : node ≡ Aggregate c m e = cc in rw same (refl, refl, refl)
      shape false (e ∷ x ∷ es) node h = absurd (let z : ◌≡◌ {A = ℕ} 0 1 = cc in omega arith)
