-- What the tables say of a record: the tree that it ends is what its constructor made of the operands before it.
use Prim.Native.Nat.{ℕ, zero, suc, ◌-◌, ◌≤◌}
use native.Mathlib.Omega.{arith}
use mathlib.Core.Path.{◌≡◌, refl, sym, ap, ◌∙◌}
use mathlib.Core.Bool.{false}
use mathlib.Core.List.{List}
use mathlib.Core.Option.{Option, none, some}
use lib.ListN.{length, get_or}
use lib.Dec.{leb}
use borrow.Author.Tests.{leb-true}
use Rattle.base.proofs.Cases.{by_flag}
use Rattle.page.specs.Limits.{page_limit}
use Rattle.page.specs.Read.{got}
use Rattle.records.specs.Literal.{Literal, negate}
use Rattle.records.specs.Record.{Leaf, number, string, selector, Wrapper, unary, Record, leaf, wrapper, operands}
use Rattle.records.specs.Record.{read_record, read_page}
use Rattle.records.specs.Allowed.{IsAllowed}
use Rattle.records.proofs.AllowedLaws.{read_record-gives}
use Rattle.ast.specs.Refusal.{ok}
use Rattle.ast.specs.Expr.{Expr, Aggregate, AggregateParam, Unary, Binary, Paren, Subquery, NumberLiteral}
use Rattle.ast.specs.Expr.{StringLiteral, VectorSelector, MatrixSelector, Call, scalar_value}
use Rattle.ast.specs.Construct.{new_unary}
use Rattle.ast.specs.CheckPage.{leaf_expr, wrap, apply}
use Rattle.ast.specs.Tables.{newest as newest_entry, stack_at, tree_at, Entry, Tables}
use Rattle.text.specs.LaidOut.{Reads}
use Rattle.text.proofs.OperandLaws.{fewer, Newest, newest}
use Rattle.text.proofs.TreeLaws.{checked_expr, PushedNode, leaf-ok, wrapper-ok}

long-empty : (page : List ℕ) (k : ℕ) → leb (length page) page_limit ≡ false → length (stack_at page k) ≡ 0
unfolding stack_at read_page
long-empty page zero f = refl
long-empty page (suc k) f = rw f

-- ## What was read and made of a record

pub allowed : (bytes' : List ℕ) {item : Record} {rest : List ℕ} → got item rest ≡ read_record bytes' → IsAllowed item
allowed bytes' h = rw (← h) at (read_record-gives.gives bytes')

pub tree_of : (page : List ℕ) (j : ℕ) {e : Expr} {below : List Expr} → PushedNode (ok e) below (stack_at page (suc j)) → tree_at page j ≡ checked_expr e
unfolding tree_at
tree_of page j {e} p = ap newest_entry p.stack ∙ ap checked_expr (same p.makes)
  where
    same : {a b : Expr} → ok a ≡ ok b → b ≡ a
    same h = cc

-- a record on one operand, which the record before it ends
pub record Wrapped (page firsts : List ℕ) (j : ℕ) (w : Wrapper) : Type 0 where
  pub last : Newest page firsts j
  pub pushed : PushedNode (wrap w (tree_at page (j - 1))) (stack_at page (get_or firsts (j - 1) 0)) (stack_at page (suc j))

module _ {page starts firsts : List ℕ} {j : ℕ} (t : Tables page starts firsts (suc j)) where
  here : Entry page (get_or starts j 0) (get_or firsts j 0) j
  here = t.entry j (omega arith)

  item-is : {item : Record} → Reads page starts j item → here.item ≡ item
  item-is {item} r = same (here.reads ∙ sym r.reads)
    where
      same : {a b : Record} {s u : List ℕ} → got a s ≡ got b u → a ≡ b
      same h = cc

  pub applies : {item : Record} → Reads page starts j item → apply item (stack_at page j) ≡ ok (stack_at page (suc j))
  applies r = rw (← item-is r) here.applies

  pub enough : {item : Record} → Reads page starts j item → operands item ≤ length (stack_at page j)
  enough r = rw (← item-is r) here.enough

  pub leaf-tree : (l : Leaf) → Reads page starts j (leaf l) → tree_at page j ≡ leaf_expr l
  leaf-tree l is = tree_of page j (leaf-ok l (stack_at page j) (stack_at page (suc j)) (applies is)) ∙ same l
    where
      same : (l : Leaf) → checked_expr (leaf_expr l) ≡ leaf_expr l
      same (number x) = refl
      same (string x) = refl
      same (selector x) = refl

  pub wrapped : (w : Wrapper) → Reads page starts j (wrapper w) → Wrapped page firsts j w
  wrapped w is =
      let last = newest {end = j} (fewer t (omega arith)) (omega (arith, enough is)) in
      record { last = last; pushed = wrapper-ok w _ _ _ (rw last.stack at (applies is)) }

-- ## Unary records

abbrev pub negated : Option Literal → Option Literal
negated none = none
negated (some l) = some (negate l)

-- `new_unary_expr`: a bare number is negated, anything else gets a minus
pub record UnaryOf (e made : Expr) : Type 0 where
  pub value : scalar_value made ≡ negated (scalar_value e)
  pub other : scalar_value e ≡ none → made ≡ Unary e

plain : (e : Expr) {node : Expr} → scalar_value e ≡ none → ok (Unary e) ≡ ok node → UnaryOf e (checked_expr node)
plain e {node} v h = let same : node ≡ Unary e = cc in rw same (record { value = rw v; other = λ k. refl })

pub unary-of : (e node : Expr) → new_unary e ≡ ok node → UnaryOf e (checked_expr node)
unary-of (Aggregate c m e) node h = plain (Aggregate c m e) refl h
unary-of (AggregateParam c m p e) node h = plain (AggregateParam c m p e) refl h
unary-of (Unary e) node h = plain (Unary e) refl h
unary-of (Binary c m l r) node h = plain (Binary c m l r) refl h
unary-of (Paren e) node h = plain (Paren e) refl h
unary-of (Subquery e r s t) node h = plain (Subquery e r s t) refl h
unary-of (NumberLiteral l) node h =
    let same : node ≡ NumberLiteral (negate l) = cc in rw same (record { value = refl; other = λ k. absurd (never k) })
  where
    never : some l ≡ none → ⊥
    never k = let z : ◌≡◌ {A = ℕ} 0 1 = cc in omega arith
unary-of (StringLiteral t) node h = absurd (let z : ◌≡◌ {A = ℕ} 0 1 = cc in omega arith)
unary-of (VectorSelector s t) node h = plain (VectorSelector s t) refl h
unary-of (MatrixSelector s t r) node h = absurd (let z : ◌≡◌ {A = ℕ} 0 1 = cc in omega arith)
unary-of (Call f es) node h = plain (Call f es) refl h

module _ {page starts firsts : List ℕ} {j : ℕ} (t : Tables page starts firsts (suc j)) (r : Reads page starts j (wrapper unary)) where
  pub unary-made : UnaryOf (tree_at page (j - 1)) (tree_at page j)
  unary-made =
      let p = (wrapped t unary r).pushed in
      rw (tree_of page j (record { node = p.node; makes = refl; passes = p.passes; stack = p.stack })) (unary-of (tree_at page (j - 1)) p.node p.makes)

  pub unary-value : scalar_value (tree_at page j) ≡ negated (scalar_value (tree_at page (j - 1)))
  unary-value = unary-made.value

-- ## A page with records is not too long

pub page-short : {page starts firsts : List ℕ} {n : ℕ} → Tables page starts firsts (suc n) → length page ≤ page_limit
page-short {page} {starts} {firsts} {n} t = by_flag (leb (length page) page_limit) (leb-true (length page) page_limit) (λ f. absurd (never f))
  where
    never : leb (length page) page_limit ≡ false → ⊥
    never f = omega (arith, ap length (t.entry n (omega arith)).grows, long-empty page (suc n) f)
