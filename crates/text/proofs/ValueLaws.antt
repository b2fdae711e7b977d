-- The value of a bare number, going down a chain of unary records: each negates it, and the record at the chain's foot
-- is a number or what it ends has no value.
use Prim.Native.Nat.{ℕ, suc, ◌-◌}
use native.Mathlib.Omega.{arith}
use mathlib.Core.Path.{◌≡◌, refl, sym, ap, ◌∙◌}
use mathlib.Core.Bool.{Bool, true, false, not}
use mathlib.Core.List.{List}
use mathlib.Core.Option.{Option, none, some}
use Rattle.records.specs.Literal.{Literal, plus, minus, nan}
use Rattle.records.specs.Time.{Times}
use Rattle.records.specs.Record.{number, string, selector, Wrapper, range, subquery, at, offset, unary, paren, Record, leaf, wrapper, binary, aggregate, call}
use Rattle.ast.specs.Refusal.{ok}
use Rattle.ast.specs.Expr.{Expr, Aggregate, AggregateParam, Unary, Binary, Paren, Subquery, NumberLiteral}
use Rattle.ast.specs.Expr.{StringLiteral, VectorSelector, MatrixSelector, Call, scalar_value}
use Rattle.ast.specs.Construct.{no_times}
use Rattle.ast.specs.CheckPage.{wrap}
use Rattle.ast.specs.Tables.{tree_at, Tables}
use Rattle.text.specs.Layout.{Layout, whole, negation, suffixed, enclosed, infixed, layout_of}
use Rattle.text.specs.Chain.{with_at, with_offset, settled}
use Rattle.text.specs.LaidOut.{Reads}
use Rattle.text.proofs.EntryLaws.{leaf-tree, wrapped, negated, unary-value}
use Rattle.text.proofs.LaidOutLaws.{number_is, laid_out-subquery, laid_out-paren, laid_out-binary, laid_out-aggregate, laid_out-call}
use Rattle.text.proofs.ChainLaws.{settled-nothing, chain-range, chain-at, chain-offset}

-- ## The sign

-- a value with the sign of so many unary records: with an odd count it is negated
abbrev pub signed : Bool → Option Literal → Option Literal
signed false v = v
signed true v = negated v

negated-twice : (v : Option Literal) → negated (negated v) ≡ v
negated-twice none = refl
negated-twice (some (plus m)) = refl
negated-twice (some (minus m)) = refl
negated-twice (some nan) = refl

signed-negated : (odd : Bool) (v : Option Literal) → signed odd (negated v) ≡ signed (not odd) v
signed-negated false v = refl
signed-negated true v = negated-twice v

pub signed-none : (odd : Bool) → signed odd none ≡ none
signed-none false = refl
signed-none true = refl

module _ {page starts firsts : List ℕ} {j : ℕ} (t : Tables page starts firsts (suc j)) where
  pub signed-unary : (odd : Bool) → Reads page starts j (wrapper unary)
      → signed odd (scalar_value (tree_at page j)) ≡ signed (not odd) (scalar_value (tree_at page (j - 1)))
  signed-unary odd r = ap (signed odd) (unary-value t r) ∙ signed-negated odd (scalar_value (tree_at page (j - 1)))

-- ## All other records

-- by cases on what a tree is worth
numberless : (e : Expr) → ((l : Literal) → e ≡ NumberLiteral l → ⊥) → scalar_value e ≡ none
numberless e never = by (scalar_value e) refl
  where
    by : (v : Option Literal) → scalar_value e ≡ v → scalar_value e ≡ none
    by none h = h
    by (some l) h = absurd (never l (number_is e l h))

-- a number is a leaf
abbrev Joins : Layout → Type 0
Joins (whole t) = ⊥
Joins negation = Unit {0}
Joins (suffixed t) = Unit {0}
Joins (enclosed head) = Unit {0}
Joins (infixed operator) = Unit {0}

joins-numberless : (e : Expr) {own : Layout} → layout_of e ≡ own → Joins own → scalar_value e ≡ none
joins-numberless e is j = numberless e (λ l k. rw (← is, k) at j)

pub settled-value : (n : Option ℕ) (u : Times) (e : Expr) → scalar_value (settled n u e) ≡ scalar_value e
unfolding settled
settled-value n u (Aggregate c m e) = refl
settled-value n u (AggregateParam c m p e) = refl
settled-value n u (Unary e) = refl
settled-value n u (Binary c m x y) = refl
settled-value n u (Paren e) = refl
settled-value n u (Subquery e q s t) = refl
settled-value n u (NumberLiteral l) = refl
settled-value n u (StringLiteral x) = refl
settled-value none u (VectorSelector s t) = refl
settled-value (some r) u (VectorSelector s t) = refl
settled-value n u (MatrixSelector s t q) = refl
settled-value n u (Call f es) = refl

-- a record other than a number and a unary one
abbrev pub Unsigned : Record → Type 0
Unsigned (leaf (number l)) = ⊥
Unsigned (leaf (string x)) = Unit {0}
Unsigned (leaf (selector s)) = Unit {0}
Unsigned (wrapper (range r)) = Unit {0}
Unsigned (wrapper (subquery r s)) = Unit {0}
Unsigned (wrapper (at a)) = Unit {0}
Unsigned (wrapper (offset o)) = Unit {0}
Unsigned (wrapper unary) = ⊥
Unsigned (wrapper paren) = Unit {0}
Unsigned (binary c m) = Unit {0}
Unsigned (aggregate c m n) = Unit {0}
Unsigned (call f n) = Unit {0}

module _ {page starts firsts : List ℕ} {j : ℕ} (t : Tables page starts firsts (suc j)) where
  -- on a record attached to a selector or subquery, which no number is
  part : (w : Wrapper) (n : Option ℕ) (u : Times) → Reads page starts j (wrapper w) → ((l : Literal) (node : Expr) → wrap w (NumberLiteral l) ≡ ok node → ⊥)
      → settled none no_times (tree_at page j) ≡ settled n u (tree_at page (j - 1)) → scalar_value (tree_at page j) ≡ none
  part w n u r refuses moves =
      let p = (wrapped t w r).pushed in
      ap scalar_value (sym (settled-nothing (tree_at page j)) ∙ moves) ∙ settled-value n u (tree_at page (j - 1))
      ∙ numberless (tree_at page (j - 1)) (λ l k. refuses l p.node (rw k at p.makes))

  itself : tree_at page j ≡ settled none no_times (tree_at page j)
  itself = sym (settled-nothing (tree_at page j))

  pub valueless : (item : Record) → Unsigned item → Reads page starts j item → scalar_value (tree_at page j) ≡ none
  valueless (leaf (number l)) h r = absurd h
  valueless (leaf (string x)) h r = ap scalar_value (leaf-tree t (string x) r)
  valueless (leaf (selector s)) h r = ap scalar_value (leaf-tree t (selector s) r)
  valueless (wrapper (range q)) h r = part (range q) (some q) no_times r
      (λ l node k. let z : ◌≡◌ {A = ℕ} 0 1 = cc in omega arith) (chain-range t none no_times q r)
  valueless (wrapper (subquery q s)) h r = joins-numberless (tree_at page j) (laid_out-subquery t j (omega arith) none no_times itself q s r).layout tt
  valueless (wrapper (at a)) h r = part (at a) none (with_at a no_times) r (λ l node k. let z : ◌≡◌ {A = ℕ} 0 1 = cc in omega arith) (chain-at t none no_times a r)
  valueless (wrapper (offset o)) h r = part (offset o) none (with_offset o no_times) r
      (λ l node k. let z : ◌≡◌ {A = ℕ} 0 1 = cc in omega arith) (chain-offset t none no_times o r)
  valueless (wrapper unary) h r = absurd h
  valueless (wrapper paren) h r = joins-numberless (tree_at page j) (laid_out-paren t j (omega arith) none no_times itself r).layout tt
  valueless (binary c m) h r = joins-numberless (tree_at page j) (laid_out-binary t j (omega arith) none no_times itself c m r).layout tt
  valueless (aggregate c m n) h r = joins-numberless (tree_at page j) (laid_out-aggregate t j (omega arith) none no_times itself c m n r).layout tt
  valueless (call f n) h r = joins-numberless (tree_at page j) (laid_out-call t j (omega arith) none no_times itself f n r).layout tt
