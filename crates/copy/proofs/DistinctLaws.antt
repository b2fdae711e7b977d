-- Trees that differ in a field which prints alike, or which a float comparison does not see (document 02, No. 14: "with
-- NaN like NaN, minus zero distinct from zero, offset minus 0 from plus 0, and an absent modifier from an empty one"). By
-- `one-copy` pages with these trees have other copies. Assumes nothing.
use Prim.Native.Nat.{ℕ}
use mathlib.Core.Path.{◌≡◌, refl, sym, ap, ◌∙◌}
use mathlib.Core.Bool.{true, false}
use mathlib.Core.List.{List, ◌∷◌}
use mathlib.Core.Option.{none, some, none-ne-some, some-injective}
use native.Mathlib.Omega.{arith}
use Rattle.page.specs.Read.{got}
use Rattle.page.specs.Text.{Text}
use Rattle.records.specs.Field.{Labels}
use Rattle.records.specs.Literal.{Magnitude, plus, minus, nan, negate, read_literal}
use Rattle.records.specs.Matcher.{MatchOp, re, not_re, Matcher, matcher_of, Selector}
use Rattle.records.specs.Modifier.{LabelModifier, include, exclude, BinModifier}
use Rattle.records.specs.Time.{Times, Offset, pos, neg}
use Rattle.ast.specs.Expr.{Expr, Aggregate, AggregateParam, Binary, Subquery, NumberLiteral, VectorSelector, times_of, with_times}
use Rattle.copy.proofs.TimesLaws.{timed, with_offset}

-- ## Numbers

-- NaN is one literal: its form says all, and its negation is itself
pub nan-one : (rest : List ℕ) → read_literal (2 ∷ rest) ≡ got nan rest
nan-one rest = refl

pub nan-negated : NumberLiteral (negate nan) ≡ NumberLiteral nan
nan-negated = refl

-- plus and minus of one magnitude: 0 and minus 0
pub number-signs : (m : Magnitude) → NumberLiteral (plus m) ≡ NumberLiteral (minus m) → ⊥
number-signs m e = let z : ◌≡◌ {A = ℕ} 0 1 = cc in omega arith

-- ## @ and offset

-- a tree has the times that it is given
times-injective : (e : Expr) (t u v : Times) → times_of e ≡ some t → with_times u e ≡ with_times v e → u ≡ v
times-injective e t u v is same =
    some-injective u v (sym ((timed e t is).is_timed u) ∙ ap times_of same ∙ (timed e t is).is_timed v)

-- so many milliseconds back and ahead: `offset 0s` and `offset -0s`
pub offset-signs : (e : Expr) (t : Times) (n : ℕ) → times_of e ≡ some t
    → with_times (with_offset (pos n) t) e ≡ with_times (with_offset (neg n) t) e → ⊥
offset-signs e t n is same =
    let times : with_offset (pos n) t ≡ with_offset (neg n) t = times-injective e t (with_offset (pos n) t) (with_offset (neg n) t) is same in
    let offsets : some (pos n) ≡ some (neg n) = ap (λ (x : Times). x.offset) times in
    let z : ◌≡◌ {A = ℕ} 0 1 = cc in
    omega arith

-- no offset, and any: none and `offset 0s`
pub offset-absent : (e : Expr) (t : Times) (o : Offset) → times_of e ≡ some t
    → with_times (record { at = t.at; offset = none }) e ≡ with_times (with_offset o t) e → ⊥
offset-absent e t o is same =
    none-ne-some o
    (ap (λ (x : Times). x.offset) (times-injective e t (record { at = t.at; offset = none }) (with_offset o t) is same))

-- ## Modifiers

-- no modifier, and any: an empty one. Of a set operator both become many-to-many before the tree is made
pub modifier-absent : (c : ℕ) (m : BinModifier) (l r : Expr) → Binary c none l r ≡ Binary c (some m) l r → ⊥
modifier-absent c m l r e = let z : ◌≡◌ {A = ℕ} 0 1 = cc in omega arith

pub grouping-absent : (c : ℕ) (m : LabelModifier) (e : Expr) → Aggregate c none e ≡ Aggregate c (some m) e → ⊥
grouping-absent c m e same = let z : ◌≡◌ {A = ℕ} 0 1 = cc in omega arith

pub grouping-absent-param : (c : ℕ) (m : LabelModifier) (p e : Expr) → AggregateParam c none p e ≡ AggregateParam c (some m) p e → ⊥
grouping-absent-param c m p e same = let z : ◌≡◌ {A = ℕ} 0 1 = cc in omega arith

-- `by ()` and `without ()`
pub grouping-sides : (c : ℕ) (ls : Labels) (e : Expr) → Aggregate c (some (include ls)) e ≡ Aggregate c (some (exclude ls)) e → ⊥
grouping-sides c ls e same = let z : ◌≡◌ {A = ℕ} 0 1 = cc in omega arith

-- no step, and any
pub step-absent : (e : Expr) (r s : ℕ) (t : Times) → Subquery e r none t ≡ Subquery e r (some s) t → ⊥
step-absent e r s t same = let z : ◌≡◌ {A = ℕ} 0 1 = cc in omega arith

-- ## Matchers

-- a pattern's flag, beside `=~` and beside `!~`: the rest of the selector is the same
module _ (name label value : Text) (more : List Matcher) (t : Times) where
  abbrev selector_with : MatchOp → Expr
  selector_with o = VectorSelector (record { name = name; matchers = matcher_of o label value ∷ more }) t

  first-op : (o q : MatchOp) → selector_with o ≡ selector_with q → o ≡ q
  first-op o q e =
      let selectors : ◌≡◌ {A = Selector} (record { name = name; matchers = matcher_of o label value ∷ more })
      (record { name = name; matchers = matcher_of q label value ∷ more }) = cc in
      let matchers : matcher_of o label value ∷ more ≡ matcher_of q label value ∷ more = ap (λ (x : Selector). x.matchers) selectors in
      let first : matcher_of o label value ≡ matcher_of q label value = cc in
      ap (λ (x : Matcher). x.op) first

  pub flags-distinct : selector_with (re false) ≡ selector_with (re true) → ⊥
  flags-distinct e = let same = first-op (re false) (re true) e in let z : ◌≡◌ {A = ℕ} 0 1 = cc in omega arith

  pub not-flags-distinct : selector_with (not_re false) ≡ selector_with (not_re true) → ⊥
  not-flags-distinct e = let same = first-op (not_re false) (not_re true) e in let z : ◌≡◌ {A = ℕ} 0 1 = cc in omega arith
