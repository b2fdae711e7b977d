-- The tables' starts, and numbers under unary records: what is read of them and the value that it gives the tree.
use Prim.Native.Nat.{ℕ, suc, ◌-◌, ◌≤◌, ◌<◌}
use native.Mathlib.Omega.{arith}
use mathlib.Core.Path.{◌≡◌, refl, sym, ap, subst, ◌∙◌}
use mathlib.Core.Bool.{Bool, true, false, not}
use mathlib.Core.List.{List}
use mathlib.Core.Option.{none, some}
use lib.ListN.{drop, get_or}
use Rattle.page.specs.Read.{got}
use Rattle.records.specs.Literal.{Literal, plus, minus, nan, negate}
use Rattle.records.specs.Record.{number, string, selector, range, subquery, at, offset, unary, paren, Record, leaf}
use Rattle.records.specs.Record.{wrapper, binary, aggregate, call, operands, read_record, record_kind}
use Rattle.ast.specs.Expr.{scalar_value}
use Rattle.ast.specs.Tables.{tree_at, Tables}
use Rattle.text.specs.LaidOut.{Reads}
use Rattle.text.proofs.OperandLaws.{fewer}
use Rattle.text.proofs.EntryLaws.{wrapped, leaf-tree, negated, unary-value}
use Rattle.text.proofs.ValueLaws.{signed, signed-none, signed-unary, Unsigned, valueless}
use Rattle.view.specs.View.{Starts, Numberless, KindAt, TakesAt, NumberAt, bare, turned}
use Rattle.view.proofs.KindLaws.{fields}

pub starts-of : {page starts firsts : List ℕ} {n : ℕ} → Tables page starts firsts n → Starts page starts n
starts-of {firsts = firsts} t = record { firsts = firsts; tables = t }

-- where it is not set, nothing is said
pub unmarked : (page : List ℕ) (i : ℕ) → Numberless page i false
unmarked page i k = cc

pub starts-fewer : {page starts : List ℕ} {n m : ℕ} → Starts page starts n → m ≤ n → Starts page starts m
starts-fewer s h = record { firsts = s.firsts; tables = fewer s.tables h }

-- the number that is read is the tree's
pub number-value : {page starts : List ℕ} {i : ℕ} {l : Literal} → Starts page starts (suc i) → NumberAt page starts i l → scalar_value (tree_at page i) ≡ some l
number-value s (bare r) = ap scalar_value (leaf-tree s.tables (number _) r)
number-value s (turned r n) = unary-value s.tables r ∙ ap negated (number-value (starts-fewer s (omega arith)) n)

-- ## Down a chain of unary records

pub unary-reads : {page starts : List ℕ} {i : ℕ} → Starts page starts (suc i) → KindAt page starts i 7 → Reads page starts i (wrapper unary)
unary-reads s k = record { rest = _; reads = sym (fields s k) }

-- with the sign of so many unary records: under an odd count it is negated
abbrev pub with_sign : Bool → Literal → Literal
with_sign false l = l
with_sign true l = negate l

with_sign-negate : (odd : Bool) (l : Literal) → with_sign odd (negate l) ≡ with_sign (not odd) l
with_sign-negate false l = refl
with_sign-negate true (plus m) = refl
with_sign-negate true (minus m) = refl
with_sign-negate true nan = refl

-- the value of the tree that record i ends is that of record j's, with this sign, and so is the number that is read
pub record Descends (page starts : List ℕ) (i j : ℕ) (odd : Bool) : Type 0 where
  pub low : j ≤ i
  pub value : scalar_value (tree_at page i) ≡ signed odd (scalar_value (tree_at page j))
  pub number : (l : Literal) → NumberAt page starts j l → NumberAt page starts i (with_sign odd l)

pub descends-start : (page starts : List ℕ) (i : ℕ) → Descends page starts i i false
descends-start page starts i = record { low = omega arith; value = refl; number = λ l n. n }

-- a record that is no number and no unary one
other-kind : (item : Record) → (record_kind item ≡ 0 → ⊥) → (record_kind item ≡ 7 → ⊥) → Unsigned item
other-kind (leaf (number l)) h k = h refl
other-kind (leaf (string t)) h k = tt
other-kind (leaf (selector s)) h k = tt
other-kind (wrapper (range n)) h k = tt
other-kind (wrapper (subquery n s)) h k = tt
other-kind (wrapper (at a)) h k = tt
other-kind (wrapper (offset o)) h k = tt
other-kind (wrapper unary) h k = k refl
other-kind (wrapper paren) h k = tt
other-kind (binary c m) h k = tt
other-kind (aggregate c m n) h k = tt
other-kind (call f n) h k = tt

module _ {page starts : List ℕ} {i j : ℕ} {odd : Bool} (s : Starts page starts (suc i)) (d : Descends page starts i j odd) where
  pub descended : Starts page starts (suc j)
  descended = starts-fewer s (omega (arith, d.low))

  pub unary-some : KindAt page starts j 7 → 0 < j
  unary-some k = (wrapped descended.tables unary (unary-reads descended k)).last.some

  pub descends-unary : KindAt page starts j 7 → Descends page starts i (j - 1) (not odd)
  descends-unary k =
      let r = unary-reads descended k in
      record {
        low = omega (arith, d.low);
        value = d.value ∙ signed-unary descended.tables odd r;
        number = λ l n. subst (NumberAt page starts i) (with_sign-negate odd l) (d.number (negate l) (turned r n));
      }

  pub descends-number : {l : Literal} → Reads page starts j (leaf (number l)) → NumberAt page starts i (with_sign odd l)
  descends-number r = d.number _ (bare r)

  pub descends-other : {k : ℕ} → KindAt page starts j k → (k ≡ 0 → ⊥) → (k ≡ 7 → ⊥) → scalar_value (tree_at page i) ≡ none
  descends-other k h g =
      let other = other-kind k.item (λ e. h (sym k.same ∙ e)) (λ e. g (sym k.same ∙ e)) in
      d.value ∙ ap (signed odd) (valueless descended.tables k.item other k.reads) ∙ signed-none odd

-- ## Operands

pub takes : {page starts : List ℕ} {i count : ℕ} {item : Record} {rest : List ℕ}
    → got item rest ≡ read_record (drop (get_or starts i 0) page) → operands item ≡ count
    → TakesAt page starts i count
takes e n = record { item = _; reads = record { rest = _; reads = e }; takes = n }
