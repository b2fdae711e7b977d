-- What the contracts of this crate say holds of one answer only, however it prints: what is read at the same record is
-- the same. At the end fields that print alike, which their text would not tell apart.
use Prim.Native.Nat.{ℕ, suc, ◌-◌, ◌<◌}
use native.Mathlib.Omega.{arith}
use mathlib.Core.Path.{◌≡◌, refl, sym, ap, subst, ◌∙◌}
use mathlib.Core.Bool.{false}
use mathlib.Core.List.{List, []}
use mathlib.Core.Option.{Option, none, some}
use Rattle.page.specs.Text.{Text}
use Rattle.page.specs.Answers.{span_on}
use Rattle.page.specs.declared.text.Span.{Span}
use Rattle.records.specs.Literal.{Literal}
use Rattle.records.specs.Matcher.{Selector}
use Rattle.records.specs.Modifier.{LabelModifier, include, exclude, Cardinality, one_to_one, many_to_many, BinModifier}
use Rattle.records.specs.Time.{Times}
use Rattle.records.specs.Record.{string, selector, Wrapper, leaf, wrapper, binary, record_kind}
use Rattle.text.specs.Display.{display_operator, display_aggregator}
use Rattle.text.specs.LaidOut.{Reads}
use Rattle.text.proofs.EntryLaws.{wrapped}
use Rattle.fields.specs.Fields.{CallAt, AggregateAt}
use Rattle.view.specs.View.{Starts, NumberAt, Sets, sets_nothing, sets_range, sets_at, sets_offset}
use Rattle.view.proofs.KindLaws.{reads_same}
use Rattle.view.proofs.ViewLaws.{number-value}
use Rattle.view.proofs.ChainedLaws.{sets-low, sets-here}

-- ## The foot

module _ {page starts : List ℕ} {i : ℕ} where
  pub literal-one : {l m : Literal} → Starts page starts (suc i) → NumberAt page starts i l → NumberAt page starts i m → l ≡ m
  literal-one s a b = same (sym (number-value s a) ∙ number-value s b)
    where
      same : {l m : Literal} → some l ≡ some m → l ≡ m
      same h = cc

  pub string-one : {t u : Text} → Reads page starts i (leaf (string t)) → Reads page starts i (leaf (string u)) → t ≡ u
  string-one a b = let h = reads_same a b in cc

  pub selector-one : {s t : Selector} → Reads page starts i (leaf (selector s)) → Reads page starts i (leaf (selector t)) → s ≡ t
  selector-one a b = let h = reads_same a b in cc

  pub operator-one : {c d : ℕ} {m n : Option BinModifier} → Reads page starts i (binary c m) → Reads page starts i (binary d n) → (c ≡ d) × (m ≡ n)
  operator-one a b = let h = reads_same a b in (cc, cc)

  pub aggregator-one : {c d : ℕ} {g h : Option LabelModifier} → AggregateAt page starts i c g → AggregateAt page starts i d h → (c ≡ d) × (g ≡ h)
  aggregator-one a b = let h = reads_same a.reads b.reads in (cc, cc)

  -- the whole function, and so its name
  pub function-one : {s t : Span} (a : CallAt page starts i s) (b : CallAt page starts i t) → (a.function ≡ b.function) × (span_on page s ≡ span_on page t)
  function-one a b = let h = reads_same a.reads b.reads in (cc, cc)

-- ## The records above it

module _ {page starts : List ℕ} {i : ℕ} (s : Starts page starts (suc i)) where
  not_first : {j : ℕ} {w : Wrapper} {n : Option ℕ} {u : Times} → Reads page starts j (wrapper w) → Sets page starts i j n u → 0 < j
  not_first r t = (wrapped (sets-here s t).tables _ r).last.some

  -- one that passes a record is not at the end
  passes : {j : ℕ} {w : Wrapper} {n : Option ℕ} {u : Times} → i ≡ j - 1 → Reads page starts j (wrapper w) → Sets page starts i j n u → ⊥
  passes e r t = omega (arith, e, not_first r t, sets-low t)

  module _ {j k : ℕ} {v w : Wrapper} {n m : Option ℕ} {t u : Times} (e : j - 1 ≡ k - 1) (q : Reads page starts j (wrapper v)) (x : Sets page starts i j n t)
      (r : Reads page starts k (wrapper w)) (y : Sets page starts i k m u) where
    same-record : j ≡ k
    same-record = omega (arith, e, not_first q x, not_first r y)

    same-wrapper : v ≡ w
    same-wrapper = let h = reads_same q (subst (λ (p : ℕ). Reads page starts p (wrapper w)) (sym same-record) r) in cc

    same_kind : record_kind (wrapper v) ≡ record_kind (wrapper w)
    same_kind = ap (λ (x : Wrapper). record_kind (wrapper x)) same-wrapper

  attached-same : {j k : ℕ} {n m : Option ℕ} {t u : Times} → j ≡ k → Sets page starts i j n t → Sets page starts i k m u → (n ≡ m) × (t ≡ u)
  attached-same e sets_nothing sets_nothing = (refl, refl)
  attached-same e sets_nothing (sets_range r y) = absurd (passes e r y)
  attached-same e sets_nothing (sets_at r y) = absurd (passes e r y)
  attached-same e sets_nothing (sets_offset r y) = absurd (passes e r y)
  attached-same e (sets_range q x) sets_nothing = absurd (passes (sym e) q x)
  attached-same e (sets_at q x) sets_nothing = absurd (passes (sym e) q x)
  attached-same e (sets_offset q x) sets_nothing = absurd (passes (sym e) q x)
  attached-same e (sets_range q x) (sets_range r y) =
      let h = same-wrapper e q x r y in
      let more = attached-same (same-record e q x r y) x y in
      (cc, more.1)
  attached-same e (sets_range q x) (sets_at r y) = absurd (omega (arith, same_kind e q x r y))
  attached-same e (sets_range q x) (sets_offset r y) = absurd (omega (arith, same_kind e q x r y))
  attached-same e (sets_at q x) (sets_range r y) = absurd (omega (arith, same_kind e q x r y))
  attached-same e (sets_at q x) (sets_at r y) =
      let h = same-wrapper e q x r y in
      let more = attached-same (same-record e q x r y) x y in
      (more.0, cc)
  attached-same e (sets_at q x) (sets_offset r y) = absurd (omega (arith, same_kind e q x r y))
  attached-same e (sets_offset q x) (sets_range r y) = absurd (omega (arith, same_kind e q x r y))
  attached-same e (sets_offset q x) (sets_at r y) = absurd (omega (arith, same_kind e q x r y))
  attached-same e (sets_offset q x) (sets_offset r y) =
      let h = same-wrapper e q x r y in
      let more = attached-same (same-record e q x r y) x y in
      (more.0, cc)

  pub attached-one : {j : ℕ} {n m : Option ℕ} {t u : Times} → Sets page starts i j n t → Sets page starts i j m u → (n ≡ m) × (t ≡ u)
  attached-one = attached-same refl

-- ## Fields that print alike, and are not taken for one another

never : {A : Type 0} {a : A} → some a ≡ none → ⊥
never h = let z : ◌≡◌ {A = ℕ} 0 1 = cc in omega arith

abbrev modifier_of : Option LabelModifier → Cardinality → BinModifier
modifier_of m c = record { return_bool = false; matching = m; card = c; fill_values = record { lhs = none; rhs = none } }

module _ {page starts : List ℕ} {i : ℕ} (c : ℕ) where
  -- `by ()`, and no grouping
  by-nothing : (display_aggregator c (some (include [])) ≡ display_aggregator c none)
      × (AggregateAt page starts i c (some (include [])) → AggregateAt page starts i c none → ⊥)
  by-nothing = (refl, λ a b. never (aggregator-one a b).1)

  -- `ignoring ()` or many-to-many, and no modifier
  ignoring-nothing : (display_operator c (some (modifier_of (some (exclude [])) one_to_one)) ≡ display_operator c none)
      × (Reads page starts i (binary c (some (modifier_of (some (exclude [])) one_to_one))) → Reads page starts i (binary c none) → ⊥)
  ignoring-nothing = (refl, λ a b. never (operator-one a b).1)

  many-to-many : (display_operator c (some (modifier_of none many_to_many)) ≡ display_operator c none)
      × (Reads page starts i (binary c (some (modifier_of none many_to_many))) → Reads page starts i (binary c none) → ⊥)
  many-to-many = (refl, λ a b. never (operator-one a b).1)
