-- A record ends one node only (`viewed-one`): its top is the record, its base the first record down from it that is no
-- part, its foot goes by the record there and its value, its count is that of the tree's operands.
use Prim.Native.Nat.{ℕ, suc, ◌≤◌, ◌<◌}
use native.Mathlib.Omega.{arith}
use mathlib.Core.Path.{◌≡◌, refl, sym, ap, subst, ◌∙◌}
use mathlib.Core.Bool.{false, false≢true}
use mathlib.Core.List.{List, [], ◌∷◌}
use mathlib.Core.Option.{Option, none, some}
use lib.ListN.{length, take, get_or, length-take, length-reverse}
use Rattle.base.proofs.Cases.{by-lt}
use Rattle.records.specs.Literal.{Literal}
use Rattle.records.specs.Record.{Record, record_kind}
use Rattle.ast.specs.Expr.{scalar_value}
use Rattle.ast.specs.Tables.{tree_at, stack_at}
use Rattle.text.specs.Layout.{Layout, children}
use Rattle.text.specs.LaidOut.{Reads, LaidOut}
use Rattle.view.specs.View.{Starts, is_attached, AttachedAt, NumberAt, bare, turned, FootAt, Viewed}
use Rattle.view.specs.declared.Foot.{Foot}
use Rattle.view.specs.declared.Foot.TheVariants as foot
use Rattle.view.specs.declared.Node.{Node}
use Rattle.view.proofs.KindLaws.{reads_same, kind-same, kind-first}
use Rattle.view.proofs.ViewLaws.{number-value}
use Rattle.view.proofs.ChainedLaws.{sets-low, sets-attached, chained-here}

-- ## The foot

-- a unary record is the sign of a number, or a minus
abbrev minus_by : Option Literal → Foot
minus_by none = foot.Unary
minus_by (some l) = foot.Number

-- by the kind of the record, from 0 on, and the value of its tree; those of attached records do not matter
abbrev foot_by : ℕ → Option Literal → Foot
foot_by kind v =
    get_or
    (foot.Number ∷ foot.String ∷ foot.Selector ∷ foot.Call ∷ foot.Subquery ∷ foot.Call ∷ foot.Call ∷ minus_by v
    ∷ foot.Paren ∷ foot.Binary ∷ foot.Aggregate ∷ foot.Call ∷ [])
    kind foot.Call

module _ {page starts : List ℕ} {j : ℕ} (s : Starts page starts (suc j)) {item : Record} (r : Reads page starts j item) where
  abbrev FootBy : Foot → Type 0
  FootBy f = (f ≡ foot_by (record_kind item) (scalar_value (tree_at page j))) × (is_attached (record_kind item) ≡ false)

  of-kind : {f : Foot} (kind : ℕ) → record_kind item ≡ kind → f ≡ foot_by kind (scalar_value (tree_at page j)) → is_attached kind ≡ false → FootBy f
  of-kind kind k e h = (e ∙ ap (λ (n : ℕ). foot_by n (scalar_value (tree_at page j))) (sym k), ap is_attached k ∙ h)

  of_number : {l : Literal} → NumberAt page starts j l → scalar_value (tree_at page j) ≡ some l → FootBy foot.Number
  of_number (bare n) v = of-kind 0 (ap record_kind (reads_same r n)) refl refl
  of_number (turned u n) v = of-kind 7 (ap record_kind (reads_same r u)) (ap minus_by (sym v)) refl

  foot-by : (f : Foot) → FootAt page starts j f → FootBy f
  foot-by foot.Number v = of_number v.is (number-value s v.is)
  foot-by foot.String k = of-kind 1 (kind-same k r) refl refl
  foot-by foot.Selector k = of-kind 2 (kind-same k r) refl refl
  foot-by foot.Subquery k = of-kind 4 (kind-same k r) refl refl
  foot-by foot.Unary m = of-kind 7 (kind-same m.kind r) (ap minus_by (sym m.valueless)) refl
  foot-by foot.Paren k = of-kind 8 (kind-same k r) refl refl
  foot-by foot.Binary k = of-kind 9 (kind-same k r) refl refl
  foot-by foot.Aggregate k = of-kind 10 (kind-same k r) refl refl
  foot-by foot.Call k = of-kind 11 (kind-same k r) refl refl

-- a foot is no range, @ or offset
foot-no-part : {page starts : List ℕ} {j : ℕ} → Starts page starts (suc j) → (f : Foot) → FootAt page starts j f → AttachedAt page starts j → ⊥
foot-no-part s f at' p =
    let is = p.stands in
    false≢true (sym (foot-by s is.reads f at').1 ∙ ap is_attached is.same ∙ p.part)

-- ## The node

-- so many operands as the tree has
count-is : {page : List ℕ} {i end count : ℕ} {own : Layout} → LaidOut page i own end count → length (children (tree_at page i)) ≡ count
count-is {page} {i} {end} {count} s =
    let size = ap length s.operands ∙ length-reverse (take count (stack_at page end)) ∙ length-take count (stack_at page end) in
    omega (arith, size, s.enough)

module _ {page starts : List ℕ} {i : ℕ} where
  base-low : {a b : Node} → Viewed page starts i a → Viewed page starts i b → a.base < b.base → ⊥
  base-low {a} {b} v w h =
      let low : b.base ≤ a.top = omega (arith, v.is_top, w.is_top, sets-low w.stands.chain.sets) in
      foot-no-part (chained-here w.stands.known w.stands.chain) b.foot w.stands.foot (sets-attached v.stands.chain.sets h low)

  base-is : {a b : Node} → Viewed page starts i a → Viewed page starts i b → a.base ≡ b.base
  base-is {a} {b} v w =
      by-lt a.base b.base (λ h. absurd (base-low v w h))
      (λ low. by-lt b.base a.base (λ h. absurd (base-low w v h)) (λ high. omega (arith, low, high)))

  foot-is : {a b : Node} → Viewed page starts i a → Viewed page starts i b → a.foot ≡ b.foot
  foot-is {a} {b} v w =
      let s = chained-here w.stands.known w.stands.chain in
      let left = foot-by s (kind-first s).reads a.foot (subst (λ (j : ℕ). FootAt page starts j a.foot) (base-is v w) v.stands.foot) in
      left.0 ∙ sym (foot-by s (kind-first s).reads b.foot w.stands.foot).0

  pub viewed-one : {a b : Node} → Viewed page starts i a → Viewed page starts i b → a ≡ b
  viewed-one {a} {b} v w = same (foot-is v w) (v.is_top ∙ sym w.is_top) (base-is v w) (sym (count-is v.laid_out) ∙ count-is w.laid_out)
    where
      same : {f g : Foot} {t u j k m n : ℕ} → f ≡ g → t ≡ u → j ≡ k → m ≡ n
          → ◌≡◌ {A = Node} (record { foot = f; top = t; base = j; count = m }) (record { foot = g; top = u; base = k; count = n })
      same f t j n = cc
