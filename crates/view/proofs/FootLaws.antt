-- What the record at the foot of a node gives it, one law for all kinds of record (`laid_out-item`): its layout, under
-- what the records above set, and its operands. Shape and count go by the foot's kind, which two short tables hold.
use Prim.Native.Nat.{ℕ, suc}
use native.Mathlib.Omega.{arith}
use mathlib.Core.Path.{◌≡◌, refl, sym, ap, subst, ◌∙◌}
use mathlib.Core.Bool.{false, true≢false}
use mathlib.Core.List.{List, [], ◌∷◌, ◌++◌}
use mathlib.Core.Option.{Option, none}
use lib.ListN.{get_or}
use Rattle.records.specs.Time.{Times}
use Rattle.records.specs.Record.{number, string, selector, range, subquery, at, offset, unary, paren, Record, leaf}
use Rattle.records.specs.Record.{wrapper, binary, aggregate, call, operands, record_kind}
use Rattle.leaves.specs.Numeral.{display_literal}
use Rattle.leaves.specs.Escape.{quote}
use Rattle.ast.specs.Expr.{scalar_value}
use Rattle.ast.specs.Tables.{tree_at}
use Rattle.text.specs.Display.{display_selector, display_times, display_suffix, display_operator, display_aggregator}
use Rattle.text.specs.Layout.{Layout, whole, negation, suffixed, enclosed, infixed, display_range, layout_of, head, operator, suffix}
use Rattle.text.specs.LaidOut.{Reads, LaidOut}
use Rattle.text.proofs.LaidOutLaws.{laid_out-number, laid_out-string, laid_out-selector, laid_out-subquery, laid_out-paren}
use Rattle.text.proofs.LaidOutLaws.{laid_out-literal, laid_out-unary, laid_out-binary, laid_out-aggregate, laid_out-call}
use Rattle.view.specs.View.{Starts, KindAt, is_attached, Sets, Valued, FootAt, shape_of, shaped}
use Rattle.view.specs.declared.Foot.{Foot}
use Rattle.view.specs.declared.Foot.TheVariants as foot
use Rattle.view.specs.declared.shape.Shape.{Shape}
use Rattle.view.specs.declared.shape.Shape.TheVariants as shape
use Rattle.view.proofs.ViewLaws.{number-value}
use Rattle.view.proofs.ChainedLaws.{sets-low, sets-here, sets-tree}

-- ## The layout by the record

-- the layout of a node with this record at its foot, this range and these times above it; an attached record is the
-- foot of none
abbrev pub layout_by : Record → Option ℕ → Times → Layout
layout_by (leaf (number l)) n u = whole (display_literal l)
layout_by (leaf (string t)) n u = whole (quote t)
layout_by (leaf (selector s)) n u = whole (display_selector s ++ (display_range n ++ display_times u))
layout_by (wrapper (range r)) n u = whole []
layout_by (wrapper (subquery r s)) n u = suffixed (display_suffix r s u)
layout_by (wrapper (at a)) n u = whole []
layout_by (wrapper (offset o)) n u = whole []
layout_by (wrapper unary) n u = negation
layout_by (wrapper paren) n u = enclosed []
layout_by (binary c m) n u = infixed (display_operator c m)
layout_by (aggregate c m k) n u = enclosed (display_aggregator c m)
layout_by (call f k) n u = enclosed f.name

module _ {page starts : List ℕ} {i j : ℕ} {n : Option ℕ} {u : Times} (s : Starts page starts (suc i)) (above : Sets page starts i j n u) where
  pub laid_out-item : (item : Record) → Reads page starts j item → is_attached (record_kind item) ≡ false
      → (record_kind item ≡ 7 → scalar_value (tree_at page j) ≡ none)
      → LaidOut page i (layout_by item n u) j (operands item)
  laid_out-item (leaf (number l)) r h v = laid_out-number s.tables j (sets-low above) n u (sets-tree s above) l r
  laid_out-item (leaf (string t)) r h v = laid_out-string s.tables j (sets-low above) n u (sets-tree s above) t r
  laid_out-item (leaf (selector t)) r h v = laid_out-selector s.tables j (sets-low above) n u (sets-tree s above) t r
  laid_out-item (wrapper (range q)) r h v = absurd (true≢false h)
  laid_out-item (wrapper (subquery q t)) r h v = laid_out-subquery s.tables j (sets-low above) n u (sets-tree s above) q t r
  laid_out-item (wrapper (at a)) r h v = absurd (true≢false h)
  laid_out-item (wrapper (offset o)) r h v = absurd (true≢false h)
  laid_out-item (wrapper unary) r h v = laid_out-unary s.tables j (sets-low above) n u (sets-tree s above) r (v refl)
  laid_out-item (wrapper paren) r h v = laid_out-paren s.tables j (sets-low above) n u (sets-tree s above) r
  laid_out-item (binary c m) r h v = laid_out-binary s.tables j (sets-low above) n u (sets-tree s above) c m r
  laid_out-item (aggregate c m k) r h v = laid_out-aggregate s.tables j (sets-low above) n u (sets-tree s above) c m k r
  laid_out-item (call f k) r h v = laid_out-call s.tables j (sets-low above) n u (sets-tree s above) f k r

  pub laid_out-valued : (v : Valued page starts j) → LaidOut page i (whole (display_literal v.value)) j 0
  laid_out-valued v = laid_out-literal s.tables j (sets-low above) n u (sets-tree s above) v.value (number-value (sets-here s above) v.is)

-- ## Shape and count by the kind

-- by kinds from 0 on; those of attached records do not matter
abbrev shapes : List Shape
shapes =
    shape.Whole ∷ shape.Whole ∷ shape.Whole ∷ shape.Whole ∷ shape.Suffixed ∷ shape.Whole ∷ shape.Whole ∷ shape.Minus
    ∷ shape.Enclosed ∷ shape.Infixed ∷ shape.Enclosed
    ∷ shape.Enclosed ∷ []

abbrev shape_by : ℕ → Shape
shape_by kind = get_or shapes kind shape.Whole

-- the operands of kinds 0 to 9; aggregates and calls say theirs
abbrev pub counts : List ℕ
counts = 0 ∷ 0 ∷ 0 ∷ 1 ∷ 1 ∷ 1 ∷ 1 ∷ 1 ∷ 1 ∷ 2 ∷ []

-- the shape of a layout
abbrev layout_shape : Layout → Shape
layout_shape (whole t) = shape.Whole
layout_shape negation = shape.Minus
layout_shape (suffixed t) = shape.Suffixed
layout_shape (enclosed t) = shape.Enclosed
layout_shape (infixed t) = shape.Infixed

pub shape-shaped : (l : Layout) → l ≡ shaped (layout_shape l) (head l) (operator l) (suffix l)
shape-shaped (whole t) = refl
shape-shaped negation = refl
shape-shaped (suffixed t) = refl
shape-shaped (enclosed t) = refl
shape-shaped (infixed t) = refl

by_kind : (item : Record) (n : Option ℕ) (u : Times)
    → (layout_shape (layout_by item n u) ≡ shape_by (record_kind item))
    × (operands item ≡ get_or counts (record_kind item) (operands item))
by_kind (leaf (number l)) n u = (refl, refl)
by_kind (leaf (string t)) n u = (refl, refl)
by_kind (leaf (selector s)) n u = (refl, refl)
by_kind (wrapper (range r)) n u = (refl, refl)
by_kind (wrapper (subquery r s)) n u = (refl, refl)
by_kind (wrapper (at a)) n u = (refl, refl)
by_kind (wrapper (offset o)) n u = (refl, refl)
by_kind (wrapper unary) n u = (refl, refl)
by_kind (wrapper paren) n u = (refl, refl)
by_kind (binary c m) n u = (refl, refl)
by_kind (aggregate c m k) n u = (refl, refl)
by_kind (call f k) n u = (refl, refl)

module _ {page starts : List ℕ} {i j : ℕ} {n : Option ℕ} {u : Times} (s : Starts page starts (suc i)) (above : Sets page starts i j n u) where
  -- a foot of this kind, whose minus is no sign of a number
  module _ {kind : ℕ} (k : KindAt page starts j kind) (h : is_attached kind ≡ false) (v : kind ≡ 7 → scalar_value (tree_at page j) ≡ none) where
    item-laid_out : LaidOut page i (layout_by k.item n u) j (operands k.item)
    item-laid_out = laid_out-item s above k.item k.reads (ap is_attached k.same ∙ h) (λ e. v (sym k.same ∙ e))

    kind-shape : layout_shape (layout_of (tree_at page i)) ≡ shape_by kind
    kind-shape = ap layout_shape item-laid_out.layout ∙ (by_kind k.item n u).0 ∙ ap shape_by k.same

    -- with the operands that the record says
    pub laid_out-kind : {count : ℕ} → operands k.item ≡ count → LaidOut page i (layout_of (tree_at page i)) j count
    laid_out-kind e = subst (λ (c : ℕ). LaidOut page i (layout_of (tree_at page i)) j c) e
        (subst (λ (own : Layout). LaidOut page i own j (operands k.item)) (sym item-laid_out.layout)
        item-laid_out)

    -- with the operands of all records of its kind
    pub laid_out-fixed : (count : ℕ) → ((c : ℕ) → get_or counts kind c ≡ count) → LaidOut page i (layout_of (tree_at page i)) j count
    laid_out-fixed count few = laid_out-kind ((by_kind k.item n u).1 ∙ ap (λ (m : ℕ). get_or counts m (operands k.item)) k.same ∙ few _)

  pub foot-shape : (f : Foot) → FootAt page starts j f → layout_shape (layout_of (tree_at page i)) ≡ shape_of f
  foot-shape foot.Number v = ap layout_shape (laid_out-valued s above v).layout
  foot-shape foot.String k = kind-shape k refl (λ e. absurd (omega (arith, e)))
  foot-shape foot.Selector k = kind-shape k refl (λ e. absurd (omega (arith, e)))
  foot-shape foot.Subquery k = kind-shape k refl (λ e. absurd (omega (arith, e)))
  foot-shape foot.Unary m = kind-shape m.kind refl (λ e. m.valueless)
  foot-shape foot.Paren k = kind-shape k refl (λ e. absurd (omega (arith, e)))
  foot-shape foot.Binary k = kind-shape k refl (λ e. absurd (omega (arith, e)))
  foot-shape foot.Aggregate k = kind-shape k refl (λ e. absurd (omega (arith, e)))
  foot-shape foot.Call k = kind-shape k refl (λ e. absurd (omega (arith, e)))
