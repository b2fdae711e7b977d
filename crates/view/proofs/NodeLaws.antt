-- The node of record i, from the record at its foot; and what is known of a node: its layout is that of what is read at
-- its foot (`layout-read`, and `number-layout` of a number with its signs).
use Prim.Native.Nat.{ℕ, suc, ◌+◌, ◌-◌}
use native.Mathlib.Omega.{arith}
use mathlib.Core.Path.{◌≡◌, refl, sym, ap, ◌∙◌}
use mathlib.Core.Bool.{Bool, true, false, ◌||◌, true≢false, false≢true}
use mathlib.Core.List.{List}
use mathlib.Core.Option.{Option, none}
use lib.ListN.{drop, get_or}
use lib.Dec.{eqb}
use borrow.Author.Tests.{eqb-false}
use Rattle.records.specs.Literal.{Literal, read_literal}
use Rattle.records.specs.Time.{Times}
use Rattle.records.specs.Record.{number, string, selector, range, subquery, at, offset, unary, paren, Record, leaf}
use Rattle.records.specs.Record.{wrapper, binary, aggregate, call, operands, record_kind}
use Rattle.leaves.specs.Numeral.{display_literal}
use Rattle.ast.specs.Expr.{scalar_value}
use Rattle.ast.specs.Tables.{tree_at}
use Rattle.text.specs.Layout.{whole, layout_of, head, operator, suffix}
use Rattle.text.specs.LaidOut.{Reads, LaidOut}
use Rattle.text.proofs.ValueLaws.{settled-value}
use Rattle.view.specs.View.{Starts, KindAt, TakesAt, is_attached, Sets, Chained, FootOf, NumberAt, bare, Valued}
use Rattle.view.specs.View.{Numberless, FootAt, NodeAt, layout_at, Viewed, is_minus, shape_of, shaped}
use Rattle.view.specs.declared.Foot.{Foot}
use Rattle.view.specs.declared.Foot.TheVariants as foot
use Rattle.view.specs.declared.Node.{Node}
use Rattle.view.specs.declared.shape.Shape.{Shape}
use Rattle.view.specs.declared.shape.Shape.TheVariants as shape
use Rattle.view.proofs.KindLaws.{reads_same, kind-same, fields, readable}
use Rattle.view.proofs.ChainedLaws.{sets-tree, chained-here}
use Rattle.view.proofs.FootLaws.{layout_by, laid_out-item, laid_out-valued, shape-shaped, foot-shape, counts, laid_out-kind, laid_out-fixed}

-- ## Views

module _ {page starts : List ℕ} {i j : ℕ} (s : Starts page starts (suc i)) (chain : Chained page starts i j) where
  viewed : (f : Foot) (count : ℕ) → FootAt page starts j f → LaidOut page i (layout_of (tree_at page i)) j count
      → Viewed page starts i (record { foot = f; top = i; base = j; count = count })
  viewed f count at' w = record { is_top = refl; laid_out = w; stands = record { known = s; chain = chain; foot = at' } }

  -- a kind with a fixed count of operands
  fixed : {kind : ℕ} (count : ℕ) → is_attached kind ≡ false → (kind ≡ 7 → scalar_value (tree_at page j) ≡ none)
      → ((n : ℕ) → get_or counts kind n ≡ count) → KindAt page starts j kind
      → LaidOut page i (layout_of (tree_at page i)) j count
  fixed count h v few k = laid_out-fixed s chain.sets k h v count few

  pub view-string : KindAt page starts j 1 → Viewed page starts i (record { foot = foot.String; top = i; base = j; count = 0 })
  view-string k = viewed foot.String 0 k (fixed 0 refl (λ e. absurd (omega (arith, e))) (λ n. refl) k)

  pub view-selector : KindAt page starts j 2 → Viewed page starts i (record { foot = foot.Selector; top = i; base = j; count = 0 })
  view-selector k = viewed foot.Selector 0 k (fixed 0 refl (λ e. absurd (omega (arith, e))) (λ n. refl) k)

  pub view-subquery : KindAt page starts j 4 → Viewed page starts i (record { foot = foot.Subquery; top = i; base = j; count = 1 })
  view-subquery k = viewed foot.Subquery 1 k (fixed 1 refl (λ e. absurd (omega (arith, e))) (λ n. refl) k)

  pub view-paren : KindAt page starts j 8 → Viewed page starts i (record { foot = foot.Paren; top = i; base = j; count = 1 })
  view-paren k = viewed foot.Paren 1 k (fixed 1 refl (λ e. absurd (omega (arith, e))) (λ n. refl) k)

  pub view-binary : KindAt page starts j 9 → Viewed page starts i (record { foot = foot.Binary; top = i; base = j; count = 2 })
  view-binary k = viewed foot.Binary 2 k (fixed 2 refl (λ e. absurd (omega (arith, e))) (λ n. refl) k)

  -- aggregates and calls: what the record itself says
  taking : {kind count : ℕ} → is_attached kind ≡ false → (kind ≡ 7 → scalar_value (tree_at page j) ≡ none)
      → KindAt page starts j kind → TakesAt page starts j count
      → LaidOut page i (layout_of (tree_at page i)) j count
  taking h v k t = laid_out-kind s chain.sets k h v (ap operands (reads_same k.reads t.reads) ∙ t.takes)

  pub view-aggregate : {count : ℕ} → KindAt page starts j 10 → TakesAt page starts j count
      → Viewed page starts i (record { foot = foot.Aggregate; top = i; base = j; count = count })
  view-aggregate k t = viewed foot.Aggregate _ k (taking refl (λ e. absurd (omega (arith, e))) k t)

  pub view-call : {count : ℕ} → KindAt page starts j 11 → TakesAt page starts j count
      → Viewed page starts i (record { foot = foot.Call; top = i; base = j; count = count })
  view-call k t = viewed foot.Call _ k (taking refl (λ e. absurd (omega (arith, e))) k t)

  pub view-valued : Valued page starts j → Viewed page starts i (record { foot = foot.Number; top = i; base = j; count = 0 })
  view-valued v =
      let w = laid_out-valued s chain.sets v in
      viewed foot.Number 0 v (rw w.layout w)

  pub view-number : KindAt page starts j 0 → Viewed page starts i (record { foot = foot.Number; top = i; base = j; count = 0 })
  view-number k =
      view-valued (readable (chained-here s chain) (read_literal (drop (get_or starts j 0 + 1) page)) _ (fields (chained-here s chain) k) (λ l rest m e.
      record { value = l; is = bare (record { rest = rest; reads = sym e }) }))

  pub view-unary : KindAt page starts j 7 → scalar_value (tree_at page j) ≡ none
      → Viewed page starts i (record { foot = foot.Unary; top = i; base = j; count = 1 })
  view-unary k v = viewed foot.Unary 1 (record { kind = k; valueless = v }) (fixed 1 refl (λ e. v) (λ n. refl) k)

  pub numberless-below : Numberless page i true → scalar_value (tree_at page j) ≡ none
  numberless-below u = sym (ap scalar_value (sets-tree s chain.sets) ∙ settled-value _ _ (tree_at page j)) ∙ u refl

-- ## What is known of a node

module _ {page starts : List ℕ} {node : Node} (n : NodeAt page starts node) where
  -- its layout is that of its shape, with its own texts
  pub layout-shaped : {f : Shape} → f ≡ shape_of node.foot
      → layout_at page node ≡ shaped f (head (layout_at page node)) (operator (layout_at page node)) (suffix (layout_at page node))
  layout-shaped e =
      let same = foot-shape n.known n.chain.sets node.foot n.foot ∙ sym e in
      rw same at (shape-shaped (layout_at page node))

  -- its layout is that of the record at its foot, unless this is a sign, under what the records above set
  pub layout-read : {r : Option ℕ} {u : Times} → Sets page starts node.top node.base r u → {item : Record} → Reads page starts node.base item
      → is_attached (record_kind item) || eqb (record_kind item) 7 ≡ false → layout_at page node ≡ layout_by item r u
  layout-read s {item} is plain =
      let h = neither (is_attached (record_kind item)) (eqb (record_kind item) 7) plain in
      (laid_out-item n.known s item is h.0 (λ e. absurd (eqb-false (record_kind item) 7 h.1 e))).layout
    where
      neither : (a b : Bool) → a || b ≡ false → (a ≡ false) × (b ≡ false)
      neither false b h = (refl, h)
      neither true b h = absurd (true≢false h)

  -- of a number with its signs
  pub number-layout : {l : Literal} → NumberAt page starts node.base l → layout_at page node ≡ whole (display_literal l)
  number-layout v = (laid_out-valued n.known n.chain.sets (record { value = _; is = v })).layout

-- the operand of a minus is no bare number
pub minus-numberless : {page starts : List ℕ} {i : ℕ} {node : Node} → Viewed page starts i node → Numberless page (node.base - 1) (is_minus node.foot)
minus-numberless {page} {starts} {i} {node} w m =
    w.laid_out.unsigned (layout-shaped w.stands (minus node.foot m))
  where
    minus : (f : Foot) → is_minus f ≡ true → shape.Minus ≡ shape_of f
    minus foot.Number h = absurd (false≢true h)
    minus foot.String h = absurd (false≢true h)
    minus foot.Selector h = absurd (false≢true h)
    minus foot.Subquery h = absurd (false≢true h)
    minus foot.Unary h = refl
    minus foot.Paren h = absurd (false≢true h)
    minus foot.Binary h = absurd (false≢true h)
    minus foot.Aggregate h = absurd (false≢true h)
    minus foot.Call h = absurd (false≢true h)

-- ## The last kind

last-kind : (item : Record) → is_attached (record_kind item) ≡ false → (record_kind item ≡ 0 → ⊥)
    → (record_kind item ≡ 1 → ⊥) → (record_kind item ≡ 2 → ⊥) → (record_kind item ≡ 4 → ⊥)
    → (record_kind item ≡ 7 → ⊥) → (record_kind item ≡ 8 → ⊥) → (record_kind item ≡ 9 → ⊥) → (record_kind item ≡ 10 → ⊥) → record_kind item ≡ 11
last-kind (leaf (number l)) h a b c d e f g k = absurd (a refl)
last-kind (leaf (string t)) h a b c d e f g k = absurd (b refl)
last-kind (leaf (selector s)) h a b c d e f g k = absurd (c refl)
last-kind (wrapper (range n)) h a b c d e f g k = absurd (true≢false h)
last-kind (wrapper (subquery n s)) h a b c d e f g k = absurd (d refl)
last-kind (wrapper (at o)) h a b c d e f g k = absurd (true≢false h)
last-kind (wrapper (offset o)) h a b c d e f g k = absurd (true≢false h)
last-kind (wrapper unary) h a b c d e f g k = absurd (e refl)
last-kind (wrapper paren) h a b c d e f g k = absurd (f refl)
last-kind (binary o m) h a b c d e f g k = absurd (g refl)
last-kind (aggregate o m n) h a b c d e f g k = absurd (k refl)
last-kind (call o n) h a b c d e f g k = refl

-- a foot of none of the other kinds is a call
pub foot-call : {page starts : List ℕ} {i j kind : ℕ} → FootOf page starts i j → KindAt page starts j kind
    → (kind ≡ 0 → ⊥) → (kind ≡ 1 → ⊥) → (kind ≡ 2 → ⊥) → (kind ≡ 4 → ⊥) → (kind ≡ 7 → ⊥) → (kind ≡ 8 → ⊥) → (kind ≡ 9 → ⊥) → (kind ≡ 10 → ⊥)
    → KindAt page starts j 11
foot-call w at' a b c d e f g k =
    let is = at'.same in
    record {
      item = at'.item;
      reads = at'.reads;
      same = last-kind at'.item (ap is_attached (kind-same w.stands at'.reads) ∙ w.other)
          (λ h. a (sym is ∙ h)) (λ h. b (sym is ∙ h)) (λ h. c (sym is ∙ h))
          (λ h. d (sym is ∙ h)) (λ h. e (sym is ∙ h)) (λ h. f (sym is ∙ h)) (λ h. g (sym is ∙ h)) (λ h. k (sym is ∙ h));
    }
