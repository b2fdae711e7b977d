-- Nodes that have no head, no operator or no suffix: by the shape of the foot.
use Prim.Native.Nat.{ℕ}
use mathlib.Core.Path.{◌≡◌, refl, sym, ap, subst}
use mathlib.Core.List.{List, [], ◌∷◌}
use Prim.{tt}
use denote.Enum.Declared.{tag_of}
use types.Run.{OneOf, miss}
use Rattle.page.specs.Bytes.{bytes}
use Rattle.text.specs.Layout.{head, operator, suffix}
use Rattle.view.specs.View.{FootAt, NodeAt, layout_at, shape_of, shaped}
use Rattle.view.specs.declared.Foot.{Foot}
use Rattle.view.specs.declared.Foot.TheVariants as foot
use Rattle.view.specs.declared.Node.{Node}
use Rattle.view.specs.contracts.Foot.{the_type}
use Rattle.view.proofs.KindLaws.{fields}
use Rattle.view.proofs.ChainedLaws.{chained-here}
use Rattle.view.proofs.NodeLaws.{layout-shaped, layout-read}

module _ {page starts : List ℕ} {node : Node} (n : NodeAt page starts node) where
  shaped-as : {f : Foot} → node.foot ≡ f
      → layout_at page node ≡ shaped (shape_of f) (head (layout_at page node)) (operator (layout_at page node)) (suffix (layout_at page node))
  shaped-as e = layout-shaped n (sym (ap shape_of e))

  pub subquery-head : node.foot ≡ foot.Subquery → head (layout_at page node) ≡ []
  subquery-head e = ap head (shaped-as e)

  pub binary-head : node.foot ≡ foot.Binary → head (layout_at page node) ≡ []
  binary-head e = ap head (shaped-as e)

  pub minus-head : node.foot ≡ foot.Unary → head (layout_at page node) ≡ bytes "-"
  minus-head e = ap head (shaped-as e)

  pub paren-head : node.foot ≡ foot.Paren → head (layout_at page node) ≡ []
  paren-head e =
      let reads = fields (chained-here n.known n.chain) (subst (FootAt page starts node.base) e n.foot) in
      ap head (layout-read n n.chain.sets (record { rest = _; reads = sym reads }) refl)

  -- only a binary node has an operator
  pub no-operator : (f : Foot) → OneOf (0 ∷ 1 ∷ 2 ∷ 3 ∷ 4 ∷ 5 ∷ 7 ∷ 8 ∷ []) (tag_of the_type f) → node.foot ≡ f → operator (layout_at page node) ≡ []
  no-operator foot.Number k e = ap operator (shaped-as e)
  no-operator foot.String k e = ap operator (shaped-as e)
  no-operator foot.Selector k e = ap operator (shaped-as e)
  no-operator foot.Subquery k e = ap operator (shaped-as e)
  no-operator foot.Unary k e = ap operator (shaped-as e)
  no-operator foot.Paren k e = ap operator (shaped-as e)
  no-operator foot.Binary k e = absurd (miss (0 ∷ 1 ∷ 2 ∷ 3 ∷ 4 ∷ 5 ∷ 7 ∷ 8 ∷ []) 6 tt k)
  no-operator foot.Aggregate k e = ap operator (shaped-as e)
  no-operator foot.Call k e = ap operator (shaped-as e)

  -- only a subquery has a suffix
  pub no-suffix : (f : Foot) → OneOf (0 ∷ 1 ∷ 2 ∷ 4 ∷ 5 ∷ 6 ∷ 7 ∷ 8 ∷ []) (tag_of the_type f) → node.foot ≡ f → suffix (layout_at page node) ≡ []
  no-suffix foot.Number k e = ap suffix (shaped-as e)
  no-suffix foot.String k e = ap suffix (shaped-as e)
  no-suffix foot.Selector k e = ap suffix (shaped-as e)
  no-suffix foot.Subquery k e = absurd (miss (0 ∷ 1 ∷ 2 ∷ 4 ∷ 5 ∷ 6 ∷ 7 ∷ 8 ∷ []) 3 tt k)
  no-suffix foot.Unary k e = ap suffix (shaped-as e)
  no-suffix foot.Paren k e = ap suffix (shaped-as e)
  no-suffix foot.Binary k e = ap suffix (shaped-as e)
  no-suffix foot.Aggregate k e = ap suffix (shaped-as e)
  no-suffix foot.Call k e = ap suffix (shaped-as e)
