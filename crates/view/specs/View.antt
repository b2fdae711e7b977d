-- What the functions of this crate say of a page's records.
use Rattle.std.specs.Prelude.{ℕ, suc, ◌-◌, ◌≡◌, Bool, true, false, ◌||◌, List, eqb, Some, None}
use Rattle.std.specs.Prelude.{Option as Given}
use Rattle.std.proofs.Math.Option.{Option, none, some}
use Rattle.records.specs.Literal as literal
use Rattle.records.specs.Time.{Times, AtModifier, Offset}
use Rattle.records.specs.Answers.{literal_of}
use Rattle.records.specs.declared.literal.Literal.{Literal}
use Rattle.records.specs.Record.{number, range, at, offset, unary, Record, leaf}
use Rattle.records.specs.Record.{wrapper, operands, record_kind}
use Rattle.ast.specs.Expr.{scalar_value}
use Rattle.ast.specs.Construct.{no_times}
use Rattle.ast.specs.Tables.{Tables, tree_at}
use Rattle.text.specs.Layout.{Layout, whole, negation, suffixed, enclosed, infixed, layout_of}
use Rattle.text.specs.Chain.{with_at, with_offset}
use Rattle.text.specs.LaidOut.{Reads, LaidOut}
use Rattle.view.specs.declared.Foot.{Foot}
use Rattle.view.specs.declared.Foot.TheVariants as foot
use Rattle.view.specs.declared.Node.{Node}
use Rattle.view.specs.declared.shape.Shape.{Shape}
use Rattle.view.specs.declared.shape.Shape.TheVariants as shape

-- the starts of the first n records, with some table of first records beside them
pub record Starts (page starts : List ℕ) (n : ℕ) : Type 0 where
  pub firsts : List ℕ
  pub tables : Tables page starts firsts n

-- ## Records

-- record i is of this kind
pub record KindAt (page starts : List ℕ) (i kind : ℕ) : Type 0 where
  pub item : Record
  pub reads : Reads page starts i item
  pub same : record_kind item ≡ kind

-- record i takes so many operands
pub record TakesAt (page starts : List ℕ) (i count : ℕ) : Type 0 where
  pub item : Record
  pub reads : Reads page starts i item
  pub takes : operands item ≡ count

-- the kinds of range, @ and offset: attached to the node of the record below
abbrev pub is_attached : ℕ → Bool
is_attached kind = eqb kind 3 || eqb kind 5 || eqb kind 6

pub record AttachedAt (page starts : List ℕ) (i : ℕ) : Type 0 where
  pub kind : ℕ
  pub stands : KindAt page starts i kind
  pub part : is_attached kind ≡ true

-- what the records above record j, up to record i, set: a range, an @ or an offset each, over what is set above it
pub data Sets (page starts : List ℕ) (i : ℕ) : ℕ → Option ℕ → Times → Type 0 where
  sets_nothing : Sets page starts i i none no_times
  sets_range : {j r : ℕ} {n : Option ℕ} {u : Times} → Reads page starts j (wrapper (range r)) → Sets page starts i j n u → Sets page starts i (j - 1) (some r) u
  sets_at : {j : ℕ} {a : AtModifier} {n : Option ℕ} {u : Times} → Reads page starts j (wrapper (at a)) → Sets page starts i j n u
      → Sets page starts i (j - 1) n (with_at a u)
  sets_offset : {j : ℕ} {o : Offset} {n : Option ℕ} {u : Times} → Reads page starts j (wrapper (offset o)) → Sets page starts i j n u
      → Sets page starts i (j - 1) n (with_offset o u)

-- the records above record j, up to record i, are attached to it
pub record Chained (page starts : List ℕ) (i j : ℕ) : Type 0 where
  pub range : Option ℕ
  pub times : Times
  pub sets : Sets page starts i j range times

-- the same, and record j is not attached itself
pub record FootOf (page starts : List ℕ) (i j : ℕ) : Type 0 where
  pub chain : Chained page starts i j
  pub kind : ℕ
  pub stands : KindAt page starts j kind
  pub other : is_attached kind ≡ false

-- ## Numbers

-- the number that record i ends: that of a number record, or under a unary record that of the record before it, negated
pub data NumberAt (page starts : List ℕ) : ℕ → literal.Literal → Type 0 where
  bare : {i : ℕ} {l : literal.Literal} → Reads page starts i (leaf (number l)) → NumberAt page starts i l
  turned : {i : ℕ} {l : literal.Literal} → Reads page starts i (wrapper unary) → NumberAt page starts (i - 1) l → NumberAt page starts i (literal.negate l)

-- the number that record i ends, or that the tree is no bare number
abbrev pub SignedAt : List ℕ → List ℕ → ℕ → Given Literal → Type 0
SignedAt page starts i (Some l) = NumberAt page starts i (literal_of l)
SignedAt page starts i None = scalar_value (tree_at page i) ≡ none

-- record i ends a bare number
pub record Valued (page starts : List ℕ) (i : ℕ) : Type 0 where
  pub value : literal.Literal
  pub is : NumberAt page starts i value

-- a minus that is no sign of a bare number
pub record Minus (page starts : List ℕ) (i : ℕ) : Type 0 where
  pub kind : KindAt page starts i 7
  pub valueless : scalar_value (tree_at page i) ≡ none

-- where it is set, the tree is known to be no bare number
abbrev pub Numberless : List ℕ → ℕ → Bool → Type 0
Numberless page i mark = mark ≡ true → scalar_value (tree_at page i) ≡ none

-- ## Nodes

-- what stands at the foot of a node
abbrev pub FootAt : List ℕ → List ℕ → ℕ → Foot → Type 0
FootAt page starts i foot.Number = Valued page starts i
FootAt page starts i foot.String = KindAt page starts i 1
FootAt page starts i foot.Selector = KindAt page starts i 2
FootAt page starts i foot.Subquery = KindAt page starts i 4
FootAt page starts i foot.Unary = Minus page starts i
FootAt page starts i foot.Paren = KindAt page starts i 8
FootAt page starts i foot.Binary = KindAt page starts i 9
FootAt page starts i foot.Aggregate = KindAt page starts i 10
FootAt page starts i foot.Call = KindAt page starts i 11

pub record NodeAt (page starts : List ℕ) (node : Node) : Type 0 where
  pub known : Starts page starts (suc node.top)
  pub chain : Chained page starts node.top node.base
  pub foot : FootAt page starts node.base node.foot

-- how the node's text is put together
abbrev pub layout_at : List ℕ → Node → Layout
layout_at page node = layout_of (tree_at page node.top)

-- the node that record i ends. There is one only (proofs/ViewedLaws)
pub record Viewed (page starts : List ℕ) (i : ℕ) (node : Node) : Type 0 where
  pub is_top : node.top ≡ i
  pub laid_out : LaidOut page i (layout_at page node) node.base node.count
  pub stands : NodeAt page starts node

-- ## Forms

-- a minus before the operand
abbrev pub is_minus : Foot → Bool
is_minus foot.Number = false
is_minus foot.String = false
is_minus foot.Selector = false
is_minus foot.Subquery = false
is_minus foot.Unary = true
is_minus foot.Paren = false
is_minus foot.Binary = false
is_minus foot.Aggregate = false
is_minus foot.Call = false

-- the way in which a node's text is put together, without its own texts
abbrev pub shape_of : Foot → Shape
shape_of foot.Number = shape.Whole
shape_of foot.String = shape.Whole
shape_of foot.Selector = shape.Whole
shape_of foot.Subquery = shape.Suffixed
shape_of foot.Unary = shape.Minus
shape_of foot.Paren = shape.Enclosed
shape_of foot.Binary = shape.Infixed
shape_of foot.Aggregate = shape.Enclosed
shape_of foot.Call = shape.Enclosed

-- the layout of a shape, from the node's own texts
abbrev pub shaped : Shape → List ℕ → List ℕ → List ℕ → Layout
shaped shape.Whole h o s = whole h
shaped shape.Minus h o s = negation
shaped shape.Suffixed h o s = suffixed s
shaped shape.Enclosed h o s = enclosed h
shaped shape.Infixed h o s = infixed o
