-- How a node's text is put together from its operands' texts: what the node writes before them, between each two and
-- after them. There are five ways; the texts of pages are written by these alone, whatever the record. That they give
-- `display` and `pretty` is proved in proofs/DisplayLaws and proofs/PrettyLaws.
use Rattle.std.specs.Prelude.{ℕ, suc, Bool, true, false, List, [], ◌∷◌, ◌++◌, map}
use Rattle.std.proofs.Math.Option.{Option, none, some}
use Rattle.page.specs.Bytes.{pick, bytes, join}
use Rattle.leaves.specs.Numeral.{display_literal}
use Rattle.leaves.specs.Duration.{display_duration}
use Rattle.leaves.specs.Escape.{quote}
use Rattle.ast.specs.Expr.{Expr, Args, no_args, arg, Aggregate, AggregateParam, Unary, Binary, Paren, Subquery}
use Rattle.ast.specs.Expr.{NumberLiteral, StringLiteral, VectorSelector, MatrixSelector, Call}
use Rattle.text.specs.Display.{display_aggregator, display_operator, display_suffix, display_selector, display_times}
use Rattle.text.specs.Pretty.{indent, pretty, trim_start}

pub data Layout : Type 0 where
  -- no operands: the whole text
  whole : List ℕ → Layout
  -- a minus before the operand
  negation : Layout
  -- after the operand: the suffix
  suffixed : List ℕ → Layout
  -- operands in brackets: what stands before the bracket
  enclosed : List ℕ → Layout
  -- between the operands: the operator
  infixed : List ℕ → Layout

-- the range of a selector, if it has one
abbrev pub display_range : Option ℕ → List ℕ
display_range none = []
display_range (some r) = bytes "[" ++ display_duration r ++ bytes "]"

abbrev pub layout_of : Expr → Layout
layout_of (Aggregate c m e) = enclosed (display_aggregator c m)
layout_of (AggregateParam c m p e) = enclosed (display_aggregator c m)
layout_of (Unary e) = negation
layout_of (Binary c m l r) = infixed (display_operator c m)
layout_of (Paren e) = enclosed []
layout_of (Subquery e r s t) = suffixed (display_suffix r s t)
layout_of (NumberLiteral l) = whole (display_literal l)
layout_of (StringLiteral t) = whole (quote t)
layout_of (VectorSelector s t) = whole (display_selector s ++ (display_range none ++ display_times t))
layout_of (MatrixSelector s t r) = whole (display_selector s ++ (display_range (some r) ++ display_times t))
layout_of (Call f es) = enclosed f.name

abbrev pub args_list : Args → List Expr
args_list no_args = []
args_list (arg e es) = e ∷ args_list es

-- the operands, from the left
abbrev pub children : Expr → List Expr
children (Aggregate c m e) = e ∷ []
children (AggregateParam c m p e) = p ∷ e ∷ []
children (Unary e) = e ∷ []
children (Binary c m l r) = l ∷ r ∷ []
children (Paren e) = e ∷ []
children (Subquery e r s t) = e ∷ []
children (NumberLiteral l) = []
children (StringLiteral t) = []
children (VectorSelector s t) = []
children (MatrixSelector s t r) = []
children (Call f es) = args_list es

-- ## What a node writes of its own, whatever the text

abbrev pub head : Layout → List ℕ
head (whole t) = t
head negation = bytes "-"
head (suffixed t) = []
head (enclosed h) = h
head (infixed o) = []

abbrev pub operator : Layout → List ℕ
operator (whole t) = []
operator negation = []
operator (suffixed t) = []
operator (enclosed h) = []
operator (infixed o) = o

abbrev pub suffix : Layout → List ℕ
suffix (whole t) = []
suffix negation = []
suffix (suffixed t) = t
suffix (enclosed h) = []
suffix (infixed o) = []

-- ## Canonical text

abbrev pub front : Layout → List ℕ
front (whole t) = t
front negation = bytes "-"
front (suffixed t) = []
front (enclosed h) = h ++ bytes "("
front (infixed o) = []

abbrev pub between : Layout → List ℕ
between (whole t) = []
between negation = []
between (suffixed t) = []
between (enclosed h) = bytes ", "
between (infixed o) = bytes " " ++ o ++ bytes " "

abbrev pub rear : Layout → List ℕ
rear (whole t) = []
rear negation = []
rear (suffixed t) = t
rear (enclosed h) = bytes ")"
rear (infixed o) = []

-- ## Split text of a node longer than a line, at a level. `indents` says whether the first line is indented: it is not, after the minus
-- of a unary expression (`trim_start`)

abbrev pub indent_if : Bool → ℕ → List ℕ
indent_if indents level = pick indents (indent level) []

abbrev pub front_at : Bool → ℕ → Layout → List ℕ
front_at indents level (whole t) = indent_if indents level ++ t
front_at indents level negation = indent_if indents level ++ bytes "-"
front_at indents level (suffixed t) = []
front_at indents level (enclosed h) = indent_if indents level ++ h ++ bytes "(\n"
front_at indents level (infixed o) = []

abbrev pub between_at : ℕ → Layout → List ℕ
between_at level (whole t) = []
between_at level negation = []
between_at level (suffixed t) = []
between_at level (enclosed h) = bytes ",\n"
between_at level (infixed o) = bytes "\n" ++ indent level ++ o ++ bytes "\n"

abbrev pub rear_at : ℕ → Layout → List ℕ
rear_at level (whole t) = []
rear_at level negation = []
rear_at level (suffixed t) = t
rear_at level (enclosed h) = bytes "\n" ++ indent level ++ bytes ")"
rear_at level (infixed o) = []

-- `indents` of the first operand; all others are indented
abbrev pub inner_indents : Bool → Layout → Bool
inner_indents indents (whole t) = true
inner_indents indents negation = false
inner_indents indents (suffixed t) = indents
inner_indents indents (enclosed h) = true
inner_indents indents (infixed o) = indents

-- the level of the operands
abbrev pub inner_level : ℕ → Layout → ℕ
inner_level level (whole t) = level
inner_level level negation = level
inner_level level (suffixed t) = level
inner_level level (enclosed h) = suc level
inner_level level (infixed o) = suc level

-- the split text, with or without its first indentation
unfoldable pub pretty_indented : Bool → ℕ → Expr → List ℕ
pretty_indented true level e = pretty e level
pretty_indented false level e = trim_start (pretty e level)

-- ## Texts of operands

-- the text of the first operand may differ from that of the others
abbrev pub texts : (Expr → List ℕ) → (Expr → List ℕ) → List Expr → List (List ℕ)
texts first other [] = []
texts first other (e ∷ es) = first e ∷ map other es

-- with a separator between each two
unfoldable pub joined : List ℕ → (Expr → List ℕ) → (Expr → List ℕ) → List Expr → List ℕ
joined separator first other es = join separator (texts first other es)
