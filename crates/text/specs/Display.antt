-- Canonical text: `Display` of the tree (ast.rs, function.rs).
use Rattle.std.specs.Prelude.{ℕ, Bool, true, false, List, [], ◌∷◌, ◌++◌}
use Prim.Native.String.{String}
use Rattle.std.proofs.Math.Option.{Option, none, some}
use Rattle.page.specs.Bytes.{pick, bytes, join}
use Rattle.records.specs.Code.{token}
use Rattle.records.specs.Literal.{Literal, equal_by_value}
use Rattle.leaves.specs.Numeral.{display_literal, display_fill}
use Rattle.records.specs.Field.{Labels}
use Rattle.records.specs.Matcher.{Matcher, Selector}
use Rattle.records.specs.Modifier.{LabelModifier, include, exclude, Cardinality, one_to_one, many_to_many, many_to_one, one_to_many, BinModifier}
use Rattle.records.specs.Time.{Times}
use Rattle.leaves.specs.Duration.{display_duration}
use Rattle.leaves.specs.Time.{display_at, display_offset}
use Rattle.leaves.specs.Escape.{quote}
use Rattle.label.specs.Label.{display_labels, display_matchers}
use Rattle.ast.specs.Expr.{Expr, Args, no_args, arg, Aggregate, AggregateParam, Unary, Binary, Paren, Subquery}
use Rattle.ast.specs.Expr.{NumberLiteral, StringLiteral, VectorSelector, MatrixSelector, Call}

-- ## Modifiers

-- the text of what is there, or nothing
module _ {A : Type 0} where
  abbrev pub optional : (A → List ℕ) → Option A → List ℕ
  optional text none = []
  optional text (some a) = text a

abbrev pub labelled : String → Labels → List ℕ
labelled w ls = bytes w ++ bytes " (" ++ display_labels ls ++ bytes ")"

-- `BinModifier`: the Rust writes each part with a space after it, trims the end and puts one space in front. No part
-- begins or ends in a space, so each part here has its space in front
abbrev pub display_bool : Bool → List ℕ
display_bool true = bytes " bool"
display_bool false = []

-- `ignoring ()` vanishes, `on ()` is printed
abbrev pub display_matching : Option LabelModifier → List ℕ
display_matching none = []
display_matching (some (include ls)) = labelled " on" ls
display_matching (some (exclude [])) = []
display_matching (some (exclude (l ∷ ls))) = labelled " ignoring" (l ∷ ls)

abbrev pub display_cardinality : Cardinality → List ℕ
display_cardinality one_to_one = []
display_cardinality many_to_many = []
display_cardinality (many_to_one ls) = labelled " group_left" ls
display_cardinality (one_to_many ls) = labelled " group_right" ls

abbrev pub filled : String → Literal → List ℕ
filled w l = bytes w ++ bytes " (" ++ display_fill l ++ bytes ")"

-- both, equal by value: one fill, with the right number; else each that is there
abbrev pub display_fills : Option Literal → Option Literal → List ℕ
display_fills none none = []
display_fills (some l) none = filled " fill_left" l
display_fills none (some r) = filled " fill_right" r
display_fills (some l) (some r) = pick (equal_by_value r l) (filled " fill" r) (filled " fill_left" l ++ filled " fill_right" r)

abbrev pub display_modifier : BinModifier → List ℕ
display_modifier m =
    display_bool m.return_bool
    ++ display_matching m.matching
    ++ display_cardinality m.card
    ++ display_fills m.fill_values.lhs m.fill_values.rhs

-- `get_op_matching_string`
abbrev pub display_operator : ℕ → Option BinModifier → List ℕ
display_operator c m = token c ++ optional display_modifier m

-- `by ()` vanishes, `without ()` is printed
abbrev pub display_grouping : Option LabelModifier → List ℕ
display_grouping none = []
display_grouping (some (exclude ls)) = labelled " without" ls ++ bytes " "
display_grouping (some (include [])) = []
display_grouping (some (include (l ∷ ls))) = labelled " by" (l ∷ ls) ++ bytes " "

-- `get_op_string`
abbrev pub display_aggregator : ℕ → Option LabelModifier → List ℕ
display_aggregator c m = token c ++ display_grouping m

-- ## Times

abbrev pub display_times : Times → List ℕ
display_times t = optional (λ a. bytes " " ++ display_at a) t.at ++ optional (λ o. bytes " offset " ++ display_offset o) t.offset

-- `get_time_suffix_string`
abbrev pub display_suffix : ℕ → Option ℕ → Times → List ℕ
display_suffix r s t = bytes "[" ++ display_duration r ++ bytes ":" ++ optional display_duration s ++ bytes "]" ++ display_times t

-- ## Leaves

abbrev pub display_braces : List Matcher → List ℕ
display_braces [] = []
display_braces (m ∷ ms) = bytes "{" ++ display_matchers (m ∷ ms) ++ bytes "}"

abbrev pub display_selector : Selector → List ℕ
display_selector s = s.name ++ display_braces s.matchers

-- ## Nodes, from the texts of their operands

-- what aggregates, parens and calls share: a head, and operands in brackets
abbrev pub enclosed : List ℕ → List (List ℕ) → List ℕ
enclosed head operands = head ++ bytes "(" ++ join (bytes ", ") operands ++ bytes ")"

unfoldable mutual
  pub display : Expr → List ℕ
  display (Aggregate c m e) = enclosed (display_aggregator c m) (display e ∷ [])
  display (AggregateParam c m p e) = enclosed (display_aggregator c m) (display p ∷ display e ∷ [])
  display (Unary e) = bytes "-" ++ display e
  display (Binary c m l r) = display l ++ bytes " " ++ display_operator c m ++ bytes " " ++ display r
  display (Paren e) = enclosed [] (display e ∷ [])
  display (Subquery e r s t) = display e ++ display_suffix r s t
  display (NumberLiteral l) = display_literal l
  display (StringLiteral t) = quote t
  display (VectorSelector s t) = display_selector s ++ display_times t
  display (MatrixSelector s t r) = display_selector s ++ bytes "[" ++ display_duration r ++ bytes "]" ++ display_times t
  display (Call f es) = enclosed f.name (display_all es)

  pub display_all : Args → List (List ℕ)
  display_all no_args = []
  display_all (arg e es) = display e ∷ display_all es
