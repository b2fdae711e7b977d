-- What the answers of the functions that read parts of records mean on a page: a position stands for the bytes from
-- there on.
use Rattle.std.specs.Prelude.{ℕ, Bool, List, drop, Some, None}
use Rattle.std.specs.Prelude.{Option as Given}
use Rattle.std.proofs.Math.Option.{Option}
use Rattle.page.specs.Read.{Reader, ◌>>=◌, return}
use Rattle.page.specs.Text.{read_any_text}
use Rattle.page.specs.Listed.{listed, AllRead}
use Rattle.page.specs.Answers.{option_of, span_on, Lies}
use Rattle.records.specs.Kind as kinds
use Rattle.records.specs.Field as field
use Rattle.records.specs.Literal as literal
use Rattle.records.specs.Matcher as matcher
use Rattle.records.specs.Modifier as modifier
use Rattle.records.specs.OnPage.{OptionStored}
use Rattle.records.specs.Time as time
use Rattle.records.specs.declared.kind.Kind.{Kind}
use Rattle.records.specs.declared.kind.Kind.TheVariants.{Vector, Scalar, Matrix, String}
use Rattle.records.specs.declared.matcher.MatchOp.{MatchOp}
use Rattle.records.specs.declared.matcher.MatchOp.TheVariants.{Equal, NotEqual, Re, NotRe}
use Rattle.records.specs.declared.matcher.Matcher.{Matcher}
use Rattle.records.specs.declared.fraction.Fraction.{Fraction as FractionParts}
use Rattle.records.specs.declared.literal.Literal.{Literal}
use Rattle.records.specs.declared.literal.Literal.TheVariants.{Whole, Negative, Nan, Inf, NegInf, Fraction, NegativeFraction}
use Rattle.records.specs.declared.modifier.LabelModifier.{LabelModifier}
use Rattle.records.specs.declared.modifier.LabelModifier.TheVariants.{Include, Exclude}
use Rattle.records.specs.declared.modifier.Cardinality.{Cardinality}
use Rattle.records.specs.declared.modifier.Cardinality.TheVariants.{OneToOne, ManyToOne, OneToMany, ManyToMany}
use Rattle.records.specs.declared.modifier.BinModifier.{BinModifier}
use Rattle.records.specs.declared.time.AtModifier.{AtModifier}
use Rattle.records.specs.declared.time.AtModifier.TheVariants.{Start, End, After, Before}
use Rattle.records.specs.declared.time.Offset.{Offset}
use Rattle.records.specs.declared.time.Offset.TheVariants.{Pos, Neg}

-- ## Flags and kinds

abbrev pub kind_of : Kind → kinds.Kind
kind_of Vector = kinds.vector
kind_of Scalar = kinds.scalar
kind_of Matrix = kinds.matrix
kind_of String = kinds.string

-- the kinds that start at a position
abbrev pub kinds_on : List ℕ → ℕ → ℕ → List kinds.Kind
kinds_on page start count = listed field.read_kind count (drop start page)

-- the labels that start at a position
abbrev pub labels_on : List ℕ → ℕ → ℕ → field.Labels
labels_on page start count = listed read_any_text count (drop start page)

-- ## Matchers

abbrev pub op_of : MatchOp → matcher.MatchOp
op_of Equal = matcher.equal
op_of NotEqual = matcher.not_equal
op_of (Re b) = matcher.re b
op_of (NotRe b) = matcher.not_re b

abbrev pub matcher_on : List ℕ → Matcher → matcher.Matcher
matcher_on page m = matcher.matcher_of (op_of m.op) (span_on page m.name) (span_on page m.value)

-- the matchers that start at a position
abbrev pub matchers_on : List ℕ → ℕ → ℕ → List matcher.Matcher
matchers_on page start count = listed matcher.read_matcher count (drop start page)

-- name and value lie on the page
pub record MatcherLies (page : List ℕ) (m : Matcher) : Type 0 where
  pub name : Lies page m.name
  pub value : Lies page m.value

-- ## Literals and fills

-- a fraction with its sign
abbrev pub fraction_of : (literal.Magnitude → literal.Literal) → FractionParts → literal.Literal
fraction_of sign f = sign (literal.fraction f.digits f.places)

abbrev pub literal_of : Literal → literal.Literal
literal_of (Whole n) = literal.plus (literal.whole n)
literal_of (Negative n) = literal.minus (literal.whole n)
literal_of Nan = literal.nan
literal_of Inf = literal.plus literal.infinite
literal_of NegInf = literal.minus literal.infinite
literal_of (Fraction p d) = literal.plus (literal.fraction d p)
literal_of (NegativeFraction p d) = literal.minus (literal.fraction d p)

-- ## Modifiers

abbrev labels_of : List ℕ → LabelModifier → modifier.LabelModifier
labels_of page (Include list) = modifier.include (labels_on page list.start list.count)
labels_of page (Exclude list) = modifier.exclude (labels_on page list.start list.count)

abbrev pub label_modifier_on : List ℕ → Given LabelModifier → Option modifier.LabelModifier
label_modifier_on page = option_of (labels_of page)

-- the labels of a modifier that was read: all can be read again
abbrev pub LabelModifierStored : List ℕ → Given LabelModifier → Type 0
LabelModifierStored page None = Unit {0}
LabelModifierStored page (Some (Include list)) = AllRead read_any_text list.count (drop list.start page)
LabelModifierStored page (Some (Exclude list)) = AllRead read_any_text list.count (drop list.start page)

abbrev pub cardinality_on : List ℕ → Cardinality → modifier.Cardinality
cardinality_on page OneToOne = modifier.one_to_one
cardinality_on page (ManyToOne list) = modifier.many_to_one (labels_on page list.start list.count)
cardinality_on page (OneToMany list) = modifier.one_to_many (labels_on page list.start list.count)
cardinality_on page ManyToMany = modifier.many_to_many

abbrev pub CardinalityStored : List ℕ → Cardinality → Type 0
CardinalityStored page OneToOne = Unit {0}
CardinalityStored page (ManyToOne list) = AllRead read_any_text list.count (drop list.start page)
CardinalityStored page (OneToMany list) = AllRead read_any_text list.count (drop list.start page)
CardinalityStored page ManyToMany = Unit {0}

abbrev bin_modifier_of : Bool → Option modifier.LabelModifier → modifier.Cardinality → Option literal.Literal → Option literal.Literal → modifier.BinModifier
bin_modifier_of b m c l r = record { return_bool = b; matching = m; card = c; fill_values = record { lhs = l; rhs = r } }

abbrev pub bin_modifier_on : List ℕ → BinModifier → modifier.BinModifier
bin_modifier_on page m = bin_modifier_of m.returns_bool (label_modifier_on page m.matching) (cardinality_on page m.card) (option_of literal_of m.lhs) (option_of literal_of m.rhs)

pub record BinModifierStored (page : List ℕ) (m : BinModifier) : Type 0 where
  pub matching : LabelModifierStored page m.matching
  pub card : CardinalityStored page m.card

-- what follows the flag, the matching and the cardinality in `read_bin_modifier`
abbrev pub read_fills : Bool → Option modifier.LabelModifier → modifier.Cardinality → Reader modifier.BinModifier
read_fills b m c = field.read_option literal.read_literal >>= λ l. field.read_option literal.read_literal >>= λ r. return (bin_modifier_of b m c l r)

abbrev pub modifier_on : List ℕ → Given BinModifier → Option modifier.BinModifier
modifier_on page = option_of (bin_modifier_on page)

abbrev pub ModifierStored : List ℕ → Given BinModifier → Type 0
ModifierStored page = OptionStored (BinModifierStored page)

-- ## Times

abbrev pub at_modifier_of : AtModifier → time.AtModifier
at_modifier_of Start = time.start
at_modifier_of End = time.end
at_modifier_of (After n) = time.after n
at_modifier_of (Before n) = time.before n

abbrev pub offset_of : Offset → time.Offset
offset_of (Pos n) = time.pos n
offset_of (Neg n) = time.neg n
