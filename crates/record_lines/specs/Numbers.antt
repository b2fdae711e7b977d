-- What stands in a record as numbers, in the order of the page (oracle/src/show.rs; in words at the head of the program
-- show_records): a text is its start and its size, a list its count and its elements, a flag 0 or 1, a choice the
-- number of its form and the fields of that form.
use Rattle.std.specs.Prelude.{ℕ, ◌-◌, Bool, true, false, List, [], ◌∷◌, ◌++◌, leb, ltb, length, drop, Option, Some, None}
use Rattle.base.specs.Splice.{join}
use Rattle.page.specs.Bytes.{pick}
use Rattle.page.specs.Read.{Reader, got, ◌>>=◌, return, ensure, bad_field}
use Rattle.page.specs.Number.{read_number}
use Rattle.page.specs.Text.{read_any_text}
use Rattle.page.specs.Listed.{listed}
use Rattle.page.specs.declared.text.Span.{Span}
use Rattle.records.specs.Kind.{kind_number}
use Rattle.records.specs.Field.{read_flag, read_kind}
use Rattle.records.specs.Answers.{kind_of}
use Rattle.records.specs.declared.literal.Literal.{Literal}
use Rattle.records.specs.declared.literal.Literal.TheVariants.{Whole, Negative, Nan, Inf, NegInf, Fraction, NegativeFraction}
use Rattle.records.specs.declared.modifier.LabelModifier.{LabelModifier}
use Rattle.records.specs.declared.modifier.LabelModifier.TheVariants.{Include, Exclude}
use Rattle.records.specs.declared.modifier.Cardinality.{Cardinality}
use Rattle.records.specs.declared.modifier.Cardinality.TheVariants.{OneToOne, ManyToOne, OneToMany, ManyToMany}
use Rattle.records.specs.declared.modifier.BinModifier.{BinModifier}
use Rattle.records.specs.declared.time.AtModifier.{AtModifier}
use Rattle.records.specs.declared.time.AtModifier.TheVariants.{Start, End, After, Before}
use Rattle.records.specs.declared.time.Offset.{Offset}
use Rattle.records.specs.declared.time.Offset.TheVariants.{Pos, Neg}
use Rattle.records.specs.declared.signature.Variadic.{Variadic}
use Rattle.records.specs.declared.signature.Variadic.TheVariants.{Fixed, Unlimited, UpTo}
use Rattle.records.specs.declared.signature.Function.{Function}
use Rattle.reader.specs.declared.Selector.{Selector}
use Rattle.reader.specs.declared.Record.{Record}
use Rattle.reader.specs.declared.Record.TheVariants as code

-- ## Texts, flags and literals

abbrev pub span_numbers : Span → List ℕ
span_numbers s = s.start ∷ (s.end - s.start) ∷ []

abbrev pub flag_number : Bool → ℕ
flag_number false = 0
flag_number true = 1

abbrev pub literal_numbers : Literal → List ℕ
literal_numbers (Whole n) = 0 ∷ n ∷ []
literal_numbers (Negative n) = 1 ∷ n ∷ []
literal_numbers Nan = 2 ∷ []
literal_numbers Inf = 3 ∷ []
literal_numbers NegInf = 4 ∷ []
literal_numbers (Fraction p d) = 5 ∷ d ∷ p ∷ []
literal_numbers (NegativeFraction p d) = 6 ∷ d ∷ p ∷ []

-- 0, or 1 and what there is
module _ {C : Type 0} where
  abbrev pub option_numbers : (C → List ℕ) → Option C → List ℕ
  option_numbers numbers None = 0 ∷ []
  option_numbers numbers (Some x) = 1 ∷ numbers x

-- a number that stands for itself
abbrev pub itself_number : ℕ → List ℕ
itself_number n = n ∷ []

-- ## Lists, read again from their first element on

-- The numbers stop at an element that cannot be read; of a record that was read none is left out (`labels-shown`,
-- `matchers-shown`, `kinds-shown`, proofs/ElementsShownLaws).

-- a text, where it stands: the bytes that are left tell how far the reader has come
unfoldable pub read_label_numbers : List ℕ → Reader (List ℕ)
read_label_numbers page = read_any_text >>= λ t rest. got ((length page - length rest - length t) ∷ length t ∷ []) rest

-- the flag of a pattern, `=~` and `!~`
unfoldable pub read_pattern_flag_numbers : ℕ → Reader (List ℕ)
read_pattern_flag_numbers op = pick (ltb op 2) (return []) (read_flag >>= λ b. return (flag_number b ∷ []))

-- what follows the operator of a matcher
unfoldable pub read_matcher_texts : List ℕ → ℕ → Reader (List ℕ)
read_matcher_texts page op = do
  name ← read_label_numbers page
  value ← read_label_numbers page
  mark ← read_pattern_flag_numbers op
  return (op ∷ name ++ value ++ mark)

unfoldable pub read_matcher_numbers : List ℕ → Reader (List ℕ)
read_matcher_numbers page = read_number >>= λ op. ensure (leb op 3) bad_field op >>= read_matcher_texts page

unfoldable pub read_kind_numbers : Reader (List ℕ)
read_kind_numbers = read_kind >>= λ k. return (kind_number k ∷ [])

-- a count, and so many elements from a start on
unfoldable pub list_numbers : Reader (List ℕ) → List ℕ → ℕ → ℕ → List ℕ
list_numbers element page start count = count ∷ join (listed element count (drop start page))

abbrev pub label_numbers : List ℕ → ℕ → ℕ → List ℕ
label_numbers page = list_numbers (read_label_numbers page) page

-- ## Modifiers

abbrev pub label_modifier_numbers : List ℕ → Option LabelModifier → List ℕ
label_modifier_numbers page None = 0 ∷ []
label_modifier_numbers page (Some (Include list)) = 1 ∷ label_numbers page list.start list.count
label_modifier_numbers page (Some (Exclude list)) = 2 ∷ label_numbers page list.start list.count

abbrev pub cardinality_numbers : List ℕ → Cardinality → List ℕ
cardinality_numbers page OneToOne = 0 ∷ []
cardinality_numbers page (ManyToOne list) = 1 ∷ label_numbers page list.start list.count
cardinality_numbers page (OneToMany list) = 2 ∷ label_numbers page list.start list.count
cardinality_numbers page ManyToMany = 3 ∷ []

abbrev pub bin_modifier_numbers : List ℕ → BinModifier → List ℕ
bin_modifier_numbers page m =
    flag_number m.returns_bool
    ∷ label_modifier_numbers page m.matching
    ++ cardinality_numbers page m.card
    ++ option_numbers literal_numbers m.lhs
    ++ option_numbers literal_numbers m.rhs

-- ## Times and signatures

abbrev pub at_numbers : AtModifier → List ℕ
at_numbers Start = 0 ∷ []
at_numbers End = 1 ∷ []
at_numbers (After n) = 2 ∷ n ∷ []
at_numbers (Before n) = 3 ∷ n ∷ []

abbrev pub offset_numbers : Offset → List ℕ
offset_numbers (Pos n) = 0 ∷ n ∷ []
offset_numbers (Neg n) = 1 ∷ n ∷ []

abbrev pub variadic_numbers : Variadic → List ℕ
variadic_numbers Fixed = 0 ∷ []
variadic_numbers Unlimited = 1 ∷ []
variadic_numbers (UpTo n) = 2 ∷ n ∷ []

abbrev pub function_numbers : List ℕ → Function → List ℕ
function_numbers page f =
    span_numbers f.name
    ++ list_numbers read_kind_numbers page f.kinds.start f.kinds.count
    ++ variadic_numbers f.variadic
    ++ (kind_number (kind_of f.result) ∷ [])

-- ## Records: the kind, 0 to 11, and the fields

abbrev pub selector_numbers : List ℕ → Selector → List ℕ
selector_numbers page s = span_numbers s.name ++ list_numbers (read_matcher_numbers page) page s.matchers.start s.matchers.count

abbrev pub field_numbers : List ℕ → Record → List ℕ
field_numbers page (code.Number l) = literal_numbers l
field_numbers page (code.String s) = span_numbers s
field_numbers page (code.Selector s) = selector_numbers page s
field_numbers page (code.Range n) = n ∷ []
field_numbers page (code.Subquery n s) = n ∷ option_numbers itself_number s
field_numbers page (code.At a) = at_numbers a
field_numbers page (code.Offset o) = offset_numbers o
field_numbers page code.Unary = []
field_numbers page code.Paren = []
field_numbers page (code.Binary c m) = c ∷ option_numbers (bin_modifier_numbers page) m
field_numbers page (code.Aggregate c m n) = c ∷ label_modifier_numbers page m ++ (n ∷ [])
field_numbers page (code.Call f n) = function_numbers page f ++ (n ∷ [])

abbrev pub record_kind : Record → ℕ
record_kind (code.Number l) = 0
record_kind (code.String s) = 1
record_kind (code.Selector s) = 2
record_kind (code.Range n) = 3
record_kind (code.Subquery n s) = 4
record_kind (code.At a) = 5
record_kind (code.Offset o) = 6
record_kind code.Unary = 7
record_kind code.Paren = 8
record_kind (code.Binary c m) = 9
record_kind (code.Aggregate c m n) = 10
record_kind (code.Call f n) = 11

abbrev pub record_numbers : List ℕ → Record → List ℕ
record_numbers page r = record_kind r ∷ field_numbers page r
