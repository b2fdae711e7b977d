-- The records that document 01 allows ('The page'), field by field with its limits. A record so allowed is read back as
-- it was written, and every record that is read is one (proofs/ReadBackLaws, proofs/AllowedLaws).
use Rattle.std.specs.Prelude.{◌≤◌, ◌<◌, T}
use Rattle.std.proofs.Math.Option.{Option, none, some}
use Rattle.page.specs.Limits.{text_limit, count_limit, function_name_limit, time_limit}
use Rattle.page.specs.Text.{Text, is_text, is_label, is_selector_name}
use Rattle.page.specs.Allowed.{IsNumber, IsCount, IsTextOf, IsListOf}
use Rattle.records.specs.Kind.{Kind}
use Rattle.records.specs.Code.{is_code}
use Rattle.records.specs.Literal.{Literal}
use Rattle.records.specs.Float.{IsExact}
use Rattle.records.specs.Field.{Labels}
use Rattle.records.specs.Matcher.{Matcher, Selector}
use Rattle.records.specs.Modifier.{LabelModifier, include, exclude, Cardinality, one_to_one, many_to_many, many_to_one, one_to_many, BinModifier}
use Rattle.records.specs.Time.{Offset, pos, neg, AtModifier, start, end, after, before}
use Rattle.records.specs.Signature.{Variadic, fixed, unlimited, up_to, Function}
use Rattle.records.specs.Record.{Leaf, number, string, selector, Wrapper, range, subquery, at, offset, unary}
use Rattle.records.specs.Record.{paren, Record, leaf, wrapper, binary, aggregate, call}

-- ## Fields

-- there is none, or it has the property
abbrev pub IsOptionOf : {A : Type 0} → (A → Type 0) → Option A → Type 0
IsOptionOf P none = Unit {0}
IsOptionOf P (some a) = P a

abbrev pub IsAnyText : Text → Type 0
IsAnyText = IsTextOf text_limit is_text

abbrev pub AreLabels : Labels → Type 0
AreLabels = IsListOf IsAnyText

abbrev pub IsMatcher : Matcher → Type 0
IsMatcher m = IsAnyText m.name × IsAnyText m.value

abbrev pub IsSelector : Selector → Type 0
IsSelector s = IsTextOf text_limit is_selector_name s.name × IsListOf IsMatcher s.matchers

abbrev pub IsLabelModifier : LabelModifier → Type 0
IsLabelModifier (include ls) = AreLabels ls
IsLabelModifier (exclude ls) = AreLabels ls

abbrev pub IsCardinality : Cardinality → Type 0
IsCardinality one_to_one = Unit {0}
IsCardinality many_to_many = Unit {0}
IsCardinality (many_to_one ls) = AreLabels ls
IsCardinality (one_to_many ls) = AreLabels ls

-- a fill is a literal whose magnitude a page can hold
abbrev pub IsFill : Option Literal → Type 0
IsFill = IsOptionOf IsExact

abbrev pub IsBinModifier : BinModifier → Type 0
IsBinModifier m =
    IsOptionOf IsLabelModifier m.matching
    × IsCardinality m.card
    × IsFill m.fill_values.lhs
    × IsFill m.fill_values.rhs

abbrev pub IsOffset : Offset → Type 0
IsOffset (pos n) = IsNumber n
IsOffset (neg n) = IsNumber n

-- "0 there is refused with 1" of a negative time
abbrev pub IsAtModifier : AtModifier → Type 0
IsAtModifier start = Unit {0}
IsAtModifier end = Unit {0}
IsAtModifier (after n) = n ≤ time_limit
IsAtModifier (before n) = (0 < n) × (n ≤ time_limit)

-- an upper extra from 1 to 16
abbrev pub IsVariadic : Variadic → Type 0
IsVariadic fixed = Unit {0}
IsVariadic unlimited = Unit {0}
IsVariadic (up_to n) = (0 < n) × (n ≤ count_limit)

abbrev pub IsKind : Kind → Type 0
IsKind k = Unit {0}

abbrev pub IsFunction : Function → Type 0
IsFunction f = IsTextOf function_name_limit is_label f.name × IsListOf IsKind f.arg_types × IsVariadic f.variadic

-- ## Records

abbrev pub IsLeaf : Leaf → Type 0
IsLeaf (number l) = IsExact l
IsLeaf (string t) = IsAnyText t
IsLeaf (selector s) = IsSelector s

abbrev pub IsWrapper : Wrapper → Type 0
IsWrapper (range n) = IsNumber n
IsWrapper (subquery r s) = IsNumber r × IsOptionOf IsNumber s
IsWrapper (at a) = IsAtModifier a
IsWrapper (offset o) = IsOffset o
IsWrapper unary = Unit {0}
IsWrapper paren = Unit {0}

abbrev pub IsAllowed : Record → Type 0
IsAllowed (leaf l) = IsLeaf l
IsAllowed (wrapper w) = IsWrapper w
IsAllowed (binary c m) = T (is_code c) × IsOptionOf IsBinModifier m
IsAllowed (aggregate c m n) = T (is_code c) × IsOptionOf IsLabelModifier m × IsCount n
IsAllowed (call f n) = IsFunction f × IsCount n
