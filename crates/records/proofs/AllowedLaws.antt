-- Every record that is read is one that document 01 allows (`read_record-gives`), field by field, by the closure laws of
-- `Gives`. Assumes nothing.
use Prim.Native.Nat.{ℕ, ◌≤◌, ◌<◌}
use mathlib.Core.Bool.{Bool, true, false}
use mathlib.Core.Option.{none, some}
use lib.Dec.{T, leb, ltb, leb→le, ltb→lt}
use Rattle.page.specs.Limits.{text_limit, count_limit, function_name_limit, time_limit}
use Rattle.page.specs.Read.{Reader, ◌>>=◌, return, ensure, bad_field, past_limit}
use Rattle.page.specs.Number.{read_number}
use Rattle.page.specs.Text.{Text, is_text, is_label, is_selector_name, read_any_text}
use Rattle.page.specs.Allowed.{IsNumber}
use Rattle.page.proofs.ReadBackLaws.{Gives, gives-return, gives-ensure, gives-bind, gives-field, ◌also◌, no_more}
use Rattle.page.proofs.ReadBackLaws.{gives-choice, read_number-gives, read_text-gives, read_count-gives, read_list-gives}
use Rattle.records.specs.Kind.{vector, scalar, matrix, string}
use Rattle.records.specs.Code.{is_code}
use Rattle.records.specs.Literal.{Magnitude, whole, fraction, infinite, Literal, plus, minus, nan, is_digits, is_places}
use Rattle.records.specs.Literal.{read_fraction, read_literal}
use Rattle.records.specs.Float.{IsExact}
use Rattle.records.specs.Field.{read_flag, read_option, read_kind, read_labels}
use Rattle.records.specs.Matcher.{MatchOp, equal, not_equal, re, not_re, Matcher, read_matcher}
use Rattle.records.specs.Modifier.{include, exclude, read_label_modifier, one_to_one, many_to_many, many_to_one, one_to_many, read_cardinality, read_bin_modifier}
use Rattle.records.specs.Time.{pos, neg, read_offset, start, end, after, before, read_time, read_at_modifier}
use Rattle.records.specs.Signature.{fixed, unlimited, up_to, read_variadic, read_function}
use Rattle.records.specs.Record.{number, string as string_leaf, range, subquery, at, offset, unary, paren, leaf}
use Rattle.records.specs.Record.{wrapper, binary, aggregate, call, read_code, read_selector, read_subquery}
use Rattle.records.specs.Record.{read_binary, read_aggregate, read_call, read_record}
use Rattle.records.specs.Allowed.{IsOptionOf, IsAnyText, AreLabels, IsMatcher, IsLabelModifier, IsCardinality}
use Rattle.records.specs.Allowed.{IsFill, IsBinModifier, IsOffset, IsAtModifier, IsVariadic, IsKind, IsFunction}
use Rattle.records.specs.Allowed.{IsAllowed}

-- ## Fields that serve many records

read_fraction-gives : (sign : Magnitude → Literal) → ((d p : ℕ) → T (is_digits d) → T (is_places p) → IsExact (sign (fraction d p)))
    → Gives (read_fraction sign) IsExact
read_fraction-gives sign is =
    gives-bind _ read_number-gives λ d h.
    gives-bind {P = λ d. T (is_digits d)} _ (gives-ensure (is_digits d) bad_field d (λ t. t)) λ d i.
    gives-bind _ read_number-gives λ p k.
    gives-field (λ p. sign (fraction d p)) (gives-ensure {P = λ p. T (is_places p)} (is_places p) bad_field p (λ t. t)) (λ p j. is d p i j)

pub read_literal-gives : Gives read_literal IsExact
read_literal-gives =
    gives-choice (
    gives-field (λ n. plus (whole n)) read_number-gives (λ n h. h)
    also gives-field (λ n. minus (whole n)) read_number-gives (λ n h. h)
    also gives-return nan tt
    also gives-return (plus infinite) tt
    also gives-return (minus infinite) tt
    also read_fraction-gives plus (λ d p h k. (h, k))
    also read_fraction-gives minus (λ d p h k. (h, k))
    also no_more
    )

abbrev IsFlag : Bool → Type 0
IsFlag b = Unit {0}

read_flag-gives : Gives read_flag IsFlag
read_flag-gives = gives-choice (gives-return false tt also gives-return true tt also no_more)

pub read_option-gives : {A : Type 0} (r : Reader A) (P : A → Type 0) → Gives r P → Gives (read_option r) (IsOptionOf P)
read_option-gives r P h = gives-choice (gives-return none tt also gives-field some h (λ a k. k) also no_more)

read_kind-gives : Gives read_kind IsKind
read_kind-gives =
    gives-choice (gives-return vector tt also gives-return scalar tt also gives-return matrix tt also gives-return string tt also no_more)

pub read_any_text-gives : Gives read_any_text IsAnyText
read_any_text-gives = read_text-gives text_limit is_text

pub read_labels-gives : Gives read_labels AreLabels
read_labels-gives = read_list-gives read_any_text IsAnyText read_any_text-gives

-- ## Matchers and modifiers

abbrev matcher : MatchOp → Text → Text → Matcher
matcher o n v = record { op = o; name = n; value = v }

plain-gives : (o : MatchOp) → Gives (read_any_text >>= λ n. read_any_text >>= λ v. return (matcher o n v)) IsMatcher
plain-gives o = gives-bind _ read_any_text-gives (λ n h. gives-field (matcher o n) read_any_text-gives (λ v k. (h, k)))

pattern-gives : (o : Bool → MatchOp) → Gives (read_any_text >>= λ n. read_any_text >>= λ v. read_flag >>= λ b. return (matcher (o b) n v)) IsMatcher
pattern-gives o =
    gives-bind _ read_any_text-gives (λ n h. gives-bind _ read_any_text-gives (λ v k. gives-field (λ b. matcher (o b) n v) read_flag-gives (λ b l. (h, k))))

pub read_matcher-gives : Gives read_matcher IsMatcher
read_matcher-gives = gives-choice (plain-gives equal also plain-gives not_equal also pattern-gives re also pattern-gives not_re also no_more)

pub read_label_modifier-gives : Gives read_label_modifier (IsOptionOf IsLabelModifier)
read_label_modifier-gives =
    gives-choice (
    gives-return none tt
    also gives-field (λ ls. some (include ls)) read_labels-gives (λ ls h. h)
    also gives-field (λ ls. some (exclude ls)) read_labels-gives (λ ls h. h)
    also no_more
    )

pub read_cardinality-gives : Gives read_cardinality IsCardinality
read_cardinality-gives =
    gives-choice (
    gives-return one_to_one tt
    also gives-field many_to_one read_labels-gives (λ ls h. h)
    also gives-field one_to_many read_labels-gives (λ ls h. h)
    also gives-return many_to_many tt
    also no_more
    )

read_fill-gives : Gives (read_option read_literal) IsFill
read_fill-gives = read_option-gives read_literal IsExact read_literal-gives

pub read_bin_modifier-gives : Gives read_bin_modifier IsBinModifier
read_bin_modifier-gives =
    gives-bind _ read_flag-gives λ b h.
    gives-bind _ read_label_modifier-gives λ m i.
    gives-bind _ read_cardinality-gives λ c j.
    gives-bind _ read_fill-gives λ l k.
    gives-field _ read_fill-gives (λ r n. (i, j, k, n))

-- ## Times and signatures

pub read_offset-gives : Gives read_offset IsOffset
read_offset-gives = gives-choice (gives-field pos read_number-gives (λ n h. h) also gives-field neg read_number-gives (λ n h. h) also no_more)

-- a number from 1 to a limit
from_one : (limit : ℕ) → Gives (read_number >>= λ n. ensure (ltb 0 n) bad_field n >>= λ n. ensure (leb n limit) past_limit n) (λ n. (0 < n) × (n ≤ limit))
from_one limit =
    gives-bind _ read_number-gives λ n h.
    gives-bind {P = λ n. 0 < n} _ (gives-ensure (ltb 0 n) bad_field n (λ t. ltb→lt 0 n t)) λ n p.
    gives-ensure (leb n limit) past_limit n (λ t. (p, leb→le n limit t))

read_time-gives : Gives read_time (λ n. n ≤ time_limit)
read_time-gives = gives-bind _ read_number-gives (λ n h. gives-ensure (leb n time_limit) past_limit n (λ t. leb→le n time_limit t))

pub read_at_modifier-gives : Gives read_at_modifier IsAtModifier
read_at_modifier-gives =
    gives-choice (
    gives-return start tt
    also gives-return end tt
    also gives-field after read_time-gives (λ n h. h)
    also gives-field before (from_one time_limit) (λ n h. h)
    also no_more
    )

pub read_variadic-gives : Gives read_variadic IsVariadic
read_variadic-gives = gives-choice (gives-return fixed tt also gives-return unlimited tt also gives-field up_to (from_one count_limit) (λ n h. h) also no_more)

pub read_function-gives : Gives read_function IsFunction
read_function-gives =
    gives-bind _ (read_text-gives function_name_limit is_label) λ n h.
    gives-bind _ (read_list-gives read_kind IsKind read_kind-gives) λ ks i.
    gives-bind _ read_variadic-gives λ v j.
    gives-field _ read_kind-gives (λ k l. (h, i, j))

-- ## Records

read_code-gives : Gives read_code (λ c. T (is_code c))
read_code-gives = gives-bind _ read_number-gives (λ c h. gives-ensure (is_code c) bad_field c (λ t. t))

read_selector-gives : Gives read_selector IsAllowed
read_selector-gives =
    gives-bind _ (read_text-gives text_limit is_selector_name) λ n h.
    gives-field _ (read_list-gives read_matcher IsMatcher read_matcher-gives) (λ ms k. (h, k))

read_subquery-gives : Gives read_subquery IsAllowed
read_subquery-gives =
    gives-bind _ read_number-gives (λ r h. gives-field (λ s. wrapper (subquery r s)) (read_option-gives read_number IsNumber read_number-gives) (λ s k. (h, k)))

read_binary-gives : Gives read_binary IsAllowed
read_binary-gives =
    gives-bind _ read_code-gives (λ c h. gives-field (binary c) (read_option-gives read_bin_modifier IsBinModifier read_bin_modifier-gives) (λ m k. (h, k)))

read_aggregate-gives : Gives read_aggregate IsAllowed
read_aggregate-gives =
    gives-bind _ read_code-gives (λ c h. gives-bind _ read_label_modifier-gives (λ m k. gives-field (aggregate c m) read_count-gives (λ n l. (h, k, l))))

read_call-gives : Gives read_call IsAllowed
read_call-gives = gives-bind _ read_function-gives (λ f h. gives-field (call f) read_count-gives (λ n k. (h, k)))

-- every record that is read is allowed
pub read_record-gives : Gives read_record IsAllowed
unfolding read_record
read_record-gives =
    gives-choice (
    gives-field (λ l. leaf (number l)) read_literal-gives (λ l h. h)
    also gives-field (λ t. leaf (string_leaf t)) read_any_text-gives (λ t h. h)
    also read_selector-gives
    also gives-field (λ n. wrapper (range n)) read_number-gives (λ n h. h)
    also read_subquery-gives
    also gives-field (λ a. wrapper (at a)) read_at_modifier-gives (λ a h. h)
    also gives-field (λ o. wrapper (offset o)) read_offset-gives (λ o h. h)
    also gives-return (wrapper unary) tt
    also gives-return (wrapper paren) tt
    also read_binary-gives
    also read_aggregate-gives
    also read_call-gives
    also no_more
    )
