-- Every record that document 01 allows is read back as it was written, whatever follows (`read_record-back`); field by
-- field, by the closure laws of `ReadsAs`. Assumes nothing.
use Prim.Native.Nat.{ℕ, ◌≤◌, ◌<◌}
use mathlib.Core.Path.{sym}
use mathlib.Core.Bool.{Bool, true, false}
use mathlib.Core.List.{List, ◌∷◌, ◌++◌, append_assoc}
use mathlib.Core.Option.{Option, none, some}
use native.Mathlib.Omega.{arith}
use lib.Dec.{T, leb, ltb, leb→le, le→leb, lt→ltb}
use Rattle.page.specs.Limits.{number_limit, text_limit, count_limit, function_name_limit, time_limit}
use Rattle.page.specs.Read.{Reader, ◌>>=◌, return, ensure, bad_field, past_limit}
use Rattle.page.specs.Number.{read_number, write_number}
use Rattle.page.specs.Text.{Text, is_text, is_label, is_selector_name, read_any_text, write_text, write_list}
use Rattle.page.specs.Allowed.{IsNumber, IsCount}
use Rattle.page.proofs.NumberLaws.{right_of}
use Rattle.page.proofs.ReaderLaws.{append-nil}
use Rattle.page.proofs.ReadBackLaws.{ReadsAs, ReadsBack, reads-return, reads-ensure, reads_as, reads-bind, reads-field}
use Rattle.page.proofs.ReadBackLaws.{reads-tested, reads-choice, read_number-back, read_text-back, read_count-back}
use Rattle.page.proofs.ReadBackLaws.{read_list-back}
use Rattle.records.specs.Kind.{vector, scalar, matrix, string}
use Rattle.records.specs.Code.{is_code}
use Rattle.records.specs.Literal.{Magnitude, whole, fraction, infinite, Literal, plus, minus, nan, is_digits, is_places}
use Rattle.records.specs.Literal.{read_fraction, literal_forms, read_literal, write_literal}
use Rattle.records.specs.Float.{IsExact}
use Rattle.records.specs.Field.{flag_forms, read_flag, write_flag, option_forms, read_option, write_option, kind_forms}
use Rattle.records.specs.Field.{read_kind, write_kind, read_labels, write_labels}
use Rattle.records.specs.Matcher.{MatchOp, equal, not_equal, re, not_re, Matcher, Selector, matcher_forms, read_matcher, write_matcher}
use Rattle.records.specs.Modifier.{LabelModifier, include, exclude, label_modifier_forms, read_label_modifier}
use Rattle.records.specs.Modifier.{write_label_modifier, one_to_one, many_to_many, many_to_one, one_to_many}
use Rattle.records.specs.Modifier.{cardinality_forms, read_cardinality, write_cardinality, BinModifier}
use Rattle.records.specs.Modifier.{read_bin_modifier, write_bin_modifier}
use Rattle.records.specs.Time.{pos, neg, offset_forms, read_offset, write_offset, start, end, after, before, at_forms, read_at_modifier, write_at_modifier}
use Rattle.records.specs.Signature.{fixed, unlimited, up_to, variadic_forms, read_variadic, write_variadic, Function}
use Rattle.records.specs.Signature.{read_signature, write_signature, read_function, write_function}
use Rattle.records.specs.Record.{number, string as string_leaf, selector, range, subquery, at, offset, unary}
use Rattle.records.specs.Record.{paren, leaf, wrapper, binary, aggregate, call, read_code, read_selector}
use Rattle.records.specs.Record.{read_subquery, read_binary, read_aggregate, read_call, record_forms, read_record}
use Rattle.records.specs.Record.{write_record}
use Rattle.records.specs.Allowed.{IsOptionOf, IsAnyText, AreLabels, IsMatcher, IsSelector, IsLabelModifier}
use Rattle.records.specs.Allowed.{IsCardinality, IsFill, IsBinModifier, IsOffset, IsAtModifier, IsVariadic}
use Rattle.records.specs.Allowed.{IsKind, IsFunction, IsAllowed}
use Rattle.records.proofs.FractionLaws.{digits-bounds, places-bounds}

-- ## Fields that serve many records

read_fraction-back : (sign : Magnitude → Literal) (d p : ℕ) → T (is_digits d) → T (is_places p)
    → ReadsAs (read_fraction sign) (write_number d ++ write_number p) (sign (fraction d p))
read_fraction-back sign d p h k =
    reads-bind _ (read_number-back d (omega (arith, digits-bounds d h)))
    (reads-bind _ (reads-ensure (is_digits d) bad_field d h)
    (reads_as (reads-bind _ (read_number-back p (omega (arith, places-bounds p k)))
    (reads-field (λ p. sign (fraction d p)) (reads-ensure (is_places p) bad_field p k))) (append-nil (write_number p))))

pub read_literal-back : ReadsBack read_literal write_literal IsExact
read_literal-back (plus (whole n)) h = reads-choice literal_forms 0 (omega arith) (reads-field (λ n. plus (whole n)) (read_number-back n h))
read_literal-back (minus (whole n)) h = reads-choice literal_forms 1 (omega arith) (reads-field (λ n. minus (whole n)) (read_number-back n h))
read_literal-back nan h = reads-choice literal_forms 2 (omega arith) (reads-return nan)
read_literal-back (plus infinite) h = reads-choice literal_forms 3 (omega arith) (reads-return (plus infinite))
read_literal-back (minus infinite) h = reads-choice literal_forms 4 (omega arith) (reads-return (minus infinite))
read_literal-back (plus (fraction d p)) h = reads-choice literal_forms 5 (omega arith) (read_fraction-back plus d p h.0 h.1)
read_literal-back (minus (fraction d p)) h = reads-choice literal_forms 6 (omega arith) (read_fraction-back minus d p h.0 h.1)

pub read_flag-back : ReadsBack read_flag write_flag (λ b. Unit {0})
read_flag-back false h = reads-choice flag_forms 0 (omega arith) (reads-return false)
read_flag-back true h = reads-choice flag_forms 1 (omega arith) (reads-return true)

pub read_option-back : {A : Type 0} (r : Reader A) (w : A → List ℕ) (P : A → Type 0) → ReadsBack r w P → ReadsBack (read_option r) (write_option w) (IsOptionOf P)
read_option-back r w P back none h = reads-choice (option_forms r) 0 (omega arith) (reads-return none)
read_option-back r w P back (some a) h = reads-choice (option_forms r) 1 (omega arith) (reads-field some (back a h))

pub read_kind-back : ReadsBack read_kind write_kind IsKind
read_kind-back vector h = reads-choice kind_forms 0 (omega arith) (reads-return vector)
read_kind-back scalar h = reads-choice kind_forms 1 (omega arith) (reads-return scalar)
read_kind-back matrix h = reads-choice kind_forms 2 (omega arith) (reads-return matrix)
read_kind-back string h = reads-choice kind_forms 3 (omega arith) (reads-return string)

pub read_any_text-back : ReadsBack read_any_text write_text IsAnyText
read_any_text-back = read_text-back text_limit is_text (omega arith)

pub read_labels-back : ReadsBack read_labels write_labels AreLabels
read_labels-back = read_list-back read_any_text write_text IsAnyText read_any_text-back

-- ## Matchers

abbrev matcher : MatchOp → Text → Text → Matcher
matcher o n v = record { op = o; name = n; value = v }

plain_back : (o : MatchOp) (n v : Text) → IsAnyText n → IsAnyText v
    → ReadsAs (read_any_text >>= λ n. read_any_text >>= λ v. return (matcher o n v)) (write_text n ++ write_text v) (matcher o n v)
plain_back o n v h k = reads-bind _ (read_any_text-back n h) (reads-field _ (read_any_text-back v k))

pattern-back : (o : Bool → MatchOp) (n v : Text) (b : Bool) → IsAnyText n → IsAnyText v
    → ReadsAs (read_any_text >>= λ n. read_any_text >>= λ v. read_flag >>= λ b. return (matcher (o b) n v))
    (write_text n ++ (write_text v ++ write_flag b)) (matcher (o b) n v)
pattern-back o n v b h k = reads-bind _ (read_any_text-back n h) (reads-bind _ (read_any_text-back v k) (reads-field _ (read_flag-back b tt)))

op-back : (o : MatchOp) (n v : Text) → IsAnyText n → IsAnyText v → ReadsAs read_matcher (write_matcher (matcher o n v)) (matcher o n v)
op-back equal n v h k = reads_as (reads-choice matcher_forms 0 (omega arith) (plain_back equal n v h k)) (sym (append-nil _))
op-back not_equal n v h k = reads_as (reads-choice matcher_forms 1 (omega arith) (plain_back not_equal n v h k)) (sym (append-nil _))
op-back (re b) n v h k =
    reads_as (reads-choice matcher_forms 2 (omega arith) (pattern-back re n v b h k))
    (sym (append_assoc (2 ∷ write_text n) (write_text v) (write_flag b)))
op-back (not_re b) n v h k =
    reads_as (reads-choice matcher_forms 3 (omega arith) (pattern-back not_re n v b h k))
    (sym (append_assoc (3 ∷ write_text n) (write_text v) (write_flag b)))

pub read_matcher-back : ReadsBack read_matcher write_matcher IsMatcher
read_matcher-back m h = op-back m.op m.name m.value h.0 h.1

-- ## Modifiers

pub read_label_modifier-back : ReadsBack read_label_modifier write_label_modifier (IsOptionOf IsLabelModifier)
read_label_modifier-back none h = reads-choice label_modifier_forms 0 (omega arith) (reads-return none)
read_label_modifier-back (some (include ls)) h = reads-choice label_modifier_forms 1 (omega arith) (reads-field (λ ls. some (include ls)) (read_labels-back ls h))
read_label_modifier-back (some (exclude ls)) h = reads-choice label_modifier_forms 2 (omega arith) (reads-field (λ ls. some (exclude ls)) (read_labels-back ls h))

pub read_cardinality-back : ReadsBack read_cardinality write_cardinality IsCardinality
read_cardinality-back one_to_one h = reads-choice cardinality_forms 0 (omega arith) (reads-return one_to_one)
read_cardinality-back (many_to_one ls) h = reads-choice cardinality_forms 1 (omega arith) (reads-field many_to_one (read_labels-back ls h))
read_cardinality-back (one_to_many ls) h = reads-choice cardinality_forms 2 (omega arith) (reads-field one_to_many (read_labels-back ls h))
read_cardinality-back many_to_many h = reads-choice cardinality_forms 3 (omega arith) (reads-return many_to_many)

read_fill-back : ReadsBack (read_option read_literal) (write_option write_literal) IsFill
read_fill-back = read_option-back read_literal write_literal IsExact read_literal-back

pub read_bin_modifier-back : ReadsBack read_bin_modifier write_bin_modifier IsBinModifier
read_bin_modifier-back m h =
    reads_as (
    reads-bind _ (read_flag-back m.return_bool tt)
    (reads-bind _ (read_label_modifier-back m.matching h.0)
    (reads-bind _ (read_cardinality-back m.card h.1)
    (reads-bind _ (read_fill-back m.fill_values.lhs h.2) (reads-field _ (read_fill-back m.fill_values.rhs h.3)))))
    ) (simp append_assoc)

-- ## Times

pub read_offset-back : ReadsBack read_offset write_offset IsOffset
read_offset-back (pos n) h = reads-choice offset_forms 0 (omega arith) (reads-field pos (read_number-back n h))
read_offset-back (neg n) h = reads-choice offset_forms 1 (omega arith) (reads-field neg (read_number-back n h))

-- a number from 1 to a limit
from_one : (limit n : ℕ) → limit ≤ number_limit → 0 < n → n ≤ limit
    → ReadsAs (read_number >>= λ n. ensure (ltb 0 n) bad_field n >>= λ n. ensure (leb n limit) past_limit n) (write_number n) n
from_one limit n l h k =
    reads_as (
    reads-bind _ (read_number-back n (omega arith))
    (reads-bind _ (reads-ensure (ltb 0 n) bad_field n (lt→ltb 0 n h)) (reads-ensure (leb n limit) past_limit n (le→leb n limit k)))
    ) (append-nil (write_number n))

pub read_at_modifier-back : ReadsBack read_at_modifier write_at_modifier IsAtModifier
read_at_modifier-back start h = reads-choice at_forms 0 (omega arith) (reads-return start)
read_at_modifier-back end h = reads-choice at_forms 1 (omega arith) (reads-return end)
read_at_modifier-back (after n) h =
    reads-choice at_forms 2 (omega arith)
    (reads-field after
    (reads-tested (λ n. leb n time_limit) past_limit (read_number-back n (omega arith)) (le→leb n time_limit h)))
read_at_modifier-back (before n) h = reads-choice at_forms 3 (omega arith) (reads-field before (from_one time_limit n (omega arith) h.0 h.1))

-- ## Signatures

pub read_variadic-back : ReadsBack read_variadic write_variadic IsVariadic
read_variadic-back fixed h = reads-choice variadic_forms 0 (omega arith) (reads-return fixed)
read_variadic-back unlimited h = reads-choice variadic_forms 1 (omega arith) (reads-return unlimited)
read_variadic-back (up_to n) h = reads-choice variadic_forms 2 (omega arith) (reads-field up_to (from_one count_limit n (omega arith) h.0 h.1))

pub read_signature-back : (f : Function) → IsFunction f → ReadsAs (read_signature f.name) (write_signature f) f
read_signature-back f h =
    reads_as (
    reads-bind _ (read_list-back read_kind write_kind IsKind read_kind-back f.arg_types h.1)
    (reads-bind _ (read_variadic-back f.variadic h.2) (reads-field _ (read_kind-back f.return_type tt)))
    ) (simp append_assoc)

pub read_function-back : ReadsBack read_function write_function IsFunction
read_function-back f h =
    reads-bind read_signature (read_text-back function_name_limit is_label (omega arith) f.name h.0) (read_signature-back f h)

-- ## Records

pub read_code-back : ReadsBack read_code write_number (λ c. T (is_code c))
read_code-back c h = reads-tested is_code bad_field (read_number-back c (omega (arith, leb→le c 30 (right_of (leb 1 c) (leb c 30) h)))) h

read_selector-back : (s : Selector) → IsSelector s → ReadsAs read_selector (write_text s.name ++ write_list write_matcher s.matchers) (leaf (selector s))
read_selector-back s h =
    reads-bind _ (read_text-back text_limit is_selector_name (omega arith) s.name h.0)
    (reads-field _ (read_list-back read_matcher write_matcher IsMatcher read_matcher-back s.matchers h.1))

read_subquery-back : (r : ℕ) (s : Option ℕ) → IsNumber r → IsOptionOf IsNumber s
    → ReadsAs read_subquery (write_number r ++ write_option write_number s) (wrapper (subquery r s))
read_subquery-back r s h k =
    reads-bind _ (read_number-back r h) (reads-field (λ s. wrapper (subquery r s)) (read_option-back read_number write_number IsNumber read_number-back s k))

read_binary-back : (c : ℕ) (m : Option BinModifier) → T (is_code c) → IsOptionOf IsBinModifier m
    → ReadsAs read_binary (write_number c ++ write_option write_bin_modifier m) (binary c m)
read_binary-back c m h k =
    reads-bind _ (read_code-back c h) (reads-field (binary c) (read_option-back read_bin_modifier write_bin_modifier IsBinModifier read_bin_modifier-back m k))

read_aggregate-back : (c : ℕ) (m : Option LabelModifier) (n : ℕ) → T (is_code c) → IsOptionOf IsLabelModifier m → IsCount n
    → ReadsAs read_aggregate (write_number c ++ (write_label_modifier m ++ write_number n)) (aggregate c m n)
read_aggregate-back c m n h k l =
    reads-bind _ (read_code-back c h) (reads-bind _ (read_label_modifier-back m k) (reads-field (aggregate c m) (read_count-back n l)))

read_call-back : (f : Function) (n : ℕ) → IsFunction f → IsCount n → ReadsAs read_call (write_function f ++ write_number n) (call f n)
read_call-back f n h k = reads-bind _ (read_function-back f h) (reads-field (call f) (read_count-back n k))

-- every allowed record is read back
pub read_record-back : ReadsBack read_record write_record IsAllowed
unfolding read_record write_record
read_record-back (leaf (number l)) h = reads-choice record_forms 0 (omega arith) (reads-field (λ l. leaf (number l)) (read_literal-back l h))
read_record-back (leaf (string_leaf t)) h = reads-choice record_forms 1 (omega arith) (reads-field (λ t. leaf (string_leaf t)) (read_any_text-back t h))
read_record-back (leaf (selector s)) h = reads-choice record_forms 2 (omega arith) (read_selector-back s h)
read_record-back (wrapper (range n)) h = reads-choice record_forms 3 (omega arith) (reads-field (λ n. wrapper (range n)) (read_number-back n h))
read_record-back (wrapper (subquery r s)) h = reads-choice record_forms 4 (omega arith) (read_subquery-back r s h.0 h.1)
read_record-back (wrapper (at a)) h = reads-choice record_forms 5 (omega arith) (reads-field (λ a. wrapper (at a)) (read_at_modifier-back a h))
read_record-back (wrapper (offset o)) h = reads-choice record_forms 6 (omega arith) (reads-field (λ o. wrapper (offset o)) (read_offset-back o h))
read_record-back (wrapper unary) h = reads-choice record_forms 7 (omega arith) (reads-return (wrapper unary))
read_record-back (wrapper paren) h = reads-choice record_forms 8 (omega arith) (reads-return (wrapper paren))
read_record-back (binary c m) h = reads-choice record_forms 9 (omega arith) (read_binary-back c m h.0 h.1)
read_record-back (aggregate c m n) h = reads_as (reads-choice record_forms 10 (omega arith) (read_aggregate-back c m n h.0 h.1 h.2)) (simp append_assoc)
read_record-back (call f n) h = reads-choice record_forms 11 (omega arith) (read_call-back f n h.0 h.1)
