-- How long what a node writes of its own can be: labels and matchers at most four bytes for each byte that they have on
-- the page, all else at most a fixed number of bytes. Assumes nothing.
use Prim.Native.Nat.{ℕ, zero, suc, ◌+◌, ◌-◌, ◌*◌, ◌≤◌}
use Prim.Native.String.{String}
use native.Mathlib.Omega.{arith}
use mathlib.Core.Bool.{Bool, true, false}
use mathlib.Core.List.{List, [], ◌∷◌, ◌++◌}
use mathlib.Core.Option.{Option, none, some}
use lib.ListN.{length, get_or, length-append}
use lib.Dec.{T, leb, leb→le}
use Rattle.page.specs.Bytes.{pick, bytes, all}
use Rattle.page.specs.Text.{write_text, write_all, write_list}
use Rattle.page.specs.Number.{write_number}
use Rattle.page.specs.Allowed.{IsNumber}
use Rattle.page.proofs.LengthLaws.{write_text-some}
use Rattle.page.proofs.NumberLaws.{left-of, right_of}
use Rattle.records.specs.Code.{tokens, token}
use Rattle.records.specs.Literal.{Literal, plus, minus, nan, negate, write_literal, equal_by_value}
use Rattle.records.specs.Float.{IsExact}
use Rattle.records.specs.Field.{Labels, write_flag, write_option, write_labels}
use Rattle.records.specs.Matcher.{Matcher, Selector, write_matcher}
use Rattle.records.specs.Modifier.{LabelModifier, include, exclude, write_label_modifier, Cardinality, one_to_one}
use Rattle.records.specs.Modifier.{many_to_many, many_to_one, one_to_many, write_cardinality, BinModifier, write_bin_modifier}
use Rattle.records.specs.Time.{Times, AtModifier, Offset}
use Rattle.records.specs.Allowed.{IsOptionOf, IsFill, IsBinModifier, IsAtModifier, IsOffset}
use Rattle.leaves.specs.Numeral.{display_number, display_literal, display_fill, longest_numeral}
use Rattle.leaves.specs.Duration.{display_duration}
use Rattle.leaves.specs.Time.{display_at, display_offset}
use Rattle.leaves.proofs.LengthLaws.{display_fill-short, display_duration-short, display_at-short, display_offset-short}
use Rattle.label.specs.Label.{display_labels, display_matchers}
use Rattle.label.proofs.LengthLaws.{display_labels-short, display_matchers-short}
use Rattle.ast.specs.Construct.{no_times}
use Rattle.text.specs.Display.{optional, labelled, display_bool, display_matching, display_cardinality, filled}
use Rattle.text.specs.Display.{display_fills, display_modifier, display_operator, display_grouping, display_aggregator}
use Rattle.text.specs.Display.{display_times, display_suffix, display_braces, display_selector}
use Rattle.text.specs.Layout.{display_range}
use Rattle.text.specs.Chain.{or_else, overlaid, with_at, with_offset}

-- ## Words

tokens-short : (ws : List String) → T (all (λ w. leb (length (bytes w)) 12) ws) → (i : ℕ) → length (bytes (get_or ws i "")) ≤ 12
tokens-short [] h i = omega arith
tokens-short (w ∷ ws) h zero = leb→le (length (bytes w)) 12 (left-of (leb (length (bytes w)) 12) _ h)
tokens-short (w ∷ ws) h (suc i) = tokens-short ws (right_of (leb (length (bytes w)) 12) _ h) i

token-short : (c : ℕ) → length (token c) ≤ 12
token-short c = tokens-short tokens tt (c - 1)

-- ## Numbers

-- the sign is one byte
pub display_literal-negate : (l : Literal) → length (display_literal (negate l)) ≤ suc (length (display_literal l))
unfolding display_literal display_number
display_literal-negate (plus m) = omega arith
display_literal-negate (minus m) = omega arith
display_literal-negate nan = omega arith

-- ## Modifiers

labelled-short : (w : String) (ls : Labels) → length (labelled w ls) ≤ length (bytes w) + 3 + 4 * length (write_labels ls)
labelled-short w ls =
    omega (
      arith,
      length-append (bytes w ++ bytes " (" ++ display_labels ls) (bytes ")"),
      length-append (bytes w ++ bytes " (") (display_labels ls),
      length-append (bytes w) (bytes " ("),
      display_labels-short ls,
    )

display_bool-short : (b : Bool) → length (display_bool b) ≤ 5
display_bool-short true = omega arith
display_bool-short false = omega arith

display_matching-short : (m : Option LabelModifier) → length (display_matching m) ≤ 12 + 4 * length (write_label_modifier m)
display_matching-short none = omega arith
display_matching-short (some (include ls)) = omega (arith, labelled-short " on" ls)
display_matching-short (some (exclude [])) = omega arith
display_matching-short (some (exclude (l ∷ ls))) = omega (arith, labelled-short " ignoring" (l ∷ ls))

display_cardinality-short : (r : Cardinality) → length (display_cardinality r) ≤ 15 + 4 * length (write_cardinality r)
display_cardinality-short one_to_one = omega arith
display_cardinality-short many_to_many = omega arith
display_cardinality-short (many_to_one ls) = omega (arith, labelled-short " group_left" ls)
display_cardinality-short (one_to_many ls) = omega (arith, labelled-short " group_right" ls)

filled-short : (w : String) (l : Literal) → IsExact l → length (filled w l) ≤ length (bytes w) + 3 + longest_numeral
filled-short w l h =
    omega (
      arith,
      length-append (bytes w ++ bytes " (" ++ display_fill l) (bytes ")"),
      length-append (bytes w ++ bytes " (") (display_fill l),
      length-append (bytes w) (bytes " ("),
      display_fill-short l h,
    )

-- both words, with a number each
pub display_fills-short : (l r : Option Literal) → IsFill l → IsFill r → length (display_fills l r) ≤ 27 + 2 * longest_numeral
display_fills-short none none h k = omega arith
display_fills-short (some l) none h k = omega (arith, filled-short " fill_left" l h)
display_fills-short none (some r) h k = omega (arith, filled-short " fill_right" r k)
display_fills-short (some l) (some r) h k = by (equal_by_value r l)
  where
    by : (b : Bool) → length (pick b (filled " fill" r) (filled " fill_left" l ++ filled " fill_right" r)) ≤ 27 + 2 * longest_numeral
    by true = omega (arith, filled-short " fill" r k)
    by false = omega (arith, length-append (filled " fill_left" l) (filled " fill_right" r), filled-short " fill_left" l h, filled-short " fill_right" r k)

display_modifier-short : (m : BinModifier) → IsBinModifier m → length (display_modifier m) ≤ 59 + 2 * longest_numeral + 4 * length (write_bin_modifier m)
display_modifier-short m h = omega (arith, shown, written)
  where
    shown : length (display_modifier m) ≤ 59 + 2 * longest_numeral + 4 * length (write_label_modifier m.matching) + 4 * length (write_cardinality m.card)
    shown =
        omega (
          arith,
          length-append
              (display_bool m.return_bool ++ display_matching m.matching ++ display_cardinality m.card)
              (display_fills m.fill_values.lhs m.fill_values.rhs),
          length-append (display_bool m.return_bool ++ display_matching m.matching) (display_cardinality m.card),
          length-append (display_bool m.return_bool) (display_matching m.matching),
          display_bool-short m.return_bool,
          display_matching-short m.matching,
          display_cardinality-short m.card,
          display_fills-short m.fill_values.lhs m.fill_values.rhs h.2 h.3,
        )

    written : length (write_label_modifier m.matching) + length (write_cardinality m.card) ≤ length (write_bin_modifier m)
    written =
        let front = write_flag m.return_bool ++ write_label_modifier m.matching ++ write_cardinality m.card in
        omega (
          arith,
          length-append (front ++ write_option write_literal m.fill_values.lhs) (write_option write_literal m.fill_values.rhs),
          length-append front (write_option write_literal m.fill_values.lhs),
          length-append (write_flag m.return_bool ++ write_label_modifier m.matching) (write_cardinality m.card),
          length-append (write_flag m.return_bool) (write_label_modifier m.matching),
        )

pub display_operator-short : (c : ℕ) (m : Option BinModifier) → IsOptionOf IsBinModifier m
    → length (display_operator c m) ≤ 71 + 2 * longest_numeral + 4 * length (write_option write_bin_modifier m)
display_operator-short c none h = omega (arith, length-append (token c) [], token-short c)
display_operator-short c (some m) h = omega (arith, length-append (token c) (display_modifier m), token-short c, display_modifier-short m h)

display_grouping-short : (m : Option LabelModifier) → length (display_grouping m) ≤ 12 + 4 * length (write_label_modifier m)
display_grouping-short none = omega arith
display_grouping-short (some (exclude ls)) = omega (arith, length-append (labelled " without" ls) (bytes " "), labelled-short " without" ls)
display_grouping-short (some (include [])) = omega arith
display_grouping-short (some (include (l ∷ ls))) = omega (arith, length-append (labelled " by" (l ∷ ls)) (bytes " "), labelled-short " by" (l ∷ ls))

pub display_aggregator-short : (c : ℕ) (m : Option LabelModifier) → length (display_aggregator c m) ≤ 24 + 4 * length (write_label_modifier m)
display_aggregator-short c m = omega (arith, length-append (token c) (display_grouping m), token-short c, display_grouping-short m)

-- ## Times

pub display_range-short : (n : ℕ) → IsNumber n → length (display_range (some n)) ≤ 42
display_range-short n h = omega (arith, length-append (display_duration n) (bytes "]"), display_duration-short n h)

pub at-times-short : (a : AtModifier) → IsAtModifier a → length (display_times (with_at a no_times)) ≤ 23
at-times-short a h = omega (arith, length-append (display_at a) [], display_at-short a h)

pub offset-times-short : (o : Offset) → IsOffset o → length (display_times (with_offset o no_times)) ≤ 49
offset-times-short o h = omega (arith, display_offset-short o h)

step-short : (s : Option ℕ) → IsOptionOf IsNumber s → length (optional display_duration s) ≤ 40
step-short none h = omega arith
step-short (some n) h = display_duration-short n h

pub display_suffix-short : (r : ℕ) (s : Option ℕ) → IsNumber r → IsOptionOf IsNumber s → length (display_suffix r s no_times) ≤ 83
display_suffix-short r s h k =
    omega (
      arith,
      length-append (bytes "[" ++ display_duration r ++ bytes ":" ++ optional display_duration s ++ bytes "]") [],
      length-append (bytes "[" ++ display_duration r ++ bytes ":" ++ optional display_duration s) (bytes "]"),
      length-append (bytes "[" ++ display_duration r ++ bytes ":") (optional display_duration s),
      length-append (bytes "[" ++ display_duration r) (bytes ":"),
      display_duration-short r h,
      step-short s k,
    )

-- the first of two, where it is set: no longer than both
or_else-short : {A : Type 0} (text : A → List ℕ) (x y : Option A) → length (optional text (or_else x y)) ≤ length (optional text x) + length (optional text y)
or_else-short text none y = omega arith
or_else-short text (some a) y = omega arith

abbrev at_text : AtModifier → List ℕ
at_text a = bytes " " ++ display_at a

abbrev offset_text : Offset → List ℕ
offset_text o = bytes " offset " ++ display_offset o

display_times-overlaid : (t u : Times) → length (display_times (overlaid t u)) ≤ length (display_times t) + length (display_times u)
display_times-overlaid t u =
    omega (
      arith,
      length-append (optional at_text (or_else t.at u.at)) (optional offset_text (or_else t.offset u.offset)),
      length-append (optional at_text t.at) (optional offset_text t.offset),
      length-append (optional at_text u.at) (optional offset_text u.offset),
      or_else-short at_text t.at u.at,
      or_else-short offset_text t.offset u.offset,
    )

-- a text with such after it
pub times-short : (front : List ℕ) (t u : Times) → length (front ++ display_times (overlaid t u)) ≤ length (front ++ display_times t) + length (display_times u)
times-short front t u = omega (arith, length-append front (display_times (overlaid t u)), length-append front (display_times t), display_times-overlaid t u)

-- ## Selectors

display_braces-short : (ms : List Matcher) → length (display_braces ms) ≤ 2 + 4 * length (write_all write_matcher ms)
display_braces-short [] = omega arith
display_braces-short (m ∷ ms) = omega (arith, length-append (display_matchers (m ∷ ms)) (bytes "}"), display_matchers-short (m ∷ ms))

pub display_selector-short : (s : Selector) → length (display_selector s) ≤ 2 + 4 * (length (write_text s.name) + length (write_list write_matcher s.matchers))
display_selector-short s =
    omega (
      arith,
      length-append s.name (display_braces s.matchers),
      display_braces-short s.matchers,
      write_text-some s.name,
      length-append (write_number (length s.matchers)) (write_all write_matcher s.matchers),
    )
