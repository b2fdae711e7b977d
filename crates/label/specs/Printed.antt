-- What matchers print, so that sixteen of them can be sorted by their texts.
use Rattle.std.specs.Prelude.{ℕ, ◌+◌, ◌≤◌, List, [], ◌∷◌, map, ◌≡◌, length, take}
use Rattle.page.specs.Limits.{text_limit}
use Rattle.page.specs.Text.{is_label}
use Rattle.page.specs.Answers.{span_on, Lies}
use Rattle.page.specs.declared.text.Span.{Span}
use Rattle.records.specs.Matcher.{Matcher}
use Rattle.records.specs.Answers.{op_of}
use Rattle.label.specs.declared.printed.Printed.{Printed}
use Rattle.label.specs.declared.parts.Parts.{Parts}
use Rattle.label.specs.Label.{display_matcher, sort}
use Rattle.label.specs.Symbols.{matcher_text, matcher_symbols}

-- where the name lies on the page, and where the value does
abbrev pub name_of : Printed → Span
name_of p = record { start = p.name_start; end = p.name_start + p.name_size }

abbrev pub value_of : Printed → Span
value_of p = record { start = p.value_start; end = p.value_start + p.value_size }

unfoldable pub printed_text : List ℕ → Printed → List ℕ
printed_text page p = matcher_text (span_on page (name_of p)) (op_of p.op) (span_on page (value_of p))

abbrev pub parts_text : Parts → List ℕ
parts_text p = matcher_text p.name.now (op_of p.op) p.value.now

abbrev pub parts_symbols : Parts → List ℕ
parts_symbols p = matcher_symbols p.bare p.name.now (op_of p.op) p.value.now

-- the parts lie on the page, and the bool says whether the name is a label
pub record Prints (page : List ℕ) (p : Printed) : Type 0 where
  pub name : Lies page (name_of p)
  pub value : Lies page (value_of p)
  pub label : p.bare ≡ is_label (span_on page (name_of p))
  pub name_size : length (span_on page (name_of p)) ≤ text_limit
  pub value_size : length (span_on page (value_of p)) ≤ text_limit

-- the printed parts are a matcher's
pub record PrintsAs (page : List ℕ) (m : Matcher) (p : Printed) : Type 0 where
  pub prints : Prints page p
  pub text : printed_text page p ≡ display_matcher m

unfoldable pub AllPrint : List ℕ → List Printed → Type 0
AllPrint page [] = Unit {0}
AllPrint page (p ∷ ps) = Prints page p × AllPrint page ps

-- the texts, in their order
unfoldable pub printed_texts : List ℕ → List Printed → List (List ℕ)
printed_texts page ps = map (printed_text page) ps

-- printed matchers whose texts are those of the ones before, sorted
pub record Sorts (page : List ℕ) (before after : List Printed) : Type 0 where
  pub sorted : printed_texts page after ≡ sort (printed_texts page before)
  pub print : AllPrint page after

-- the first n are what the matchers print, in their order
pub record Collected (page : List ℕ) (ms : List Matcher) (all : List Printed) (n : ℕ) : Type 0 where
  pub texts : printed_texts page (take n all) ≡ map display_matcher ms
  pub print : AllPrint page (take n all)
  pub inside : n ≤ length all
