-- What the answer of `read_record` means on a page: texts and lists are put where the code's record has positions.
use Rattle.std.specs.Prelude.{ℕ, List, drop, Result, IfOk}
use Rattle.page.specs.Text.{Text}
use Rattle.page.specs.Listed.{AllRead}
use Rattle.page.specs.Answers.{itself, option_of, span_on, Lies}
use Rattle.page.specs.declared.fault.Fault.{Fault}
use Rattle.records.specs.Matcher as matcher
use Rattle.records.specs.Record as spec
use Rattle.records.specs.Answers.{matchers_on, literal_of, label_modifier_on, LabelModifierStored, modifier_on}
use Rattle.records.specs.Answers.{ModifierStored, at_modifier_of, offset_of}
use Rattle.records.specs.MatcherFacts.{ListFacts}
use Rattle.records.specs.SignatureAnswers.{function_on, FunctionLies}
use Rattle.reader.specs.declared.Selector.{Selector}
use Rattle.reader.specs.declared.Record.{Record}
use Rattle.reader.specs.declared.Record.TheVariants as code

abbrev selector_of : Text → List matcher.Matcher → matcher.Selector
selector_of n ms = record { name = n; matchers = ms }

abbrev pub selector_on : List ℕ → Selector → matcher.Selector
selector_on page s = selector_of (span_on page s.name) (matchers_on page s.matchers.start s.matchers.count)

abbrev pub record_on : List ℕ → Record → spec.Record
record_on page (code.Number l) = spec.leaf (spec.number (literal_of l))
record_on page (code.String s) = spec.leaf (spec.string (span_on page s))
record_on page (code.Selector s) = spec.leaf (spec.selector (selector_on page s))
record_on page (code.Range n) = spec.wrapper (spec.range n)
record_on page (code.Subquery n s) = spec.wrapper (spec.subquery n (option_of itself s))
record_on page (code.At a) = spec.wrapper (spec.at (at_modifier_of a))
record_on page (code.Offset o) = spec.wrapper (spec.offset (offset_of o))
record_on page code.Unary = spec.wrapper spec.unary
record_on page code.Paren = spec.wrapper spec.paren
record_on page (code.Binary c m) = spec.binary c (modifier_on page m)
record_on page (code.Aggregate c m n) = spec.aggregate c (label_modifier_on page m) n
record_on page (code.Call f n) = spec.call (function_on page f) n

-- a selector's name lies on the page, its facts are those of its matchers, and these can all be read again
pub record SelectorRead (page : List ℕ) (s : Selector) : Type 0 where
  pub name : Lies page s.name
  pub facts : ListFacts (matchers_on page s.matchers.start s.matchers.count) s.facts
  pub stored : AllRead matcher.read_matcher s.matchers.count (drop s.matchers.start page)

-- a record's own texts lie on the page: a string, a selector's name, a function's name (with the count of its kinds);
-- its labels and matchers can all be read again
abbrev pub TextsLie : List ℕ → Record → Type 0
TextsLie page (code.Number l) = Unit {0}
TextsLie page (code.String s) = Lies page s
TextsLie page (code.Selector s) = SelectorRead page s
TextsLie page (code.Range n) = Unit {0}
TextsLie page (code.Subquery n s) = Unit {0}
TextsLie page (code.At a) = Unit {0}
TextsLie page (code.Offset o) = Unit {0}
TextsLie page code.Unary = Unit {0}
TextsLie page code.Paren = Unit {0}
TextsLie page (code.Binary c m) = ModifierStored page m
TextsLie page (code.Aggregate c m n) = LabelModifierStored page m
TextsLie page (code.Call f n) = FunctionLies page f

abbrev pub record_lies : List ℕ → Result (Record × ℕ) Fault → Type 0
record_lies page r = IfOk r (λ field. TextsLie page field.0)
