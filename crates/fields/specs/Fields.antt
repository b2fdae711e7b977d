-- What is read of the record at a node's foot, where one `Reads` does not say it all.
use Rattle.std.specs.Prelude.{ℕ, ◌+◌, ◌≤◌, ◌≡◌, List, length, drop, get_or}
use Rattle.std.proofs.Math.Option.{Option}
use Rattle.page.specs.Limits.{page_limit, count_limit}
use Rattle.page.specs.Read.{got}
use Rattle.page.specs.Listed.{AllRead}
use Rattle.page.specs.Answers.{span_on, Lies}
use Rattle.page.specs.declared.text.Span.{Span}
use Rattle.records.specs.Matcher.{read_matcher}
use Rattle.records.specs.Modifier.{LabelModifier}
use Rattle.records.specs.Signature.{Function}
use Rattle.records.specs.Record.{aggregate, call, read_code}
use Rattle.records.specs.Answers.{matchers_on}
use Rattle.reader.specs.declared.Selector.{Selector}
use Rattle.text.specs.LaidOut.{Reads}
use Rattle.view.specs.declared.Foot.{Foot}
use Rattle.view.specs.declared.Foot.TheVariants as foot

-- record i is a call, and this part of the page its function's name
pub record CallAt (page starts : List ℕ) (i : ℕ) (name : Span) : Type 0 where
  pub function : Function
  pub count : ℕ
  pub reads : Reads page starts i (call function count)
  pub named : function.name ≡ span_on page name

-- a node with a code: a binary expression or an aggregate
abbrev pub HasCode : Foot → Type 0
HasCode foot.Number = ⊥
HasCode foot.String = ⊥
HasCode foot.Selector = ⊥
HasCode foot.Subquery = ⊥
HasCode foot.Unary = ⊥
HasCode foot.Paren = ⊥
HasCode foot.Binary = Unit {0}
HasCode foot.Aggregate = Unit {0}
HasCode foot.Call = ⊥

-- the first field of record i is this code, and the next one starts there
pub record CodeAt (page starts : List ℕ) (i code next : ℕ) : Type 0 where
  pub is : got code (drop next page) ≡ read_code (drop (get_or starts i 0 + 1) page)

-- record i is an aggregate of this code and grouping
pub record AggregateAt (page starts : List ℕ) (i code : ℕ) (grouping : Option LabelModifier) : Type 0 where
  pub count : ℕ
  pub reads : Reads page starts i (aggregate code grouping count)

-- a selector's name lies on the page, and its matchers can be read and are no more than a page allows
pub record SelectorLies (page : List ℕ) (s : Selector) : Type 0 where
  pub name : Lies page s.name
  pub stored : AllRead read_matcher s.matchers.count (drop s.matchers.start page)
  pub few : length (matchers_on page s.matchers.start s.matchers.count) ≤ count_limit
  pub short : length page ≤ page_limit
