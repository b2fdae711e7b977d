-- What the answers of the reading functions mean on a page: a position stands for the bytes from there on.
use Rattle.std.specs.Prelude.{ℕ, ◌-◌, ◌≤◌, ◌<◌, Bool, ◌||◌, List, ◌≡◌, length, take, drop, get_or, leb, eqb, Some, None, Result, Ok, Err, IfOk}
use Rattle.std.specs.Prelude.{Option as Given}
use Rattle.std.proofs.Math.Option.{Option, none, some}
use Rattle.page.specs.Limits.{text_limit, function_name_limit}
use Rattle.page.specs.Read.{FieldFault, bad_field, past_limit, bad_text, Read, refused, got, Reader, ◌>>=◌, ensure}
use Rattle.page.specs.Number.{read_groups, read_number}
use Rattle.page.specs.Text.{is_alpha, is_alpha_numeric, is_text, is_selector_name, is_label, read_text}
use Rattle.page.specs.Text as text
use Rattle.page.specs.Listed.{listed, AllRead}
use Rattle.page.specs.declared.fault.Fault.{Fault}
use Rattle.page.specs.declared.fault.Fault.TheVariants.{BadField, PastLimit, BadText}
use Rattle.page.specs.declared.name.ByteClass.{ByteClass}
use Rattle.page.specs.declared.name.ByteClass.TheVariants.{Alpha, AlphaColon, AlphaNumeric, AlphaNumericColon}
use Rattle.page.specs.declared.text.Span.{Span}
use Rattle.page.specs.declared.text.TextClass.{TextClass}
use Rattle.page.specs.declared.text.TextClass.TheVariants.{Any, MetricName, FunctionName}
use Rattle.page.specs.declared.list.List.{List as ListOn}

-- its number in document 01's table is `fault_number` of this
abbrev pub fault_of : Fault → FieldFault
fault_of BadField = bad_field
fault_of PastLimit = past_limit
fault_of BadText = bad_text

-- ## Fields

-- what a reader answered: what its value stands for, and the bytes from the next position on
module _ {C A : Type 0} where
  abbrev pub field_at : (C → A) → List ℕ → Result (C × ℕ) Fault → Read A
  field_at meaning page (Ok f) = got (meaning f.0) (drop f.1 page)
  field_at meaning page (Err fault) = refused (fault_of fault)

-- a value that stands for itself
module _ {A : Type 0} where
  abbrev pub itself : A → A
  itself x = x

-- what a value stands for, if there is one
module _ {C A : Type 0} where
  abbrev pub option_of : (C → A) → Given C → Option A
  option_of meaning None = none
  option_of meaning (Some x) = some (meaning x)

-- ## Numbers

-- a number of at most so much; `read_number` is this with the limit of a page's numbers
abbrev pub read_up_to : ℕ → Reader ℕ
read_up_to limit = read_groups >>= λ n. ensure (leb n limit) bad_field n

-- ## Texts

abbrev pub in_class : ByteClass → ℕ → Bool
in_class Alpha c = is_alpha c
in_class AlphaColon c = is_alpha c || eqb c 58
in_class AlphaNumeric c = is_alpha_numeric c
in_class AlphaNumericColon c = is_alpha_numeric c || eqb c 58

abbrev pub limit_of : TextClass → ℕ
limit_of Any = text_limit
limit_of MetricName = text_limit
limit_of FunctionName = function_name_limit

abbrev pub allowed_by : TextClass → text.Text → Bool
allowed_by Any = is_text
allowed_by MetricName = is_selector_name
allowed_by FunctionName = is_label

-- `read_any_text`, `read_metric_name` and `read_function_name`
abbrev pub read_text_of : TextClass → Reader text.Text
read_text_of c = read_text (limit_of c) (allowed_by c)

-- the bytes of a part of the page
abbrev pub span_on : List ℕ → Span → text.Text
span_on page s = take (s.end - s.start) (drop s.start page)

-- the part lies on the page
pub record Lies (page : List ℕ) (s : Span) : Type 0 where
  pub ordered : s.start ≤ s.end
  pub inside : s.end ≤ length page

-- a text that was read lies on the page, and the next field starts at its end
abbrev pub text_lies : List ℕ → Result (Span × ℕ) Fault → Type 0
text_lies page r = IfOk r (λ f. Lies page f.0 × (f.1 ≡ f.0.end))

-- the length of a text at `at` ends before r, and its first byte is the text's size; none says nothing
abbrev pub SizeEnds : List ℕ → ℕ → Given ℕ → Type 0
SizeEnds page at None = Unit {0}
SizeEnds page at (Some r) =
    (at < length page) × (r ≤ length page) × (got (get_or page at 0) (drop r page) ≡ read_number (drop at page))

-- the text at `at` is that part of the page; none says nothing
abbrev pub EverydayText : List ℕ → ℕ → Given Span → Type 0
EverydayText page at None = Unit {0}
EverydayText page at (Some s) = Lies page s × (got (span_on page s) (drop s.end page) ≡ text.read_any_text (drop at page))

-- a position on the page that stands for the same bytes as another
pub record Within (page : List ℕ) (at r : ℕ) : Type 0 where
  pub same : drop r page ≡ drop at page
  pub inside : r ≤ length page

-- ## Lists

module _ {A : Type 0} where
  -- the elements of a list, by their reader
  abbrev pub list_on : Reader A → List ℕ → ListOn → List A
  list_on r page list = listed r list.count (drop list.start page)

  -- a list that was read: all of its elements can be read again
  abbrev pub list_stored : Reader A → List ℕ → Result (ListOn × ℕ) Fault → Type 0
  list_stored r page result = IfOk result (λ f. AllRead r f.0.count (drop f.0.start page))
