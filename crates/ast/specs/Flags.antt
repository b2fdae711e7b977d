-- What refusal 41 says of a page, in the words of document 02, No. 7, over the language of a pattern: proved of every
-- page in proofs/FlagLaws. What the check computes (`has_wrong_flag`) is not used.
use Rattle.std.specs.Prelude.{ℕ, ◌≡◌, Bool, ◌↔◌, List, [], ◌∷◌, ◌++◌, drop, T}
use Rattle.std.proofs.Math.Option.{Option, none, some}
use Rattle.page.specs.Allowed.{Each}
use Rattle.patterns.specs.Pattern.{Covered}
use Rattle.patterns.specs.Language.{Matches}
use Rattle.records.specs.Matcher.{MatchOp, equal, not_equal, re, not_re, Matcher, Selector}
use Rattle.records.specs.Record.{selector, Record, leaf, read_page}

-- the flag beside a pattern
abbrev pub flag_of : MatchOp → Option Bool
flag_of equal = none
flag_of not_equal = none
flag_of (re b) = some b
flag_of (not_re b) = some b

-- "The flag must be 1 when, and only when, empty text is in the pattern's language"
abbrev pub SaysEmptyText : Bool → List ℕ → Type 0
SaysEmptyText flag pattern = T flag ↔ Matches pattern []

-- "Any other pattern .. keeps its flag untested": what is said is said of a covered pattern
abbrev pub FlagTrue : Matcher → Type 0
FlagTrue m = (flag : Bool) → flag_of m.op ≡ some flag → Covered m.value → SaysEmptyText flag m.value

-- all flags of all selectors of a page
abbrev pub FlagsTrue : List ℕ → Type 0
FlagsTrue page = (i : ℕ) (s : Selector) (later : List Record) → drop i (read_page page).records ≡ leaf (selector s) ∷ later
    → Each FlagTrue s.matchers

-- "41 when the flag of a covered pattern is wrong, at the selector": record i is a selector with such a matcher
pub record WrongFlagAt (page : List ℕ) (i : ℕ) : Type 0 where
  pub refused_selector : Selector
  pub later : List Record
  pub earlier : List Matcher
  pub matcher : Matcher
  pub more : List Matcher
  pub flag : Bool
  pub is_record : drop i (read_page page).records ≡ leaf (selector refused_selector) ∷ later
  pub is_matcher : refused_selector.matchers ≡ earlier ++ (matcher ∷ more)
  pub is_flag : flag_of matcher.op ≡ some flag
  pub is_covered : Covered matcher.value
  pub is_wrong : SaysEmptyText flag matcher.value → ⊥
