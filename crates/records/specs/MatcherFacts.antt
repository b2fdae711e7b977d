-- What the check asks of a matcher, read without the matcher itself: whether it is named `__name__`, whether it accepts
-- empty text, and whether the flag of its pattern is wrong.
use Rattle.std.specs.Prelude.{ℕ, Bool, false, not, List, [], ◌∷◌, ◌≡◌, drop, eqb, Result, IfOk}
use Rattle.page.specs.Bytes.{pick, all, any, is_empty}
use Rattle.page.specs.Read.{Read, refused, got, Reader, ◌>>=◌, return}
use Rattle.page.specs.Text.{Text, read_any_text}
use Rattle.page.specs.Listed.{AllRead}
use Rattle.page.specs.declared.fault.Fault.{Fault}
use Rattle.page.specs.Answers.{fault_of}
use Rattle.records.specs.Field.{read_flag}
use Rattle.records.specs.Matcher as matcher
use Rattle.records.specs.Matcher.{is_name_matcher, matches_empty, is_wrong_flag, has_wrong_flag}
use Rattle.records.specs.Answers.{matchers_on}
use Rattle.records.specs.declared.matcher.MatcherFacts.{MatcherFacts}
use Rattle.records.specs.declared.matcher.MatcherField.{MatcherField}
use Rattle.records.specs.declared.matcher.MatcherField.TheVariants.{Got, Bad}
use Rattle.records.specs.declared.matcher.Matchers.{Matchers}

-- its name, what it accepts, its flag
abbrev pub Facts : Type 0
Facts = Bool × Bool × Bool

abbrev pub matcher_facts : matcher.Matcher → Facts
matcher_facts m = (is_name_matcher m, matches_empty m, has_wrong_flag m)

abbrev pub read_matcher_facts : Reader Facts
read_matcher_facts = matcher.read_matcher >>= λ m. return (matcher_facts m)

-- the flag after a pattern; what it says of empty text is inverted by `!~`, by the number of the operator
abbrev pub pattern_facts : ℕ → Bool → Text → Reader Facts
pattern_facts op named v = read_flag >>= λ b. return (named, pick (eqb op 2) b (not b), is_wrong_flag b v)

-- what follows a name, by the number of the operator (document 01, 'The page', kind 2)
abbrev pub fact_forms : Bool → List (Reader Facts)
fact_forms named =
    (read_any_text >>= λ v. return (named, is_empty v, false))
    ∷ (read_any_text >>= λ v. return (named, not (is_empty v), false))
    ∷ (read_any_text >>= λ v. read_flag >>= λ b. return (named, b, is_wrong_flag b v))
    ∷ (read_any_text >>= λ v. read_flag >>= λ b. return (named, not b, is_wrong_flag b v))
    ∷ []

abbrev pub facts_of : MatcherFacts → Facts
facts_of f = (f.named, f.empty, f.wrong_flag)

-- one matcher's facts, as its reader answers them
abbrev pub matcher_field : List ℕ → MatcherField → Read Facts
matcher_field page (Got named empty wrong next) = got (named, empty, wrong) (drop next page)
matcher_field page (Bad fault) = refused (fault_of fault)

abbrev pub matchers_of : List ℕ → Matchers → List matcher.Matcher
matchers_of page m = matchers_on page m.list.start m.list.count

-- some matcher is named `__name__`, all accept empty text, some has a wrong flag
pub record ListFacts (ms : List matcher.Matcher) (f : MatcherFacts) : Type 0 where
  pub names : f.named ≡ any is_name_matcher ms
  pub accept : f.empty ≡ all matches_empty ms
  pub flags : f.wrong_flag ≡ any has_wrong_flag ms

-- the facts are those of the list, and all of its matchers can be read again
abbrev pub matchers_stored : List ℕ → Result (Matchers × ℕ) Fault → Type 0
matchers_stored page r =
    IfOk r (λ field. ListFacts (matchers_of page field.0) field.0.facts
    × AllRead matcher.read_matcher field.0.list.count (drop field.0.list.start page))
