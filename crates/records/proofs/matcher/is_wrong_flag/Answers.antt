-- `records::matcher::is_wrong_flag` meets its contract: by what the pattern says, and the flag. Assumes nothing.
use mathlib.Core.Bool.{Bool}
use mathlib.Core.Option.{Option}
use mathlib.Core.Path.{ap, ◌∙◌}
use Rattle.records.specs.Matcher.{differs}
use Rattle.records.proofs.MatcherFactsLaws.{flag-differs}
use Rattle.records.proofs.matcher.is_wrong_flag.Goals as goal

pub returns-in-Some : goal.returns-in-Some
returns-in-Some c =
    flag-differs c.args.flag c.in-Some.empty ∙ ap (λ (o : Option Bool). differs o c.args.flag) c.in-Some.ensures
