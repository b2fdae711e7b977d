-- `label::matcher::collect` meets its contract. Invariant: what is stored, then what the matchers left print. Assumes
-- nothing.
use Prim.Native.Nat.{◌-◌}
use lib.ListN.{drop}
use Rattle.page.specs.Listed.{AllRead}
use Rattle.records.specs.Matcher.{read_matcher}
use Rattle.records.specs.Answers.{matchers_on}
use Rattle.label.proofs.CollectLaws.{Collecting}
use Rattle.label.proofs.matcher.collect.Given as goal

abbrev pub invariant-loop-i : goal.invariant-loop-i
invariant-loop-i l =
    Collecting l.page (matchers_on l.page l.start l.count) l.initial.order l.order (l.count - l.i) (drop l.at l.page) l.i
    × AllRead read_matcher (l.count - l.i) (drop l.at l.page)
