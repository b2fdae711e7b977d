-- `records::matcher::matchers_from` meets its contract. The loop's invariant: what was seen and what is left of the
-- list make the whole. Assumes nothing.
use Prim.Native.Nat.{◌-◌}
use lib.ListN.{drop}
use Rattle.records.proofs.MatcherFactsLaws.{FactsSoFar}
use Rattle.records.proofs.matcher.matchers_from.Given as goal

abbrev pub invariant-loop : goal.invariant-loop
invariant-loop l = FactsSoFar l.count (drop l.start l.page) (l.count - l.counter) (drop l.at l.page) l.facts
