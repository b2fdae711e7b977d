-- `label::matcher::more_matchers_len` meets its contract. Invariant: the sum so far and what is left come to the whole,
-- up to the cap. Assumes nothing.
use Prim.Native.Nat.{◌+◌, ◌-◌, ◌≤◌, min}
use mathlib.Core.Path.{◌≡◌}
use mathlib.Core.List.{map}
use lib.ListN.{length, drop}
use Rattle.page.specs.Listed.{AllRead}
use Rattle.records.specs.Matcher.{read_matcher}
use Rattle.records.specs.Answers.{matchers_on}
use Rattle.label.specs.Label.{display_matcher, more_by_commas}
use Rattle.label.proofs.matcher.more_matchers_len.Given as goal

abbrev pub invariant-loop : goal.invariant-loop
invariant-loop l =
    (min (length (more_by_commas (map display_matcher (matchers_on l.page l.start l.count)))) l.cap
    ≡ min (l.total + length (more_by_commas (map display_matcher (matchers_on l.page l.at (l.count - l.counter))))) l.cap)
    × (l.total ≤ l.cap)
    × AllRead read_matcher (l.count - l.counter) (drop l.at l.page)
