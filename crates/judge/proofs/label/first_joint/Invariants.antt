-- `judge::label::first_joint` meets its contract. The loop's invariant: what is left of the list decides. Assumes
-- nothing.
use mathlib.Core.Path.{◌≡◌}
use lib.ListN.{drop}
use Prim.Native.Nat.{◌-◌}
use Rattle.records.specs.Answers.{labels_on}
use Rattle.judge.specs.Label.{from_joint}
use Rattle.judge.proofs.label.first_joint.Given as goal

abbrev pub invariant-loop : goal.invariant-loop
invariant-loop l =
    from_joint (labels_on l.page l.on l.ons) l.count (drop l.start l.page)
    ≡ from_joint (labels_on l.page l.on l.ons) (l.count - l.counter) (drop l.at l.page)
