-- `label::parts::Parts::is_at_most` meets its contract. Invariant: the answer is the order of the symbols from j on.
-- Assumes nothing.
use mathlib.Core.Path.{◌≡◌}
use lib.ListN.{drop}
use Rattle.label.specs.Printed.{parts_text, parts_symbols}
use Rattle.label.specs.Label.{at_most}
use Rattle.label.proofs.parts.Parts.is_at_most.Given as goal

abbrev pub invariant-loop-j : goal.invariant-loop-j
invariant-loop-j l =
    at_most (parts_text l.self) (parts_text l.other)
    ≡ at_most (drop l.j (parts_symbols l.self)) (drop l.j (parts_symbols l.other))
