-- `label::label::more_labels_len` meets its contract. Invariant: the sum so far and what is left come to the whole, up
-- to the cap. Assumes nothing.
use Prim.Native.Nat.{◌+◌, ◌-◌, ◌≤◌, min}
use mathlib.Core.Path.{◌≡◌}
use lib.ListN.{length, drop}
use Rattle.page.specs.Listed.{listed, AllRead}
use Rattle.page.specs.Text.{read_any_text}
use Rattle.label.specs.Label.{display_more_labels}
use Rattle.label.proofs.label.more_labels_len.Given as goal

abbrev pub invariant-loop : goal.invariant-loop
invariant-loop l =
    (min (length (display_more_labels (listed read_any_text l.count (drop l.start l.page)))) l.cap
    ≡ min (l.total + length (display_more_labels (listed read_any_text (l.count - l.counter) (drop l.from l.page)))) l.cap)
    × (l.total ≤ l.cap)
    × AllRead read_any_text (l.count - l.counter) (drop l.from l.page)
