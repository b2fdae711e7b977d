-- `label::label::put_more_labels` meets its contract. Invariant: what is written, then what is left. Assumes nothing.
use Prim.Native.Nat.{◌-◌}
use lib.ListN.{drop}
use Rattle.base.proofs.SpliceLaws.{Writing}
use Rattle.page.specs.Listed.{listed, AllRead}
use Rattle.page.specs.Text.{read_any_text}
use Rattle.label.specs.Label.{display_more_labels}
use Rattle.label.proofs.label.put_more_labels.Given as goal

abbrev pub invariant-loop : goal.invariant-loop
invariant-loop l =
    Writing l.initial.out l.out l.at (display_more_labels (listed read_any_text l.count (drop l.start l.page)))
    (display_more_labels (listed read_any_text (l.count - l.counter) (drop l.from l.page))) l.pos
    × AllRead read_any_text (l.count - l.counter) (drop l.from l.page)
