-- `judge::label::has_label` meets its contract. The loop's invariant: what is left of the list decides. Assumes
-- nothing.
use mathlib.Core.Path.{◌≡◌}
use lib.ListN.{drop}
use Prim.Native.Nat.{◌-◌}
use Rattle.page.specs.Text.{read_any_text}
use Rattle.page.specs.Listed.{listed}
use Rattle.ast.specs.CheckAst.{has_label}
use Rattle.judge.proofs.label.has_label.Given as goal

abbrev pub invariant-loop : goal.invariant-loop
invariant-loop l =
    has_label (listed read_any_text l.count (drop l.start l.page)) l.text
    ≡ has_label (listed read_any_text (l.count - l.counter) (drop l.at l.page)) l.text
