-- `functions::form::Table::find` meets its contract. The loop's invariant: the names in front of `low` stand before the
-- name, those from `high` on behind it; the measure is how many are left. The laws stand in `PlaceLaws.antt`. Assumes
-- nothing.
use Prim.Native.Nat.{◌-◌}
use Rattle.functions.specs.Table.{names_in}
use Rattle.functions.proofs.PlaceLaws.{Left}
use Rattle.functions.proofs.form.Table.find.Given as goal

abbrev pub invariant-loop-low : goal.invariant-loop-low
invariant-loop-low l =
    Left (names_in l.self.letters.now l.self.starts.now) l.name l.low l.high

abbrev pub decreases-loop-low : goal.decreases-loop-low
decreases-loop-low l =
    l.high - l.low
