-- `joint_label::place::record_start` meets its contract. The loop's invariant: the records that are left are still to be
-- read from `at` on. Assumes nothing.
use mathlib.Core.Path.{◌≡◌}
use Prim.Native.Nat.{◌-◌}
use lib.ListN.{drop}
use Rattle.ast.specs.Part.{from_record}
use Rattle.joint_label.proofs.place.record_start.Given as goal

abbrev pub invariant-loop : goal.invariant-loop
invariant-loop l =
    from_record l.index l.page ≡ from_record (l.index - l.counter) (drop l.at l.page)
