-- `fields::attached::attached_of` meets its contract. Invariant: what the records above record j
-- attach; j is not below the foot. Assumes nothing.
use Prim.Native.Nat.{◌≤◌}
use Rattle.fields.specs.Attached.{SetsAttached}
use Rattle.fields.proofs.attached.attached_of.Given as goal

abbrev pub invariant-loop-j : goal.invariant-loop-j
invariant-loop-j l =
    (l.base ≤ l.j) × SetsAttached l.page l.starts l.initial.j l.j l.attached
