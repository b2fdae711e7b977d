-- `walk::walk_records` meets its contract. The invariant, and what each way through the loop's body makes of it, are in
-- `WalkedSoFar`; each answer here hands the values over. The measure is the records that a page may still have.
use Prim.Native.Nat.{◌-◌}
use lib.Dec.{eqb}
use Rattle.rules.specs.Stack.{held}
use Rattle.walk.proofs.WalkedSoFar.{WalkedSoFar}
use Rattle.walk.proofs.walk_records.Given as goal

abbrev pub invariant-loop-at : goal.invariant-loop-at
invariant-loop-at l =
    WalkedSoFar (eqb l.rule 42) l.page l.initial.starts l.initial.firsts l.starts l.firsts (held l.stack)
    l.bases l.at l.count

abbrev pub decreases-loop-at : goal.decreases-loop-at
decreases-loop-at l =
    256 - l.count
