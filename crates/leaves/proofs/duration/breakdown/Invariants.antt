-- `leaves::duration::breakdown` meets its contract. The loop's invariant: the counts written, then those of what is
-- left, are the answer. Assumes nothing.
use mathlib.Core.List.{◌++◌}
use mathlib.Core.Path.{◌≡◌}
use lib.ListN.{length, take, drop}
use Rattle.leaves.specs.Duration.{units, counts_of, duration_counts}
use Rattle.leaves.proofs.duration.breakdown.Given as goal

abbrev pub invariant-loop-i : goal.invariant-loop-i
invariant-loop-i l =
    (duration_counts l.ms ≡ take l.i l.counts ++ counts_of (drop l.i units) l.rest) × (length l.counts ≡ 7)
