-- `leaves::duration::duration_len` meets its contract. The loop's invariant: the sum and what is left come to the whole
-- length; 22 at most for each unit. Assumes nothing.
use Prim.Native.Nat.{◌+◌, ◌*◌, ◌≤◌}
use mathlib.Core.Path.{◌≡◌}
use lib.ListN.{length, drop}
use Rattle.leaves.specs.Duration.{units, display_counts, display_duration}
use Rattle.leaves.proofs.duration.duration_len.Given as goal

abbrev pub invariant-loop-unit : goal.invariant-loop-unit
invariant-loop-unit l =
    (l.sum + length (display_counts (drop l.unit units) (drop l.unit l.count-items)) ≡ length (display_duration l.ms))
    × (l.sum ≤ 22 * l.unit)
