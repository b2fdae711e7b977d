-- `leaves::duration::put_duration` meets its contract. The loop's invariant: the counts from the next unit on are left
-- to be written. Assumes nothing.
use lib.ListN.{drop}
use Rattle.base.proofs.SpliceLaws.{Writing}
use Rattle.leaves.specs.Duration.{units, display_counts, display_duration}
use Rattle.leaves.proofs.duration.put_duration.Given as goal

abbrev pub invariant-loop-unit : goal.invariant-loop-unit
invariant-loop-unit l =
    Writing l.initial.out l.out l.at (display_duration l.ms) (display_counts (drop l.unit units) (drop l.unit l.count-items))
    l.pos
