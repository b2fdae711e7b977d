use Prim.Native.Nat.{◌*◌, ◌≤◌}
use native.Mathlib.Omega.{arith}
use mathlib.Core.Path.{refl}
use lib.ListN.{get_or, length-set}
use Rattle.leaves.specs.Duration.{duration_counts}
use Rattle.leaves.proofs.DurationLaws.{lengths, tabled, count_of-within, counts_of-turn, counts_of-end}
use Rattle.leaves.proofs.duration.breakdown.Goals as goal
use Rattle.leaves.proofs.duration.breakdown.Goals.{After-count_of-count}

within : (c : After-count_of-count)
    → c.count_of-count.result * get_or lengths c.loop-i.i 0 ≤ c.loop-i.rest
within c = rw c.count_of-count.ensures (count_of-within _ _ _)

pub loop-i-init : goal.loop-i-init
unfolding duration_counts
loop-i-init c =
    (refl, refl)

pub count_of-count-requires : goal.count_of-count-requires
count_of-count-requires c =
    (tabled _ c.loop-i-test.true).positive

pub overflow_mul-rest : goal.overflow_mul-rest
overflow_mul-rest c =
    omega (arith, within (goal.at.overflow_mul-rest c).After-count_of-count)

pub overflow_sub-rest : goal.overflow_sub-rest
overflow_sub-rest c =
    within (goal.at.overflow_sub-rest c).After-count_of-count

pub loop-i-preserved : goal.loop-i-preserved
loop-i-preserved c =
    let inv = c.loop-i.invariant in
    (counts_of-turn _ _ _ _ _ c.loop-i-test.true (omega arith) c.count_of-count.ensures inv.0, simp length-set inv.1)

pub returns : goal.returns
returns c =
    let inv = c.loop-i.invariant in counts_of-end _ _ _ _ c.loop-i-test.false (omega arith) inv.0
