use Prim.Native.Nat.{◌+◌}
use native.Mathlib.Omega.{arith}
use mathlib.Core.Path.{ap}
use lib.ListN.{length, get_or, drop}
use Rattle.base.proofs.SpliceLaws.{Cut, begin-as, room, step, finish}
use Rattle.leaves.specs.Duration.{units, unit_at, display_count, display_counts}
use Rattle.leaves.proofs.DurationLaws.{display_counts-next, display_counts-end, duration_counts-seven}
use Rattle.leaves.proofs.DurationLaws.{display_duration-zero, display_duration-counts}
use Rattle.leaves.proofs.duration.put_duration.Goals as goal
use Rattle.leaves.proofs.duration.put_duration.Goals.{In-loop-unit}

-- what is left begins with the next count and its unit
piece : (c : In-loop-unit)
    → let i = c.loop-unit.unit in
    let counts = c.breakdown.result in
    Cut (display_counts (drop i units) (drop i counts)) (display_count (get_or counts i 0) (unit_at i).name)
    (display_counts (drop (i + 1) units) (drop (i + 1) counts))
piece c =
    display_counts-next _ _ (omega (arith, duration_counts-seven _ _ c.breakdown.ensures))
    c.loop-unit-test.true

pub put_bytes-requires : goal.put_bytes-requires
put_bytes-requires c =
    omega (arith, ap length (display_duration-zero _ c.if-ms-eq0.true), c.requires)

pub returns-then-ms-eq0 : goal.returns-then-ms-eq0
returns-then-ms-eq0 c =
    rw (display_duration-zero _ c.if-ms-eq0.true) c.put_bytes.ensures

pub loop-unit-init : goal.loop-unit-init
loop-unit-init c =
    begin-as c.requires (display_duration-counts _ _ c.if-ms-eq0.false c.breakdown.ensures)

pub put_count-pos-requires : goal.put_count-pos-requires
put_count-pos-requires c =
    (c.loop-unit-test.true, room c.loop-unit.invariant (piece (goal.at.put_count-pos-requires c).In-loop-unit))

pub loop-unit-preserved : goal.loop-unit-preserved
loop-unit-preserved c =
    step c.loop-unit.invariant (piece (goal.at.loop-unit-preserved c).In-loop-unit) c.put_count-pos.ensures

pub returns : goal.returns
returns c =
    finish c.loop-unit.invariant (display_counts-end c.breakdown.result c.loop-unit.unit c.loop-unit-test.false)
