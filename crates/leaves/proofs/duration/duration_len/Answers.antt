use native.Mathlib.Omega.{arith}
use mathlib.Core.Path.{sym, ap}
use lib.ListN.{length}
use Rattle.base.proofs.SpliceLaws.{cut-length}
use Rattle.leaves.proofs.DurationLaws.{display_counts-next, display_counts-end, duration_counts-seven}
use Rattle.leaves.proofs.DurationLaws.{display_duration-zero, display_duration-counts}
use Rattle.leaves.proofs.duration.duration_len.Goals as goal

pub returns-then-ms-eq0 : goal.returns-then-ms-eq0
returns-then-ms-eq0 c =
    (sym (ap length (display_duration-zero _ c.if-ms-eq0.true)), omega arith)

pub loop-unit-init : goal.loop-unit-init
loop-unit-init c =
    omega (arith, ap length (display_duration-counts _ _ c.if-ms-eq0.false c.breakdown.ensures))

pub count_len-sum-requires : goal.count_len-sum-requires
count_len-sum-requires c =
    c.loop-unit-test.true

pub loop-unit-preserved : goal.loop-unit-preserved
loop-unit-preserved c =
    let b = c.breakdown in
    let next = cut-length
    (display_counts-next b.result c.loop-unit.unit
    (omega (arith, duration_counts-seven _ _ b.ensures)) c.loop-unit-test.true) in
    omega arith

pub returns : goal.returns
returns c =
    let b = c.breakdown in
    omega (arith, ap length (display_counts-end b.result c.loop-unit.unit c.loop-unit-test.false))
