-- `leaves::duration::count_len` meets its contract. Assumes nothing.
use native.Mathlib.Omega.{arith}
use Rattle.leaves.proofs.DurationLaws.{count-len-none, count-len-ms, count-len-one}
use Rattle.leaves.proofs.duration.count_len.Goals as goal

pub returns-then-count-eq0 : goal.returns-then-count-eq0
returns-then-count-eq0 c =
    count-len-none _ c.args.unit c.if-count-eq0.true

pub overflow_add-result : goal.overflow_add-result
overflow_add-result c =
    omega (arith, c.decimal_len-digits.ensures)

pub returns-then-unit-eq6 : goal.returns-then-unit-eq6
returns-then-unit-eq6 c =
    count-len-ms _ _ _ c.ranges.count.fits c.if-count-eq0.false c.requires c.if-unit-eq6.true
    c.decimal_len-digits.ensures.0

pub overflow_add-result-2 : goal.overflow_add-result-2
overflow_add-result-2 c =
    omega (arith, c.decimal_len-digits.ensures)

pub returns : goal.returns
returns c =
    count-len-one _ _ _ c.ranges.count.fits c.if-count-eq0.false c.requires c.if-unit-eq6.false
    c.decimal_len-digits.ensures.0
