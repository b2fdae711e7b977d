use native.Mathlib.Omega.{arith}
use mathlib.Core.Path.{ap}
use lib.ListN.{length}
use Rattle.leaves.proofs.DecimalLaws.{decimal-last, decimal-length, decimal-short-64}
use Rattle.leaves.proofs.decimal.decimal_len.Goals as goal

pub loop-left-preserved : goal.loop-left-preserved
loop-left-preserved c =
    omega (arith, decimal-length _ c.loop-left-test.true)

pub returns : goal.returns
returns c =
    let short' = decimal-short-64 _ c.ranges.n.fits in (
      omega (arith, ap length (decimal-last _ c.loop-left-test.false)),
      omega (arith, ap length (decimal-last _ c.loop-left-test.false)),
    )
