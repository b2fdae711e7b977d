-- `leaves::decimal::expansion_len` meets its contract. Assumes nothing.
use native.Mathlib.Omega.{arith}
use Rattle.leaves.proofs.DecimalLaws.{expansion-measured}
use Rattle.leaves.proofs.decimal.expansion_len.Goals as goal

pub returns-then-count-least : goal.returns-then-count-least
returns-then-count-least c =
    omega (
      arith,
      c.decimal_len-count.ensures,
      expansion-measured c.args.places c.args.n,
    )

pub returns : goal.returns
returns c =
    omega (
      arith,
      c.decimal_len-count.ensures,
      expansion-measured c.args.places c.args.n,
    )
