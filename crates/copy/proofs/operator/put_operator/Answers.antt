-- `copy::operator::put_operator` meets its contract: a case for each law of a binary record's piece. Assumes nothing.
use mathlib.Core.Path.{sym, ap, ◌∙◌}
use native.Mathlib.Omega.{arith}
use lib.ListN.{length}
use Rattle.copy.proofs.OperatorLaws.{operator-wide, plain_copy}
use Rattle.copy.proofs.operator.put_operator.Goals as goal

pub bounds-page-start : goal.bounds-page-start
bounds-page-start c =
    omega (arith, operator-wide c.requires.0.span c.requires.1, c.requires.0.span.inside)

pub slice_bounds-put_bytes-count : goal.slice_bounds-put_bytes-count
slice_bounds-put_bytes-count c =
    omega (arith, operator-wide c.requires.0.span c.requires.1)

pub slice_bounds-put_bytes-start : goal.slice_bounds-put_bytes-start
slice_bounds-put_bytes-start c =
    omega (arith, operator-wide c.requires.0.span c.requires.1, c.requires.0.span.inside)

pub put_bytes-requires : goal.put_bytes-requires
put_bytes-requires c =
    omega (
      arith,
      c.requires.0.room,
      ap length
          (plain_copy c.requires.0.span c.requires.1
          (sym c.is_set_operator.ensures ∙ c.if-not-is_set_operator.true)),
    )

pub returns-then-not-is_set_operator : goal.returns-then-not-is_set_operator
returns-then-not-is_set_operator c =
    rw (plain_copy c.requires.0.span c.requires.1
    (sym c.is_set_operator.ensures ∙ c.if-not-is_set_operator.true))
    c.put_bytes.ensures

pub bounds-page-start-else-not-is_set_operator : goal.bounds-page-start-else-not-is_set_operator
bounds-page-start-else-not-is_set_operator c =
    omega (arith, operator-wide c.requires.0.span c.requires.1, c.requires.0.span.inside)
