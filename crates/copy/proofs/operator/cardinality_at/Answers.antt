-- `copy::operator::cardinality_at` meets its contract: the cardinality stands where the matching ends, which was read
-- before. Assumes nothing.
use native.Mathlib.Omega.{arith}
use Rattle.copy.proofs.OperatorLaws.{present-wide, present-cardinality, present-readable}
use Rattle.copy.proofs.operator.cardinality_at.Goals as goal

pub overflow_add-start : goal.overflow_add-start
overflow_add-start c =
    omega (arith, present-wide c.requires.0 c.requires.1, c.requires.0.span.inside)

pub returns-in-Ok : goal.returns-in-Ok
returns-in-Ok c =
    present-cardinality c.requires.0 c.requires.1 _
    (rw c.in-Ok.is at c.read_label_modifier.ensures.reads)

pub returns-in-Err : goal.returns-in-Err
returns-in-Err c =
    absurd (present-readable c.requires.0 c.requires.1
    (rw c.in-Err.is at c.read_label_modifier.ensures.reads))
