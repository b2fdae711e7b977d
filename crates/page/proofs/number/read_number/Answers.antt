-- `page::number::read_number` meets its contract: a number of one byte by the law of one byte, any other by
-- `read_up_to`. Assumes nothing.
use native.Mathlib.Omega.{arith}
use Rattle.page.specs.Limits.{number_limit}
use Rattle.page.proofs.FieldLaws.{past_end, one_byte}
use Rattle.page.proofs.number.read_number.Goals as goal

pub returns-then-page-at : goal.returns-then-page-at
returns-then-page-at c =
    record { reads = past_end c.args.page.now c.args.at number_limit c.if-page-at.true; lies = omega arith }

pub overflow_cast-b : goal.overflow_cast-b
overflow_cast-b c =
    omega (arith, c.type_inv.page c.args.at)

pub returns-then-b-lt128 : goal.returns-then-b-lt128
returns-then-b-lt128 c =
    record {
      reads = one_byte c.args.page.now c.args.at number_limit (omega arith) (omega arith)
          c.if-b-lt128.true;
      lies = omega arith;
    }
