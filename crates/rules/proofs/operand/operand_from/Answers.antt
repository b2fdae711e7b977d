-- `rules::operand::operand_from` meets its contract: tag by tag; the last arm is past every tag of the table. Assumes
-- nothing.
use mathlib.Core.Path.{sym}
use native.Mathlib.Omega.{arith}
use Rattle.rules.proofs.StackLaws.{operand_from-last}
use Rattle.rules.proofs.operand.operand_from.Goals as goal

pub returns-in_default : goal.returns-in_default
returns-in_default c =
    sym (operand_from-last c.args.tag c.args.value (omega arith))
