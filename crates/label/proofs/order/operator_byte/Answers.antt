-- `label::order::operator_byte` meets its contract, word by word. Assumes nothing.
use Rattle.label.proofs.MatcherLaws.{op-only}
use Rattle.label.proofs.order.operator_byte.Goals as goal

pub returns-in-Equal : goal.returns-in-Equal
returns-in-Equal c = rw c.in-Equal.is (op-only _ _ (rw c.in-Equal.is at c.requires))
