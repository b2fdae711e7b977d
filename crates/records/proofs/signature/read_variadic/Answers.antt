-- `records::signature::read_variadic` meets its contract: the number says which form follows. Assumes nothing.
use Rattle.std.proofs.Common.{rules}
use Rattle.records.proofs.signature.read_variadic.Goals as goal

pub returns-in-2 : goal.returns-in-2
returns-in-2 c = let number = rw c.in-2.is at c.in_ok-form.ensures.reads in search rules
