-- `records::modifier::read_label_modifier` meets its contract: the number says which form follows. Assumes nothing.
use Rattle.std.proofs.Common.{rules}
use Rattle.records.proofs.modifier.read_label_modifier.Goals as goal

pub returns-in-2-clause-reads : goal.returns-in-2-clause-reads
returns-in-2-clause-reads c = let number = rw c.in-2.is at c.in_ok-n.ensures.reads in search rules
