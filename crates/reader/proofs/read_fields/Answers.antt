-- `reader::read_fields` meets its contract: the kind says which record follows. Assumes nothing.
use Rattle.reader.proofs.read_fields.Goals as goal

pub returns-in-2-clause-reads : goal.returns-in-2-clause-reads
returns-in-2-clause-reads c = simp (c.in-2.is, c.read_selector.ensures.reads)
