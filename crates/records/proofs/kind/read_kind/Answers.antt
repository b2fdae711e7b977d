-- `records::kind::read_kind` meets its contract: the number says which kind. Assumes nothing.
use Rattle.records.proofs.kind.read_kind.Goals as goal

pub returns-in-2 : goal.returns-in-2
returns-in-2 c = simp (← c.in_ok-n.ensures.reads, c.in-2.is)
