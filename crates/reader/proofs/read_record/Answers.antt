-- `reader::read_record` meets its contract: the kind, then its fields. Assumes nothing.
use Rattle.page.proofs.ExitLaws.{exit-is}
use Rattle.records.specs.Record.{read_record}
use Rattle.reader.proofs.read_record.Goals as goal

pub returns-in_err-kind-clause-reads : goal.returns-in_err-kind-clause-reads
unfolding read_record
returns-in_err-kind-clause-reads c = rw (exit-is _ _ c.from_residual.ensures) (simp (← c.in_err-kind.ensures.reads))

pub returns-clause-reads : goal.returns-clause-reads
unfolding read_record
returns-clause-reads c = simp (← c.in_ok-kind.ensures.reads, c.read_fields.ensures.reads)
