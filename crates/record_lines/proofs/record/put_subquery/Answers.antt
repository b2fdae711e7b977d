-- `record_lines::record::put_subquery` meets its contract. Assumes nothing.
use Rattle.record_lines.proofs.LineLaws.{shows_then}
use Rattle.record_lines.proofs.record.put_subquery.Goals as goal

pub returns : goal.returns
returns c =
    shows_then c.put_spaced-next.ensures c.put_step.ensures
