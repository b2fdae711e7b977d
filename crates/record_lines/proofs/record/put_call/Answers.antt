-- `record_lines::record::put_call` meets its contract. Assumes nothing.
use Rattle.record_lines.proofs.LineLaws.{shows_then}
use Rattle.record_lines.proofs.record.put_call.Goals as goal

pub returns : goal.returns
returns c =
    shows_then c.put_function-next.ensures c.put_spaced.ensures
