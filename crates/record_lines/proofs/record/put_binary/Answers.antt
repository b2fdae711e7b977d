-- `record_lines::record::put_binary` meets its contract. Assumes nothing.
use Rattle.record_lines.proofs.LineLaws.{shows_then}
use Rattle.record_lines.proofs.record.put_binary.Goals as goal

pub returns : goal.returns
returns c =
    shows_then c.put_spaced-next.ensures c.put_modifier.ensures
