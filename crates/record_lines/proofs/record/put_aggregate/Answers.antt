-- `record_lines::record::put_aggregate` meets its contract: its parts, one after the other. Assumes nothing.
use Rattle.record_lines.proofs.LineLaws.{shows_then}
use Rattle.record_lines.proofs.record.put_aggregate.Goals as goal

pub returns : goal.returns
returns c =
    shows_then
    (shows_then c.put_spaced-next.ensures c.put_label_modifier-after.ensures)
    c.put_spaced.ensures
