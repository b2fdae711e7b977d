-- `record_lines::record::put_selector` meets its contract. Assumes nothing.
use Rattle.record_lines.proofs.LineLaws.{shows_then}
use Rattle.record_lines.proofs.record.put_selector.Goals as goal

pub returns : goal.returns
returns c =
    shows_then c.put_span-after_name.ensures c.put_list.ensures
