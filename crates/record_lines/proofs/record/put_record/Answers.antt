-- `record_lines::record::put_record` meets its contract. Assumes nothing.
use Rattle.record_lines.proofs.LineLaws.{shows_then}
use Rattle.record_lines.proofs.record.put_record.Goals as goal

pub returns : goal.returns
returns c =
    let kind = rw c.record_kind.ensures at c.put_spaced-next.ensures in
    shows_then kind c.put_fields.ensures
