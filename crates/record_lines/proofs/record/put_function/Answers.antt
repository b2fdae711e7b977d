-- `record_lines::record::put_function` meets its contract: its parts, one after the other. Assumes nothing.
use Rattle.record_lines.proofs.LineLaws.{shows_then}
use Rattle.record_lines.proofs.record.put_function.Goals as goal

pub returns : goal.returns
returns c =
    let result = rw c.kind_number.ensures at c.put_spaced.ensures in
    shows_then
    (shows_then
    (shows_then c.put_span-after_name.ensures c.put_list-after_kinds.ensures)
    c.put_variadic-after_variadic.ensures)
    result
