-- `record_lines::list::put_matcher` meets its contract: its parts, one after the other. Assumes nothing.
use Rattle.record_lines.proofs.LineLaws.{shows_then}
use Rattle.record_lines.proofs.list.put_matcher.Goals as goal

pub returns : goal.returns
returns c =
    shows_then (shows_then (shows_then c.put_spaced-after_op.ensures c.put_span-after_name.ensures)
    c.put_span-after_value.ensures) c.put_mark.ensures
