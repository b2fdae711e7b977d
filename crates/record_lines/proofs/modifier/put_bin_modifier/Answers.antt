-- `record_lines::modifier::put_bin_modifier` meets its contract: its parts, one after the other. Assumes nothing.
use Rattle.record_lines.proofs.LineLaws.{shows_then}
use Rattle.record_lines.proofs.modifier.put_bin_modifier.Goals as goal

pub returns : goal.returns
returns c =
    shows_then
    (shows_then
    (shows_then
    (shows_then c.put_flag-after_flag.ensures c.put_label_modifier-after_matching.ensures)
    c.put_cardinality-after_card.ensures)
    c.put_fill-after_lhs.ensures)
    c.put_fill.ensures
