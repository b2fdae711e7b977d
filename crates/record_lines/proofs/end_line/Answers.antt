-- `record_lines::end_line` meets its contract: its texts, one after the other. Assumes nothing.
use Rattle.record_lines.proofs.LineLaws.{puts_then}
use Rattle.record_lines.proofs.end_line.Goals as goal

pub returns : goal.returns
returns c =
    puts_then c.put_text-count.ensures
    (puts_then c.put_spaced-last.ensures.puts c.put_text.ensures)
