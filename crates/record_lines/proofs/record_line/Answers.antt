-- `record_lines::record_line` meets its contract: its texts, one after the other. Assumes nothing.
use Rattle.record_lines.proofs.LineLaws.{puts_then}
use Rattle.record_lines.proofs.record_line.Goals as goal

pub returns : goal.returns
returns c =
    puts_then (puts_then c.put_number-first.ensures c.put_record-last.ensures.puts)
    c.put_text.ensures
