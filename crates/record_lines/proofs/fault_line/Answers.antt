-- `record_lines::fault_line` meets its contract: its texts, one after the other. Assumes nothing.
use Rattle.record_lines.proofs.LineLaws.{puts_then}
use Rattle.record_lines.proofs.fault_line.Goals as goal

pub returns : goal.returns
returns c =
    puts_then c.put_text-number.ensures
    (puts_then (rw c.fault_number.ensures at c.put_spaced-word.ensures.puts)
    (puts_then c.put_text-place.ensures
    (puts_then c.put_spaced-last.ensures.puts c.put_text.ensures)))
