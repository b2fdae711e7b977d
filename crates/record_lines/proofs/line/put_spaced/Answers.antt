-- `record_lines::line::put_spaced` meets its contract. Assumes nothing.
use Rattle.record_lines.proofs.LineLaws.{shows-one}
use Rattle.record_lines.proofs.line.put_spaced.Goals as goal

pub returns : goal.returns
returns c =
    shows-one c.put_text-next.ensures c.put_number.ensures
