-- `record_lines::list::put_mark` meets its contract. Assumes nothing.
use Rattle.record_lines.proofs.LineLaws.{shows-none}
use Rattle.record_lines.proofs.list.put_mark.Goals as goal

pub returns-in-None : goal.returns-in-None
returns-in-None c =
    rw c.in-None.is shows-none
