-- `record_lines::modifier::put_fill` meets its contract, form by form. Assumes nothing.
use Rattle.record_lines.proofs.LineLaws.{shows_then}
use Rattle.record_lines.proofs.modifier.put_fill.Goals as goal

pub returns-in-Some : goal.returns-in-Some
returns-in-Some c =
    rw c.in-Some.is
    (shows_then c.put_spaced-next.ensures c.put_literal.ensures)
