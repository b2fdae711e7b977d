-- `record_lines::modifier::put_labelled` meets its contract. Assumes nothing.
use Rattle.record_lines.proofs.LineLaws.{shows_then}
use Rattle.record_lines.proofs.modifier.put_labelled.Goals as goal

pub returns : goal.returns
returns c =
    shows_then c.put_spaced-next.ensures c.put_list.ensures
