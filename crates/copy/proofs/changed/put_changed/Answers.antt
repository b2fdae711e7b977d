-- `copy::changed::put_changed` meets its contract: a byte stored in what was written before. Assumes nothing.
use Rattle.copy.proofs.ChangedLaws.{changed-later}
use Rattle.copy.proofs.changed.put_changed.Goals as goal

pub returns : goal.returns
returns c =
    changed-later c.args.place c.args.byte c.requires.1 c.requires.0 c.put_bytes-next.ensures
