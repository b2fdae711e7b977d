-- `float::is_infinite` meets its contract: only an infinity equals one. Assumes nothing.
use Rattle.float.proofs.ValueLaws.{either-infinity}
use Rattle.float.proofs.is_infinite.Goals as goal

pub returns : goal.returns
returns c =
    rw c.infinity-largest.ensures (either-infinity c.args.x)
