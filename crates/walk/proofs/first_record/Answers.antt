-- `walk::first_record` meets its contract. Assumes nothing.
use Rattle.walk.proofs.BasesLaws.{first_of-some}
use Rattle.walk.proofs.first_record.Goals as goal

pub returns : goal.returns
returns c =
    first_of-some c.args.bases.now c.args.depth c.args.needed c.args.count c.if-needed-eq0.false
