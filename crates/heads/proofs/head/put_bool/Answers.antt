-- `heads::head::put_bool` meets its contract. Assumes nothing.
use Rattle.base.proofs.SpliceLaws.{begin, finish}
use Rattle.heads.proofs.head.put_bool.Goals as goal

pub returns : goal.returns
returns c =
    finish (begin _ _ _ c.requires) (rw c.if-returns_bool.false)
