-- `page::write::put_byte` meets its contract. Assumes nothing.
use native.Mathlib.Omega.{arith}
use Rattle.base.proofs.SpliceLaws.{wrote-set}
use Rattle.page.proofs.write.put_byte.Goals as goal

pub returns : goal.returns
returns c =
    wrote-set _ _ _ (omega arith)
