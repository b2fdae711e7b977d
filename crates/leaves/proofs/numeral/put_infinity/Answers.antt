-- `leaves::numeral::put_infinity` meets its contract. Assumes nothing.
use Rattle.leaves.proofs.numeral.put_infinity.Goals as goal

pub put_bytes-requires : goal.put_bytes-requires
put_bytes-requires c =
    rw c.if-capital.true at c.requires

pub returns-then-capital : goal.returns-then-capital
returns-then-capital c =
    rw c.if-capital.true c.put_bytes.ensures

pub put_bytes-requires-2 : goal.put_bytes-requires-2
put_bytes-requires-2 c =
    rw c.if-capital.false at c.requires

pub returns : goal.returns
returns c =
    rw c.if-capital.false c.put_bytes-2.ensures
