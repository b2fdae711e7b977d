-- `page::write::put_bytes` meets its contract: a byte at a time. Assumes nothing.
use lib.ListN.{drop_of_length-le}
use Rattle.base.proofs.SpliceLaws.{begin, room, step, finish, drop-next}
use Rattle.page.proofs.write.put_bytes.Goals as goal

pub loop-b-init : goal.loop-b-init
loop-b-init c =
    begin _ _ _ c.requires

pub put_byte-pos-requires : goal.put_byte-pos-requires
put_byte-pos-requires c =
    room c.loop-b.invariant (drop-next _ _ 0 c.loop-b-test.true)

pub loop-b-preserved : goal.loop-b-preserved
loop-b-preserved c =
    step c.loop-b.invariant (drop-next _ _ 0 c.loop-b-test.true) c.put_byte-pos.ensures

pub returns : goal.returns
returns c =
    finish c.loop-b.invariant (drop_of_length-le _ c.loop-b-test.false)
