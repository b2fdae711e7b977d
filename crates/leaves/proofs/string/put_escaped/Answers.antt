use Rattle.base.proofs.SpliceLaws.{begin, room, step, finish}
use Rattle.leaves.proofs.EscapeLaws.{escape-next, escape_end}
use Rattle.leaves.proofs.string.put_escaped.Goals as goal

pub loop-b-init : goal.loop-b-init
loop-b-init c =
    begin _ _ _ c.requires

pub put_escaped_byte-pos-requires : goal.put_escaped_byte-pos-requires
put_escaped_byte-pos-requires c =
    room c.loop-b.invariant (escape-next _ _ c.loop-b-test.true)

pub loop-b-preserved : goal.loop-b-preserved
loop-b-preserved c =
    step c.loop-b.invariant (escape-next _ _ c.loop-b-test.true)
    c.put_escaped_byte-pos.ensures

pub returns : goal.returns
returns c =
    finish c.loop-b.invariant (escape_end _ _ c.loop-b-test.false)
