use native.Mathlib.Omega.{arith}
use mathlib.Core.Path.{ap}
use Rattle.text.specs.Pretty.{indent}
use Rattle.base.proofs.SpliceLaws.{begin-as, room, step, finish}
use Rattle.indented.proofs.IndentLaws.{indent-none, indent-more}
use Rattle.indented.proofs.put_spaces.Goals as goal

pub loop-init : goal.loop-init
loop-init c =
    begin-as c.requires (ap indent (omega arith))

pub put_bytes-pos-requires : goal.put_bytes-pos-requires
put_bytes-pos-requires c =
    room c.loop.invariant (indent-more _ _ c.loop-test.true)

pub loop-preserved : goal.loop-preserved
loop-preserved c =
    step c.loop.invariant (indent-more _ _ c.loop-test.true) c.put_bytes-pos.ensures

pub returns : goal.returns
returns c =
    finish c.loop.invariant (indent-none _ (omega (arith, c.loop-test.false)))
