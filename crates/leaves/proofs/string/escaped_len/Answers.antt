use native.Mathlib.Omega.{arith}
use mathlib.Core.Path.{ap}
use lib.ListN.{length}
use Rattle.leaves.proofs.EscapeLaws.{escape_end, escape-adds}
use Rattle.leaves.proofs.string.escaped_len.Goals as goal
use Rattle.leaves.proofs.string.escaped_len.Goals.{in-None, in-Some}

pub loop-b-preserved : goal.loop-b-preserved
loop-b-preserved c =
    let text = c.args.text.now in
    elim c.match-escape_letter.branch [
      | in-None w ↦ omega (arith, escape-adds text _ c.loop-b-test.true, ap length w.in-None.ensures)
      | in-Some w ↦ omega (arith, escape-adds text _ c.loop-b-test.true, ap length w.in-Some.ensures)
    ]

pub returns : goal.returns
returns c =
    omega (arith, ap length (escape_end c.args.text.now _ c.loop-b-test.false))
