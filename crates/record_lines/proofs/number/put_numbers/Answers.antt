use lib.ListN.{drop_of_length-le}
use Rattle.base.proofs.SpliceLaws.{drop-next}
use Rattle.record_lines.proofs.LineLaws.{showing-start, showing-next, showing-end}
use Rattle.record_lines.proofs.number.put_numbers.Goals as goal

pub loop-number-init : goal.loop-number-init
loop-number-init c =
    showing-start

pub loop-number-preserved : goal.loop-number-preserved
loop-number-preserved c =
    showing-next c.loop-number.invariant (drop-next _ _ 0 c.loop-number-test.true) c.put_spaced-end.ensures

pub returns : goal.returns
returns c =
    showing-end c.loop-number.invariant (drop_of_length-le _ c.loop-number-test.false)
