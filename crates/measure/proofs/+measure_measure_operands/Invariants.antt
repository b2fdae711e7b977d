-- The proof of the cycle {measure, measure_operands}: widths as lengths up to a cap, with the laws of `LengthLaws`; the
-- table stays right at each width put into it. The measures are those of the lengths. Assumes nothing.
use Prim.Native.Nat.{◌+◌}
use Rattle.measure.proofs.+measure_measure_operands.Given as goal

abbrev pub decreases-measure : goal.decreases-measure
decreases-measure l =
    l.i + l.i + 1

abbrev pub decreases-measure_operands : goal.decreases-measure_operands
decreases-measure_operands l =
    l.end + l.end
