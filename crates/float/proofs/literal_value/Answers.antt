-- `float::literal_value` meets its contract: the float of each form, NaN for a fraction. Assumes nothing.
use lib.Ieee as Ieee
use Rattle.float.proofs.literal_value.Goals as goal

pub whole-requires : goal.whole-requires
whole-requires c =
    rw c.in-Whole.is at c.requires

pub whole-requires-in-Negative : goal.whole-requires-in-Negative
whole-requires-in-Negative c =
    rw c.in-Negative.is at c.requires

pub returns-in-Whole : goal.returns-in-Whole
returns-in-Whole c =
    rw (c.in-Whole.is, c.whole.ensures)

pub returns-in-Negative : goal.returns-in-Negative
returns-in-Negative c =
    rw (c.in-Negative.is, c.negated.ensures, c.whole-in-Negative.ensures)

pub returns-in-NegInf : goal.returns-in-NegInf
returns-in-NegInf c =
    rw (c.in-NegInf.is, c.negated-in-NegInf.ensures, c.infinity-in-NegInf.ensures)

pub returns-in-NegativeFraction : goal.returns-in-NegativeFraction
unfolding Ieee.neg
returns-in-NegativeFraction c =
    rw (c.in-NegativeFraction.is, c.not_a_number-in-NegativeFraction.ensures)
