-- `leaves::numeral::numeral_len` meets its contract, form by form. Assumes nothing.
use native.Mathlib.Omega.{arith}
use Rattle.leaves.proofs.NumeralLaws.{measured-whole, measured-negative, measured-nan, measured-inf}
use Rattle.leaves.proofs.NumeralLaws.{measured-fraction, measured-negative-fraction}
use Rattle.leaves.proofs.NumeralLaws.{measured-neg-inf}
use Rattle.leaves.proofs.numeral.numeral_len.Goals as goal

pub overflow_add-result : goal.overflow_add-result
overflow_add-result c =
    omega (arith, c.decimal_len-in-Negative.ensures)

pub overflow_add-result-in-NegativeFraction : goal.overflow_add-result-in-NegativeFraction
overflow_add-result-in-NegativeFraction c =
    omega (arith, c.expansion_len-in-NegativeFraction.ensures)

pub returns-in-Whole : goal.returns-in-Whole
returns-in-Whole c =
    measured-whole _ _ _ c.in-Whole.is c.decimal_len.ensures.0

pub returns-in-Negative : goal.returns-in-Negative
returns-in-Negative c =
    measured-negative _ _ _ c.in-Negative.is c.decimal_len-in-Negative.ensures.0

pub returns-in-Nan : goal.returns-in-Nan
returns-in-Nan c =
    measured-nan _ c.in-Nan.is

pub returns-in-Inf : goal.returns-in-Inf
returns-in-Inf c =
    measured-inf _ c.in-Inf.is

pub returns-in-NegInf : goal.returns-in-NegInf
returns-in-NegInf c =
    measured-neg-inf _ c.in-NegInf.is

pub returns-in-Fraction : goal.returns-in-Fraction
returns-in-Fraction c =
    measured-fraction _ _ _ _ c.in-Fraction.is c.expansion_len.ensures.0

pub returns-in-NegativeFraction : goal.returns-in-NegativeFraction
returns-in-NegativeFraction c =
    measured-negative-fraction _ _ _ _ c.in-NegativeFraction.is c.expansion_len-in-NegativeFraction.ensures.0
