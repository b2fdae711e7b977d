-- `leaves::numeral::put_numeral` meets its contract, form by form. Assumes nothing.
use mathlib.Core.Path.{refl}
use Rattle.base.proofs.SpliceLaws.{begin, first, room, step, finish, cut-last}
use Rattle.leaves.proofs.NumeralLaws.{display_number-whole, display_number-negative, display_number-nan}
use Rattle.leaves.proofs.NumeralLaws.{display_number-inf, display_number-neg-inf, display_number-fraction}
use Rattle.leaves.proofs.NumeralLaws.{display_number-negative-fraction}
use Rattle.leaves.proofs.numeral.put_numeral.Goals as goal

pub put_decimal-requires : goal.put_decimal-requires
put_decimal-requires c =
    rw (display_number-whole _ _ _ c.in-Whole.is) at c.requires

pub put_byte-digits-requires : goal.put_byte-digits-requires
put_byte-digits-requires c =
    first _ _ c.requires (display_number-negative _ _ _ c.in-Negative.is)

pub put_decimal-requires-in-Negative : goal.put_decimal-requires-in-Negative
put_decimal-requires-in-Negative c =
    room (step (begin _ _ _ c.requires) (display_number-negative _ _ _ c.in-Negative.is)
    c.put_byte-digits.ensures) (cut-last _)

pub put_bytes-requires : goal.put_bytes-requires
put_bytes-requires c =
    rw (display_number-nan _ _ c.in-Nan.is) at c.requires

pub put_infinity-requires : goal.put_infinity-requires
put_infinity-requires c =
    rw (display_number-inf _ _ c.in-Inf.is) at c.requires

pub put_byte-word-requires : goal.put_byte-word-requires
put_byte-word-requires c =
    first _ _ c.requires (display_number-neg-inf _ _ c.in-NegInf.is)

pub put_infinity-requires-in-NegInf : goal.put_infinity-requires-in-NegInf
put_infinity-requires-in-NegInf c =
    room (step (begin _ _ _ c.requires) (display_number-neg-inf _ _ c.in-NegInf.is)
    c.put_byte-word.ensures) (cut-last _)

pub put_expansion-requires : goal.put_expansion-requires
put_expansion-requires c =
    rw (display_number-fraction _ _ _ _ c.in-Fraction.is) at c.requires

pub put_byte-next-requires : goal.put_byte-next-requires
put_byte-next-requires c =
    first _ _ c.requires (display_number-negative-fraction _ _ _ _ c.in-NegativeFraction.is)

pub put_expansion-requires-in-NegativeFraction : goal.put_expansion-requires-in-NegativeFraction
put_expansion-requires-in-NegativeFraction c =
    room (step (begin _ _ _ c.requires)
    (display_number-negative-fraction _ _ _ _ c.in-NegativeFraction.is)
    c.put_byte-next.ensures) (cut-last _)

pub returns-in-Whole : goal.returns-in-Whole
returns-in-Whole c =
    rw (display_number-whole _ _ _ c.in-Whole.is) c.put_decimal.ensures

pub returns-in-Negative : goal.returns-in-Negative
returns-in-Negative c =
    finish (step (step (begin _ _ _ c.requires)
    (display_number-negative _ _ _ c.in-Negative.is) c.put_byte-digits.ensures)
    (cut-last _) c.put_decimal-in-Negative.ensures) refl

pub returns-in-Nan : goal.returns-in-Nan
returns-in-Nan c =
    rw (display_number-nan _ _ c.in-Nan.is) c.put_bytes.ensures

pub returns-in-Inf : goal.returns-in-Inf
returns-in-Inf c =
    rw (display_number-inf _ _ c.in-Inf.is) c.put_infinity.ensures

pub returns-in-NegInf : goal.returns-in-NegInf
returns-in-NegInf c =
    finish (step (step (begin _ _ _ c.requires)
    (display_number-neg-inf _ _ c.in-NegInf.is) c.put_byte-word.ensures)
    (cut-last _) c.put_infinity-in-NegInf.ensures) refl

pub returns-in-Fraction : goal.returns-in-Fraction
returns-in-Fraction c =
    rw (display_number-fraction _ _ _ _ c.in-Fraction.is)
    c.put_expansion.ensures

pub returns-in-NegativeFraction : goal.returns-in-NegativeFraction
returns-in-NegativeFraction c =
    finish (step (step (begin _ _ _ c.requires)
    (display_number-negative-fraction _ _ _ _ c.in-NegativeFraction.is)
    c.put_byte-next.ensures) (cut-last _) c.put_expansion-in-NegativeFraction.ensures) refl
