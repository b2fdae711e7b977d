-- `float::fraction_of` meets its contract: only two forms are fractions. Assumes nothing.
use Rattle.float.proofs.fraction_of.Goals as goal

pub returns-in-Fraction : goal.returns-in-Fraction
returns-in-Fraction c =
    rw c.in-Fraction.is

pub returns-in-NegativeFraction : goal.returns-in-NegativeFraction
returns-in-NegativeFraction c =
    rw c.in-NegativeFraction.is
