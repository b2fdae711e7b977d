-- The two fill numbers as 64-bit floats (document 01, 'The forms we use': a struct with left and right f64 and presence
-- marks; ast.rs, `VectorMatchFillValues`). Fractions "are held as digits and places (a fill's beside document 01's two
-- floats)": document 02, No. 5.
use Rattle.std.specs.Prelude.{ℕ, Bool, true, false, ◌&&◌, ◌||◌, not, eqb, Float}
use Rattle.std.specs.Bool.{beq}
use Rattle.std.proofs.Math.Option.{Option, none, some}
use Rattle.std.specs.Float.Ieee as Ieee
use Rattle.records.specs.Literal.{whole, fraction, infinite, Literal, plus, minus, nan}
use Rattle.records.specs.Float.{zero_float, float}
use Rattle.float.specs.declared.Fraction.{Fraction}
use Rattle.float.specs.declared.FillValue.{FillValue}
use Rattle.float.specs.declared.FillValues.{FillValues}

-- 0 stands where there is none, NaN where it is a fraction
abbrev pub fill_float : Option Literal → Float
fill_float none = zero_float
fill_float (some l) = float l

abbrev pub is_present : Option Literal → Bool
is_present none = false
is_present (some l) = true

abbrev fraction_from : Bool → ℕ → ℕ → Fraction
fraction_from s p d = record { minus = s; places = p; digits = d }

-- no fraction has 0 places
abbrev pub no_fraction : Fraction
no_fraction = fraction_from false 0 0

-- the fraction that a literal is
abbrev pub fraction_of : Literal → Fraction
fraction_of (plus (whole n)) = no_fraction
fraction_of (plus (fraction d p)) = fraction_from false p d
fraction_of (plus infinite) = no_fraction
fraction_of (minus (whole n)) = no_fraction
fraction_of (minus (fraction d p)) = fraction_from true p d
fraction_of (minus infinite) = no_fraction
fraction_of nan = no_fraction

abbrev pub fill_fraction : Option Literal → Fraction
fill_fraction none = no_fraction
fill_fraction (some l) = fraction_of l

abbrev pub fill_value : Option Literal → FillValue
fill_value x = record { number = fill_float x; present = is_present x; fraction = fill_fraction x }

abbrev pub fill_values : Option Literal → Option Literal → FillValues
fill_values lhs rhs =
    record {
      left = fill_float lhs;
      right = fill_float rhs;
      has_left = is_present lhs;
      has_right = is_present rhs;
      left_fraction = fill_fraction lhs;
      right_fraction = fill_fraction rhs;
    }

-- sign, digits and places are equal
abbrev pub same_fraction : Fraction → Fraction → Bool
same_fraction a b = not (eqb a.places 0) && beq a.minus b.minus && eqb a.digits b.digits && eqb a.places b.places

-- both are there and "compare by value": equal as floats, or the same fraction
abbrev pub same_fills : FillValues → Bool
same_fills f = f.has_left && f.has_right && (Ieee.eq f.left f.right || same_fraction f.left_fraction f.right_fraction)
