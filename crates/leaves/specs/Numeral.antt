-- Texts of numbers (ast.rs, `NumberLiteral`; Rust's `Display` of an f64). Document 02, No. 5: fractions "print as the
-- Rust prints the nearest float (0.95, 0.000001)". At most 15 digits come back from the nearest float, so that is the
-- expansion of the fraction itself, never an exponent; that the Rust prints so is run, not proved.
use Prim.Native.String.{String}
use Rattle.std.specs.Prelude.{ℕ, List, ◌++◌}
use Rattle.page.specs.Bytes.{bytes}
use Rattle.records.specs.Literal.{Magnitude, whole, fraction, infinite, Literal, plus, minus, nan}
use Rattle.leaves.specs.Decimal.{decimal, expansion}

abbrev pub display_magnitude : String → Magnitude → List ℕ
display_magnitude infinity (whole n) = decimal n
display_magnitude infinity (fraction d p) = expansion p d
display_magnitude infinity infinite = bytes infinity

-- the word for infinity is the only difference between the texts of a literal and of a fill
unfoldable pub display_number : String → Literal → List ℕ
display_number infinity (plus m) = display_magnitude infinity m
display_number infinity (minus m) = bytes "-" ++ display_magnitude infinity m
display_number infinity nan = bytes "NaN"

-- `Display` of `NumberLiteral`
unfoldable pub display_literal : Literal → List ℕ
display_literal = display_number "Inf"

-- `Display` of an f64, as fills are printed
unfoldable pub display_fill : Literal → List ℕ
display_fill = display_number "inf"

-- no number of a page has a longer text: `-0.000000000000001` has as many bytes
abbrev pub longest_numeral : ℕ
longest_numeral = 18
