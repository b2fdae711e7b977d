-- Pages with fractions (document 02, No. 5), computed together: what check, canonical text and copy give; then wrong
-- answers, none of which holds.
use Rattle.std.specs.Prelude.{ℕ, Bool, ◌&&◌, not, List, [], ◌∷◌, ◌++◌, T}
use Prim.Native.String.{String}
use Rattle.page.specs.Bytes.{bytes, hex, all}
use Rattle.records.specs.Kind.{Kind, vector, scalar}
use Rattle.records.specs.Record.{read_record, read_page, write_record}
use Rattle.leaves.specs.Decimal.{digits, decimal, padded, expansion}
use Rattle.leaves.specs.Numeral.{display_number, display_literal, display_fill}
use Rattle.ast.specs.CheckAst.{check_ast}
use Rattle.ast.specs.CheckPage.{apply, check_page, check}
use Rattle.copy.specs.Copy.{copy_page}
use Rattle.text.specs.Display.{display}
use Rattle.outcomes.specs.Calls.{copy, canonical_text}
use Rattle.outcomes.specs.Computed.{lent, writes, is_refusal}

-- its kind, its canonical text and its copy; or a refusal's number and record
data Expected : Type 0 where
  gives : Kind → String → List ℕ → Expected
  refuses : ℕ → ℕ → Expected

record Example : Type 0 where
  page : List ℕ
  expected : Expected

abbrev example : String → Expected → Example
example p e = record { page = hex p; expected = e }

-- a page that is its own copy
abbrev same : String → Kind → String → Example
same p k t = example p (gives k t (hex p))

-- refused with 1 at the first record
abbrev bad : String → Example
bad p = example p (refuses 1 0)

-- ## Numbers

abbrev numbers : List Example
numbers =
    same "00055f02" scalar "0.95" ∷ same "00050106" scalar "0.000001" ∷ same "00051901" scalar "2.5"
    -- forms 5 and 6 "negate into each other"; a paren between keeps both records
    ∷ example "00055f02 07" (gives scalar "-0.95" (hex "00065f02")) ∷ example "00065f02 07" (gives scalar "0.95" (hex "00055f02"))
    ∷ example "00055f02 07 07" (gives scalar "0.95" (hex "00055f02")) ∷ same "00055f02 08 07" scalar "-(0.95)"
    -- the smallest, the longest text, the greatest, digits 10^15 - 1 with 15 places
    ∷ same "0005010f" scalar "0.000000000000001" ∷ same "0006010f" scalar "-0.000000000000001"
    ∷ same "0005ffff99a6eaafe30101" scalar "99999999999999.9"
    ∷ same "0005ffff99a6eaafe3010f" scalar "0.999999999999999"
    -- digits 10^15, 0, 10; digits 950 with places 3
    ∷ bad "000580809aa6eaafe30101" ∷ bad "00050001" ∷ bad "00050a01" ∷ bad "0005b60703"
    -- places 0, 16; places missing, digits missing; digits in a long form; form 7
    ∷ bad "00055f00" ∷ bad "00055f10" ∷ bad "00055f" ∷ bad "0005" ∷ bad "0005df0002" ∷ bad "00075f02"
    -- @ has no form 5
    ∷ example "0202757000 05055f02" (refuses 1 1)
    ∷ []

-- ## Fractions as operands

abbrev operands : List Example
operands =
    same "00055f02 0202757000 0a180002" vector "quantile(0.95, up)"
    -- the literal exception: ln at or below 0, so form 6 alone; exp of no fraction
    ∷ example "00050501 0b026c6e0100000001" (refuses 30 1) ∷ same "00060501 0b026c6e0100000001" vector "ln(-0.5)"
    ∷ example "00050501 07 0b026c6e0100000001" (gives vector "ln(-0.5)" (hex "00060501 0b026c6e0100000001"))
    ∷ example "00060501 07 0b026c6e0100000001" (refuses 30 2) ∷ example "00060501 0b036578700100000001" (refuses 30 1)
    -- a paren: no bare number
    ∷ example "00060501 08 0b026c6e0100000001" (refuses 30 2)
    -- two scalars compared, a set operator on a scalar
    ∷ example "00050501 00050501 090800" (refuses 18 2) ∷ example "00050501 0202757000 090600" (refuses 20 2)
    ∷ same "000001 00060501 090f00" scalar "1 - -0.5"
    -- a range, @ and offset on a number
    ∷ example "00050501 0301" (refuses 9 1) ∷ example "00050501 0500" (refuses 11 1) ∷ example "00050501 060001" (refuses 13 1)
    ∷ []

-- ## Fills

-- `up + up` with these fills, its own copy
abbrev filled : String → String → Example
filled fills t = whole (hex "0202757000 0202757000 090101000000" ++ hex fills)
  where
    whole : List ℕ → Example
    whole p = record { page = p; expected = gives vector t p }

abbrev fills : List Example
fills =
    filled "0105050100" "up + fill_left (0.5) up" ∷ filled "0001060501" "up + fill_right (-0.5) up"
    -- "compare by value": equal; another sign, other places, the digits as a whole number, 0, NaN, 10^14
    ∷ filled "01050501 01050501" "up + fill (0.5) up" ∷ filled "01060501 01060501" "up + fill (-0.5) up"
    ∷ filled "01050501 01060501" "up + fill_left (0.5) fill_right (-0.5) up"
    ∷ filled "01050501 01050502" "up + fill_left (0.5) fill_right (0.05) up"
    ∷ filled "01050501 010005" "up + fill_left (0.5) fill_right (5) up"
    ∷ filled "01050501 010000" "up + fill_left (0.5) fill_right (0) up"
    ∷ filled "010000 01050501" "up + fill_left (0) fill_right (0.5) up"
    ∷ filled "01050501 0102" "up + fill_left (0.5) fill_right (NaN) up"
    ∷ filled "0103 01050501" "up + fill_left (inf) fill_right (0.5) up"
    ∷ filled "0105ffff99a6eaafe30101 01008080e983b1de16" "up + fill_left (99999999999999.9) fill_right (100000000000000) up"
    -- 1 comes before 2; the right fill is read after the left one
    ∷ bad "09010100000001 05000100" ∷ example "0202757000 0202757000 090101000000 01050501 01050510" (refuses 1 2)
    -- a set operator: the fills stay
    ∷ example "0202757000 0202757000 090701000000 01050501 01060501"
    (gives vector "up or fill_left (0.5) fill_right (-0.5) up" (hex "0202757000 0202757000 090701000003 01050501 01060501"))
    ∷ []

-- ## The test

-- bytes that are lent, enough for each example
abbrev room : ℕ
room = 72

abbrev holds : Example → Bool
holds e = by e.expected
  where
    by : Expected → Bool
    by (gives k t c) = writes room k (bytes t) (canonical_text e.page (lent room)) && writes room k c (copy e.page (lent room))
    by (refuses n i) = is_refusal n i (check e.page)

every_number : T (all holds numbers)
unfolding read_record read_page write_record check_ast apply check_page copy_page digits decimal padded expansion display_number
    display_literal display
every_number = tt

every_operand : T (all holds operands)
unfolding read_record read_page write_record check_ast apply check_page copy_page digits decimal padded expansion display_number
    display_literal display
every_operand = tt

every_fill : T (all holds fills)
unfolding read_record read_page write_record check_ast apply check_page copy_page digits decimal padded expansion display_number
    display_fill display
every_fill = tt

-- ## Wrong answers

abbrev wrong : List Example
wrong =
    -- the zeros after the point left out; the whole part left out; a trailing 0; an exponent
    same "00050502" scalar "0.5" ∷ same "00055f02" scalar ".95" ∷ same "00050501" scalar "0.50"
    ∷ same "0005010f" scalar "1e-15"
    -- form 6 as plus; a unary that leaves form 5
    ∷ same "00065f02" scalar "0.95" ∷ example "00055f02 07" (gives scalar "0.95" (hex "00055f02"))
    -- 10^15, places 16 and digits that end in 0 let in
    ∷ same "000580809aa6eaafe30101" scalar "100000000000000.0" ∷ same "00055f10" scalar "0.0000000000000095"
    ∷ same "00050a01" scalar "1.0"
    -- refused with 3, as for a limit
    ∷ example "000580809aa6eaafe30101" (refuses 3 0)
    -- every fraction under the literal exception, or none
    ∷ same "00050501 0b026c6e0100000001" vector "ln(0.5)" ∷ example "00060501 0b026c6e0100000001" (refuses 30 1)
    -- digits compared alone; by value with a whole number of the same digits; signs not compared
    ∷ filled "01050501 01050502" "up + fill (0.05) up" ∷ filled "01050501 010005" "up + fill (5) up"
    ∷ filled "01050501 01060501" "up + fill (-0.5) up"
    -- equal fractions not equal, as NaN would be
    ∷ filled "01050501 01050501" "up + fill_left (0.5) fill_right (0.5) up"
    ∷ []

none_holds : T (all (λ e. not (holds e)) wrong)
unfolding read_record read_page write_record check_ast apply check_page copy_page digits decimal padded expansion display_number
    display_literal display_fill display
none_holds = tt
