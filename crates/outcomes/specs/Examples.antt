-- Document 01's starred bench examples, proved together by one computed test. (A program runs the others against the
-- Rust.)
use Rattle.std.specs.Prelude.{ℕ, Bool, false, ◌&&◌, List, [], ◌∷◌, T, eqb}
use Prim.Native.String.{String}
use Rattle.page.specs.Bytes.{bytes, hex, all}
use Rattle.page.specs.Bytes.{equal as equal_bytes}
use Rattle.records.specs.Kind.{Kind, vector, scalar, matrix, equal_kind}
use Rattle.records.specs.Record.{read_record, read_page, write_record}
use Rattle.ast.specs.CheckAst.{check_ast}
use Rattle.ast.specs.CheckPage.{apply, check_page, check}
use Rattle.copy.specs.Copy.{copy_page}
use Rattle.leaves.specs.Decimal.{digits, decimal}
use Rattle.leaves.specs.Escape.{escape_byte, escape, quote}
use Rattle.leaves.specs.Duration.{count_of, counts_of, duration_counts, display_count, display_counts, display_duration}
use Rattle.leaves.specs.Numeral.{display_number, display_literal, display_fill}
use Rattle.label.specs.Label.{display_label, display_labels, display_matcher, at_most, insert, sort, joined_by_commas, display_matchers}
use Rattle.text.specs.Display.{display}
use Rattle.text.specs.Pretty.{pretty}
use Rattle.records.specs.Outcome.{Outcome, answer, refusal}
use Rattle.outcomes.specs.Calls.{Called, copy, canonical_text, split_text}
use Rattle.outcomes.specs.Computed.{lent, writes}
use Rattle.outcomes.specs.Output.{program_output}

-- what a page gives: its kind, its canonical text and its copy; or a refusal's number and record, and the program's
-- output
data Expected : Type 0 where
  gives : Kind → String → List ℕ → Expected
  refuses : ℕ → ℕ → String → Expected

record Example : Type 0 where
  page : List ℕ
  expected : Expected

abbrev example : List ℕ → Expected → Example
example p e = record { page = p; expected = e }

abbrev up : List ℕ
up = hex "0202757000"

abbrev examples : List Example
examples =
    -- `up`
    example up (gives vector "up" up)
    -- `-5`: the copy has a negated number
    ∷ example (hex "000005 07") (gives scalar "-5" (hex "000105"))
    -- `up and up`: the copy has a many-to-many modifier
    ∷ example (hex "0202757000 0202757000 090600") (gives vector "up and up" (hex "0202757000 0202757000 0906010000030000"))
    -- the empty page
    ∷ example ([]) (refuses 2 0 "refused 2 at 0\n")
    -- `ln(0)` passes by the literal exception
    ∷ example (hex "000000 0b026c6e0100000001") (gives vector "ln(0)" (hex "000000 0b026c6e0100000001"))
    -- `ln((0))`: no bare number
    ∷ example (hex "000000 08 0b026c6e0100000001") (refuses 30 2 "refused 30 at 2\n")
    -- `exp(0)`
    ∷ example (hex "000000 0b036578700100000001") (refuses 30 1 "refused 30 at 1\n")
    -- 31536000000 ms
    ∷ example (hex "0202757000 0380d8c4bd75") (gives matrix "up[1y]" (hex "0202757000 0380d8c4bd75"))
    -- 32140800000 ms
    ∷ example (hex "0202757000 0380e0f6dd77") (gives matrix "up[372d]" (hex "0202757000 0380e0f6dd77"))
    -- 32054400000 ms
    ∷ example (hex "0202757000 0380a8ddb477") (gives matrix "up[53w]" (hex "0202757000 0380a8ddb477"))
    -- 1500 ms
    ∷ example (hex "0202757000 03dc0b") (gives matrix "up[1s500ms]" (hex "0202757000 03dc0b"))
    -- fills NaN and NaN
    ∷ example (hex "0202757000 0202757000 09010100000001020102")
    (gives vector "up + fill_left (NaN) fill_right (NaN) up" (hex "0202757000 0202757000 09010100000001020102"))
    ∷ []

-- bytes that are lent, enough for each example
abbrev room : ℕ
room = 64

abbrev outcome_is : Expected → Outcome → Bool
outcome_is (gives k t c) (answer j n) = equal_kind k j && eqb n 0
outcome_is (gives k t c) (refusal n i) = false
outcome_is (refuses n i w) (answer j m) = false
outcome_is (refuses n i w) (refusal m j) = eqb n m && eqb i j

abbrev writes_as : Expected → List ℕ → Bool
writes_as (gives k t c) page = writes room k (bytes t) (canonical_text page (lent room)) && writes room k c (copy page (lent room))
writes_as (refuses n i w) page = equal_bytes (program_output page) (bytes w)

abbrev holds : Example → Bool
holds e = outcome_is e.expected (check e.page) && writes_as e.expected e.page

-- row 5 of document 01's table: `up`, 1 byte lent. 5 has the number of records as index, and the buffer keeps its byte
abbrev is_too_short : Called → Bool
is_too_short c = outcome_is (refuses 5 1 "") c.outcome && equal_bytes c.buffer (7 ∷ [])

too_short_for_up : T (is_too_short (copy up (7 ∷ [])) && is_too_short (canonical_text up (7 ∷ [])) && is_too_short (split_text up (7 ∷ [])))
unfolding read_record read_page write_record check_ast apply check_page copy_page display pretty
too_short_for_up = tt

starred : T (all holds examples)
unfolding read_record read_page write_record check_ast apply check_page copy_page digits decimal escape_byte escape quote
    count_of counts_of duration_counts display_count display_counts display_duration display_number display_literal
    display_fill display_label display_labels display_matcher at_most insert sort joined_by_commas display_matchers display
    pretty program_output
starred = tt
