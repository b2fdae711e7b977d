-- The table of refusals, row by row, document 01's and then document 02's: what it refuses, its example, and where the
-- definition of the row stands. The check gives each example that number at that record, by one computed test. (5 needs
-- a buffer: outcomes/specs/Examples.)
use Rattle.std.specs.Prelude.{ℕ, Bool, ◌&&◌, ◌||◌, List, [], ◌∷◌, ◌++◌, replicate, T, eqb}
use Rattle.page.specs.Bytes.{hex, all, any}
use Rattle.patterns.specs.Pattern.{is_single}
use Rattle.patterns.specs.Search.{read_choice, matches_empty_text}
use Rattle.records.specs.Record.{read_record, read_page}
use Rattle.records.specs.Outcome.{refusal}
use Rattle.ast.specs.CheckAst.{check_ast}
use Rattle.ast.specs.CheckPage.{apply, check_page, check}
use Rattle.ast.specs.Table.{table_numbers}
use Rattle.ast.specs.Beside.{is_same}

record Example : Type 0 where
  number : ℕ
  index : ℕ
  page : List ℕ

-- a row's number, the record of its example, the example
abbrev row : ℕ → ℕ → List ℕ → Example
row n i p = record { number = n; index = i; page = p }

-- `up`, `1`, `"a"` and `offset 1m`
abbrev up : List ℕ
up = hex "0202757000"

abbrev one : List ℕ
one = hex "000001"

abbrev text : List ℕ
text = hex "010161"

abbrev offset_minute : List ℕ
offset_minute = hex "0600e0d403"

abbrev refusal_table : List Example
refusal_table =
    -- 1: record cut short, bad number or code: byte 99 alone (page/specs/Read, `bad_field`)
    row 1 0 (hex "63")
    -- 2: operands missing, or not one expression at the end: the empty page (`apply`; `at_end`)
    ∷ row 2 0 ([])
    -- 3: a limit passed: 257 records (page/specs/Read, `past_limit`)
    ∷ row 3 256 (up ++ replicate 256 0x08)
    -- 4: text not allowed: the metric name `9a` (page/specs/Read, `bad_text`)
    ∷ row 4 0 (hex "0202396100")
    -- 5: output too short; tested last: `up`, 1 byte lent (outcomes/specs/Calls, `too_short`)
    -- 6: unary on a string literal or range selector: `-"a"` (`new_unary`)
    ∷ row 6 1 (text ++ hex "07")
    -- 7: range after offset: `up offset 1m` then range (`range_after`)
    ∷ row 7 2 (up ++ offset_minute ++ hex "0301")
    -- 8: range after @: `up @ end()` then range (`range_after`)
    ∷ row 8 2 (up ++ hex "0501 0301")
    -- 9: range on anything but a selector: `1` then range (`new_matrix_selector`)
    ∷ row 9 1 (one ++ hex "0301")
    -- 10: @ set already: `up @ end()` then @ (`set_at`)
    ∷ row 10 2 (up ++ hex "0501 0501")
    -- 11: @ on no selector, range or subquery: `1` then @ (`at_with`)
    ∷ row 11 1 (one ++ hex "0501")
    -- 12: offset set already: `up offset 1m` then offset (`set_offset`)
    ∷ row 12 2 (up ++ offset_minute ++ offset_minute)
    -- 13: offset on none of these: `1` then offset (`offset_with`)
    ∷ row 13 1 (one ++ offset_minute)
    -- 14: aggregate of 0 arguments: `sum()` (`new_aggregate_of`)
    ∷ row 14 0 (hex "0a1b0000")
    -- 15: other count than 1, or 2 with a parameter: `topk(up)` (`new_aggregate_of`)
    ∷ row 15 1 (up ++ hex "0a1c0001")
    -- 16: binary code is an aggregator: code 27, two `up` (`binary_rows`)
    ∷ row 16 2 (up ++ up ++ hex "091b00")
    -- 17: bool without comparison: `up + bool up` (`binary_rows`)
    ∷ row 17 2 (up ++ up ++ hex "0901010100000000")
    -- 18: two scalars compared without bool: `1 < 2` (`binary_rows`)
    ∷ row 18 2 (one ++ hex "000002 090800")
    -- 19: a label in both on and group: `up + on (x) group_left (x) up` (`binary_rows`)
    ∷ row 19 2 (up ++ up ++ hex "0901010001010178010101780000")
    -- 20: set operator, a side scalar: `1 and up` (`binary_rows`)
    ∷ row 20 2 (one ++ up ++ hex "090600")
    -- 21: set operator between vectors, grouped: `up or group_left () up` (`binary_rows`)
    ∷ row 21 2 (up ++ up ++ hex "090701000001000000")
    -- 22: a side string or matrix: `"a" + 1` (`binary_rows`)
    ∷ row 22 2 (text ++ one ++ hex "090100")
    -- 23: matching labels not empty, a side no vector: `1 + on (x) up` (`binary_rows`)
    ∷ row 23 2 (one ++ up ++ hex "0901010001010178000000")
    -- 24: aggregate code is an operator: code 1 over `up` (`aggregate_rows`)
    ∷ row 24 1 (up ++ hex "0a010001")
    -- 25: aggregate operand or parameter kind: `sum(1)` (`aggregate_rows`)
    ∷ row 25 1 (one ++ hex "0a1b0001")
    -- 26: fixed signature, other count: `ln()` (`arity_rows`)
    ∷ row 26 0 (hex "0b026c6e0100000000")
    -- 27: fewer than declared kinds less one: `round()` (`arity_rows`)
    ∷ row 27 0 (hex "0b05726f756e6402000102010000")
    -- 28: more than that plus the upper extra: `round(up, 1, 1)` (`arity_rows`)
    ∷ row 28 3 (up ++ one ++ one ++ hex "0b05726f756e6402000102010003")
    -- 29: no declared kinds, yet arguments: unlimited `f(up)` (`args_rows`)
    ∷ row 29 1 (up ++ hex "0b016600010001")
    -- 30: argument kind: `ln(1)` (`args_rows`)
    ∷ row 30 1 (one ++ hex "0b026c6e0100000001")
    -- 31: other unary operand not scalar or vector: `-("a")` (`unary_rows`)
    ∷ row 31 2 (text ++ hex "08 07")
    -- 32: subquery operand not vector: `1[5m:]` (`subquery_rows`)
    ∷ row 32 1 (one ++ hex "04e0a71200")
    -- 33: metric name and a `__name__` matcher: `up{__name__="a"}` (`selector_rows`)
    ∷ row 33 0 (hex "020275700100085f5f6e616d655f5f0161")
    -- 34: no name, and no matcher or only ones that accept empty text: `{a=""}` (`selector_rows`)
    ∷ row 34 0 (hex "02000100016100")
    -- 41 (document 02, No. 7): the flag of a covered pattern is wrong: `up{a=~"x"}` with flag 1 (`selector_rows`)
    ∷ row 41 0 (hex "0202757001020161017801")
    ∷ []

-- a number of the table has its row; 5 needs a buffer
abbrev has_row : ℕ → Bool
has_row n = eqb n 5 || any (λ e. eqb n e.number) refusal_table

-- every row of the table is here, and each example is refused so
every_row : T (all has_row table_numbers && all (λ e. is_same (refusal e.number e.index) (check e.page)) refusal_table)
unfolding read_record read_page matches_empty_text read_choice is_single check_ast apply check_page
every_row = tt

-- document 02, No. 7: "after 4 and before 33". A wrong flag, with a byte 255 in the next matcher; after a `__name__`
-- matcher of a selector with a name; without a name, where by that flag all matchers accept empty text
flag_in_order : T (
    is_same (refusal 4 0) (check (hex "02027570020201610178010001ff00"))
    && is_same (refusal 41 0) (check (hex "020275700200085f5f6e616d655f5f0161020162017801"))
    && is_same (refusal 41 0) (check (hex "020001020161017801"))
    )
unfolding read_record read_page matches_empty_text read_choice is_single check_ast apply check_page
flag_in_order = tt
