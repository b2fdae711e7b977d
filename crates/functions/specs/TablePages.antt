-- Pages with calls, computed together: what document 01's check says, and what the check with the function table says
-- (document 02, No. 2); then wrong answers, none of which holds.
use Rattle.std.specs.Prelude.{ℕ, Bool, ◌&&◌, List, [], ◌∷◌, ◌++◌, T, replicate}
use Rattle.page.specs.Bytes.{hex, all}
use Rattle.records.specs.Kind.{vector, scalar}
use Rattle.records.specs.Record.{read_record, read_page}
use Rattle.records.specs.Outcome.{answer, refusal}
use Rattle.ast.specs.CheckAst.{check_ast}
use Rattle.ast.specs.CheckPage.{apply, check_page}
use Rattle.ast.specs.Rules.{check_page_by}
use Rattle.ast.specs.Beside.{is_same, Example, row, holds, is_added, is_other}
use Rattle.functions.specs.Functions.{functions}
use Rattle.functions.specs.Lookup.{lookup, check_table}

abbrev examples : List Example
examples =
    -- `abs(up)`, the first name
    row "02027570000b036162730100000001" (answer vector 0) (answer vector 0)
    -- `year()`, the last name
    ∷ row "0b0479656172010002010000" (answer vector 0) (answer vector 0)
    -- `time()`
    ∷ row "0b0474696d6500000100" (answer scalar 0) (answer scalar 0)
    -- `double_exponential_smoothing(up[1ms], 5, 5)`
    ∷ row "020275700003010000050000050b1c646f75626c655f6578706f6e656e7469616c5f736d6f6f7468696e6703020101000003" (answer vector 0) (answer vector 0)
    -- `holt_winters(..)`, with the same signature: another server's
    ∷ row "020275700003010000050000050b0c686f6c745f77696e7465727303020101000003" (answer vector 0) (refusal 37 4)
    -- `Abs(up)`, `ab(up)`, `sum(up)` as a call: names are compared exactly
    ∷ row "02027570000b034162730100000001" (answer vector 0) (refusal 37 1)
    ∷ row "02027570000b0261620100000001" (answer vector 0) (refusal 37 1)
    ∷ row "02027570000b0373756d0100000001" (answer vector 0) (refusal 37 1)
    -- `_()`, before the first
    ∷ row "0b015f00000100" (answer scalar 0) (refusal 37 0)
    -- unknown, unlike and like, each without its operand: 37 and 38 before 2
    ∷ row "0b0361627a0100000001" (refusal 2 0) (refusal 37 0)
    ∷ row "0b036162730100000101" (refusal 2 0) (refusal 38 0)
    ∷ row "0b036162730100000001" (refusal 2 0) (refusal 2 0)
    -- another result, and two arguments: 38 before 26
    ∷ row "020275700002027570000b036162730100000102" (refusal 26 2) (refusal 38 2)
    -- `abs` unlimited, with an upper extra of 1, with two kinds, with none
    ∷ row "02027570000b036162730100010001" (answer vector 0) (refusal 38 1)
    ∷ row "02027570000b03616273010002010001" (answer vector 0) (refusal 38 1)
    ∷ row "020275700002027570000b03616273020000000002" (answer vector 0) (refusal 38 2)
    ∷ row "0b0361627300000000" (answer vector 0) (refusal 38 0)
    -- `round(up)`, `round()`, `round(up, 1, 1)`: the count of arguments is no part of a signature
    ∷ row "02027570000b05726f756e6402000102010001" (answer vector 0) (answer vector 0)
    ∷ row "0b05726f756e6402000102010000" (refusal 27 0) (refusal 27 0)
    ∷ row "02027570000000010000010b05726f756e6402000102010003" (refusal 28 3) (refusal 28 3)
    -- `round(up, 1)` with an upper extra of 2
    ∷ row "02027570000000010b05726f756e6402000102020002" (answer vector 0) (refusal 38 2)
    -- `label_join` of five arguments, with four kinds, and with five, which would act alike
    ∷ row "02027570000101610101610101610101610b0a6c6162656c5f6a6f696e0400030303010005" (answer vector 0) (answer vector 0)
    ∷ row "02027570000101610101610101610101610b0a6c6162656c5f6a6f696e050003030303010005" (answer vector 0) (refusal 38 5)
    -- `abs(1)`
    ∷ row "0000010b036162730100000001" (refusal 30 1) (refusal 30 1)
    -- `ln(0)`, by the literal exception; with another signature
    ∷ row "0000000b026c6e0100000001" (answer vector 0) (answer vector 0)
    ∷ row "0000000b026c6e00010001" (answer vector 0) (refusal 38 1)
    -- `f(up)`, unlimited and without kinds: 29 there, 37 here
    ∷ row "02027570000b016600010001" (refusal 29 1) (refusal 37 1)
    -- `pi(up)`
    ∷ row "02027570000b02706900000101" (refusal 26 1) (refusal 26 1)
    -- an unknown call whose count is cut off; with 17 arguments; named `9a`: fields first
    ∷ row "0b0361627a01000000" (refusal 1 0) (refusal 1 0)
    ∷ row "0b0361627a0100000011" (refusal 3 0) (refusal 3 0)
    ∷ row "0b0239610100000001" (refusal 4 0) (refusal 4 0)
    -- `{}`, then an unknown call: the first refused record decides
    ∷ row "0200000b0361627a0100000001" (refusal 34 0) (refusal 34 0)
    -- an unknown call, then a byte that is no record
    ∷ row "02027570000b0361627a010000000163" (refusal 1 2) (refusal 37 1)
    -- `sum(abz(up)) + "a"`
    ∷ row "02027570000b0361627a01000000010a1b0001010161090100" (refusal 22 4) (refusal 37 1)
    ∷ []

pages : T (all (holds check_table) examples)
unfolding read_record read_page check_ast apply check_page check_page_by functions lookup
pages = tt

-- `up` in 255 brackets, then an unknown call: the 257th record is not read, and refused with 3
unread : T (is_same (refusal 3 256) (check_table (hex "0202757000" ++ replicate 255 0x08 ++ hex "0b0361627a0100000001")))
unfolding read_record read_page check_ast apply check_page_by functions lookup
unread = tt

-- a refusal's number, the record of its example, the example. Those of document 01's check have theirs in
-- ast/specs/RefusalTable; these two are refused by the check with the table alone
abbrev is_refused : ℕ → ℕ → List ℕ → Bool
is_refused = is_added check_table

every_added : T (
    -- 37: a name that the table does not have: `Abs(up)` (`unlike`)
    is_refused 37 1 (hex "02027570000b034162730100000001")
    -- 38: a signature unlike the table's: `abs(up)`, unlimited (`unlike`)
    && is_refused 38 1 (hex "02027570000b036162730100010001")
    )
unfolding read_record read_page check_ast apply check_page check_page_by functions lookup
every_added = tt

-- wrong answers: 2 before 37; the record of the operand; 38 for an unknown name; 37 for a name with another signature;
-- the table asked of the last call alone; 29 for an unlimited call without kinds; a call accepted by a beginning of its
-- name
wrong : T (
    is_other check_table (refusal 2 0) "0b0361627a0100000001"
    && is_other check_table (refusal 37 0) "02027570000b034162730100000001"
    && is_other check_table (refusal 38 1) "02027570000b034162730100000001"
    && is_other check_table (refusal 37 1) "02027570000b036162730100010001"
    && is_other check_table (answer vector 0) "02027570000b034162730100000001 0b036162730100000001"
    && is_other check_table (refusal 29 1) "02027570000b016600010001"
    && is_other check_table (answer vector 0) "02027570000b056162736573010000 0001"
    )
unfolding read_record read_page check_ast apply check_page check_page_by functions lookup
wrong = tt
