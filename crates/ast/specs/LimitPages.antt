-- Pages with limitk and limit_ratio, computed together: what document 01's check says, and what the check that follows
-- the operators document says (document 02, No. 8); then wrong answers, none of which holds.
use Rattle.std.specs.Prelude.{ℕ, Bool, ◌&&◌, not, List, [], ◌∷◌, ◌++◌, T, replicate}
use Rattle.page.specs.Bytes.{hex, all, any}
use Rattle.records.specs.Kind.{vector}
use Rattle.records.specs.Record.{read_record, read_page}
use Rattle.records.specs.Outcome.{answer, refusal}
use Rattle.ast.specs.CheckAst.{check_ast}
use Rattle.ast.specs.CheckPage.{apply, check_page, check}
use Rattle.ast.specs.Rules.{check_page_by}
use Rattle.ast.specs.Beside.{is_same, Example, row, holds, is_added, is_other}
use Rattle.ast.specs.Limits.{check_operators, is_of_operators}

abbrev parameters : List Example
parameters =
    -- `limitk(1, up)`
    row "000001 0202757000 0a1d0002" (answer vector 0) (answer vector 0)
    -- `limitk("a", up)`
    ∷ row "010161 0202757000 0a1d0002" (answer vector 0) (refusal 42 2)
    -- `limitk(up, up)`
    ∷ row "0202757000 0202757000 0a1d0002" (answer vector 0) (refusal 42 2)
    -- `limitk(up[1ms], up)`
    ∷ row "0202757000 0301 0202757000 0a1d0002" (answer vector 0) (refusal 42 3)
    -- `limit_ratio(1, up)`, `limit_ratio("a", up)`, `limit_ratio(up, up)`, `limit_ratio(up[1ms], up)`
    ∷ row "000001 0202757000 0a1e0002" (answer vector 0) (answer vector 0)
    ∷ row "010161 0202757000 0a1e0002" (answer vector 0) (refusal 42 2)
    ∷ row "0202757000 0202757000 0a1e0002" (answer vector 0) (refusal 42 2)
    ∷ row "0202757000 0301 0202757000 0a1e0002" (answer vector 0) (refusal 42 3)
    -- `limitk((1), up)`, `limitk(("a"), up)`: brackets keep the kind
    ∷ row "000001 08 0202757000 0a1d0002" (answer vector 0) (answer vector 0)
    ∷ row "010161 08 0202757000 0a1d0002" (answer vector 0) (refusal 42 3)
    -- `limitk(1 + 2, up)`
    ∷ row "000001 000002 090100 0202757000 0a1d0002" (answer vector 0) (answer vector 0)
    -- `limitk(-1, up)`
    ∷ row "000001 07 0202757000 0a1d0002" (answer vector 0) (answer vector 0)
    -- `limit_ratio(NaN, up)`
    ∷ row "0002 0202757000 0a1e0002" (answer vector 0) (answer vector 0)
    -- `limitk(up[5m:], up)`
    ∷ row "0202757000 04e0a71200 0202757000 0a1d0002" (answer vector 0) (refusal 42 3)
    -- `limitk(scalar(up), up)`; `limitk(ln(0), up)`, by the literal exception: a call's result kind is believed
    ∷ row "0202757000 0b067363616c61720100000101 0202757000 0a1d0002" (answer vector 0) (answer vector 0)
    ∷ row "000000 0b026c6e0100000001 0202757000 0a1d0002" (answer vector 0) (refusal 42 3)
    -- `limitk("a", ln(0))`, the exception in the operand
    ∷ row "010161 000000 0b026c6e0100000001 0a1d0002" (answer vector 0) (refusal 42 3)
    -- `limitk by (x) ("a", up)`
    ∷ row "010161 0202757000 0a1d0101017802" (answer vector 0) (refusal 42 2)
    ∷ []

abbrev order : List Example
order =
    -- `limitk("a", 1)`, `limitk(1, 1)`: the operand is judged first
    row "010161 000001 0a1d0002" (refusal 25 2) (refusal 25 2)
    ∷ row "000001 000001 0a1d0002" (refusal 25 2) (refusal 25 2)
    -- `limitk(up)`, `limitk()`, `limitk("a", up, up)`: no parameter to judge
    ∷ row "0202757000 0a1d0001" (refusal 15 1) (refusal 15 1)
    ∷ row "0a1d0000" (refusal 14 0) (refusal 14 0)
    ∷ row "010161 0202757000 0202757000 0a1d0003" (refusal 15 3) (refusal 15 3)
    -- `"a"`, then limitk of two arguments: an operand is missing
    ∷ row "010161 0a1d0002" (refusal 2 1) (refusal 2 1)
    -- `topk("a", up)`, `count_values(1, up)`: document 01's own
    ∷ row "010161 0202757000 0a1c0002" (refusal 25 2) (refusal 25 2)
    ∷ row "000001 0202757000 0a140002" (refusal 25 2) (refusal 25 2)
    -- `count_values("a", up)`, `topk(1, up)`, `sum(up)`: other operators are not asked
    ∷ row "010161 0202757000 0a140002" (answer vector 0) (answer vector 0)
    ∷ row "000001 0202757000 0a1c0002" (answer vector 0) (answer vector 0)
    ∷ row "0202757000 0a1b0001" (answer vector 0) (answer vector 0)
    -- `limitk(1, limitk("a", up))`
    ∷ row "000001 010161 0202757000 0a1d0002 0a1d0002" (answer vector 0) (refusal 42 3)
    -- `limitk("a", limitk("b", up))`: the inner record is first
    ∷ row "010161 010162 0202757000 0a1d0002 0a1d0002" (answer vector 0) (refusal 42 3)
    -- `limitk("a", limitk(1, up))`
    ∷ row "010161 000001 0202757000 0a1d0002 0a1d0002" (answer vector 0) (refusal 42 4)
    -- `limitk("a", up) + "b"`
    ∷ row "010161 0202757000 0a1d0002 010162 090100" (refusal 22 4) (refusal 42 2)
    -- `"b" + 1`, then `limitk("a", up)`
    ∷ row "010162 000001 090100 010161 0202757000 0a1d0002" (refusal 22 2) (refusal 22 2)
    -- `limitk("a", up)`, then byte 99; then `up`
    ∷ row "010161 0202757000 0a1d0002 63" (refusal 1 3) (refusal 42 2)
    ∷ row "010161 0202757000 0a1d0002 0202757000" (refusal 2 4) (refusal 42 2)
    -- `limitk("a", up)` with its count cut off: fields first
    ∷ row "010161 0202757000 0a1d00" (refusal 1 2) (refusal 1 2)
    -- code 29 as a binary operator
    ∷ row "0202757000 0202757000 091d00" (refusal 16 2) (refusal 16 2)
    ∷ []

pages : T (all (holds check_operators) parameters && all (holds check_operators) order)
unfolding read_record read_page check_ast apply check_page check_page_by
pages = tt

-- `limitk("a", up)` with `up` in so many brackets: of 253 its record is the 256th, the last that is read; of 254 it is
-- the 257th, and both checks refuse it with 3
abbrev bracketed : ℕ → List ℕ
bracketed n = hex "010161 0202757000" ++ replicate n 0x08 ++ hex "0a1d0002"

last_read : T (
    is_same (answer vector 0) (check (bracketed 253))
    && is_same (refusal 42 255) (check_operators (bracketed 253))
    && is_same (refusal 3 256) (check (bracketed 254))
    && is_same (refusal 3 256) (check_operators (bracketed 254))
    )
unfolding read_record read_page check_ast apply check_page check_page_by
last_read = tt

-- a refusal's number, the record of its example, the example. Those of document 01's check have theirs in
-- `RefusalTable`; this one is refused by the check that follows the operators document alone
abbrev is_refused : ℕ → ℕ → List ℕ → Bool
is_refused = is_added check_operators

every_added : T (
    -- 42: the parameter of limitk or limit_ratio is no scalar: `limitk("a", up)` (`parameter_fault`)
    is_refused 42 2 (hex "010161 0202757000 0a1d0002")
    )
unfolding read_record read_page check_ast apply check_page check_page_by
every_added = tt

-- which numbers it can give: 1 to 4, 6 to 34, 41 and 42
numbers : T (
    all is_of_operators (
    1 ∷ 2 ∷ 3 ∷ 4 ∷ 6 ∷ 7 ∷ 8 ∷ 9 ∷ 10 ∷ 11 ∷ 12 ∷ 13 ∷ 14 ∷ 15 ∷ 16 ∷ 17 ∷ 18 ∷ 19
    ∷ 20 ∷ 21 ∷ 22 ∷ 23 ∷ 24 ∷ 25 ∷ 26 ∷ 27 ∷ 28 ∷ 29 ∷ 30 ∷ 31 ∷ 32 ∷ 33 ∷ 34 ∷ 41 ∷ 42 ∷ [])
    && not (any is_of_operators (0 ∷ 5 ∷ 35 ∷ 36 ∷ 37 ∷ 38 ∷ 39 ∷ 40 ∷ 43 ∷ []))
    )
numbers = tt

-- wrong answers
wrong : T (
    -- `limitk("a", up)`, `limit_ratio("a", up)`, `limitk(up, up)` accepted
    is_other check_operators (answer vector 0) "010161 0202757000 0a1d0002"
    && is_other check_operators (answer vector 0) "010161 0202757000 0a1e0002"
    && is_other check_operators (answer vector 0) "0202757000 0202757000 0a1d0002"
    -- `limitk(1, up)` refused
    && is_other check_operators (refusal 42 2) "000001 0202757000 0a1d0002"
    -- `limitk("a", limitk("b", up))`: the outer one
    && is_other check_operators (refusal 42 4) "010161 010162 0202757000 0a1d0002 0a1d0002"
    -- `limitk("a", 1)`: 42 before 25
    && is_other check_operators (refusal 42 2) "010161 000001 0a1d0002"
    -- `topk("a", up)`: 42 for another operator
    && is_other check_operators (refusal 42 2) "010161 0202757000 0a1c0002"
    -- `limitk("a", up) + "b"`: document 01's refusal, though a record before it is refused
    && is_other check_operators (refusal 22 4) "010161 0202757000 0a1d0002 010162 090100"
    )
unfolding read_record read_page check_ast apply check_page check_page_by
wrong = tt
