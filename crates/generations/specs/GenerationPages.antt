-- Pages with the outcomes of the checks with both tables and the answer, computed together: those of document 02, No.
-- 13, as they were worked out for it, and more; then wrong answers, none of which holds.
use Rattle.std.specs.Prelude.{ℕ, Bool, ◌&&◌, not, List, [], ◌∷◌, ◌++◌, T, eqb, replicate}
use Prim.Native.String.{String}
use Rattle.page.specs.Bytes.{hex, all}
use Rattle.records.specs.Kind.{vector, scalar, matrix, string}
use Rattle.records.specs.Record.{read_record, read_page}
use Rattle.records.specs.Outcome.{Outcome, answer, refusal}
use Rattle.ast.specs.CheckAst.{check_ast}
use Rattle.ast.specs.CheckPage.{apply}
use Rattle.ast.specs.Rules.{check_page_by}
use Rattle.ast.specs.Beside.{is_same}
use Rattle.functions.specs.Lookup.{lookup, check_table_of}
use Rattle.generations.specs.Older.{older_functions}
use Rattle.generations.specs.Newer.{newer_functions}
use Rattle.generations.specs.Generations.{generations, generations_number}
use Rattle.generations.specs.declared.Generations.{Generations}
use Rattle.generations.specs.declared.Generations.TheVariants.{Neither, Older, Newer, Both}

record Example : Type 0 where
  page : List ℕ
  older : Outcome
  newer : Outcome
  accepting : Generations

-- a page, what the check with the older table says, and with the newer one, and who accepts it
abbrev row : String → Outcome → Outcome → Generations → Example
row p older newer accepting = record { page = hex p; older = older; newer = newer; accepting = accepting }

abbrev is_answer : Generations → List ℕ → Bool
is_answer g page = eqb (generations_number g) (generations_number (generations page))

abbrev holds : Example → Bool
holds e =
    is_same e.older (check_table_of older_functions e.page) && is_same e.newer (check_table_of newer_functions e.page)
    && is_answer e.accepting e.page

abbrev examples : List Example
examples =
    -- `up`, no call
    row "0202757000" (answer vector 0) (answer vector 0) Both
    -- `rate(up[1ms])`, a name of all three tables
    ∷ row "020275700003010b04726174650102000001" (answer vector 0) (answer vector 0) Both
    -- `holt_winters(up[1ms], 5, 5)`
    ∷ row "020275700003010000050000050b0c686f6c745f77696e7465727303020101000003" (answer vector 0) (refusal 37 4) Older
    -- `double_exponential_smoothing(up[1ms], 5, 5)`
    ∷ row "020275700003010000050000050b1c646f75626c655f6578706f6e656e7469616c5f736d6f6f7468696e6703020101000003" (refusal 37 4) (answer vector 0) Newer
    -- the two added: each is refused for its own record
    ∷ row "020275700003010000050000050b0c686f6c745f77696e7465727303020101000003020275700003010000050000050b1c646f75626c655f6578706f6e656e7469616c5f736d6f6f7468696e6703020101000003090100" (refusal 37 9) (refusal 37 4) Neither
    -- the other way round
    ∷ row "020275700003010000050000050b1c646f75626c655f6578706f6e656e7469616c5f736d6f6f7468696e6703020101000003020275700003010000050000050b0c686f6c745f77696e7465727303020101000003090100" (refusal 37 4) (refusal 37 9) Neither
    -- one in the other
    ∷ row "020275700003010000050000050b0c686f6c745f77696e74657273030201010000030401000000050000050b1c646f75626c655f6578706f6e656e7469616c5f736d6f6f7468696e6703020101000003" (refusal 37 8) (refusal 37 4) Neither
    -- holt_winters with an upper extra of 1; unlimited; with a scalar result; with two kinds
    ∷ row "020275700003010000050000050b0c686f6c745f77696e746572730302010102010003" (refusal 38 4) (refusal 37 4) Neither
    ∷ row "020275700003010000050000050b0c686f6c745f77696e7465727303020101010003" (refusal 38 4) (refusal 37 4) Neither
    ∷ row "020275700003010000050000050b0c686f6c745f77696e7465727303020101000103" (refusal 38 4) (refusal 37 4) Neither
    ∷ row "020275700003010000050b0c686f6c745f77696e74657273020201000002" (refusal 38 3) (refusal 37 3) Neither
    -- double_exponential_smoothing with a vector in the place of the matrix
    ∷ row "02027570000000050000050b1c646f75626c655f6578706f6e656e7469616c5f736d6f6f7468696e6703000101000003" (refusal 37 3) (refusal 38 3) Neither
    -- holt_winters of two arguments, and of a vector: the documented kinds are asked
    ∷ row "020275700003010000050b0c686f6c745f77696e7465727303020101000002" (refusal 26 3) (refusal 37 3) Neither
    ∷ row "02027570000000050000050b0c686f6c745f77696e7465727303020101000003" (refusal 30 3) (refusal 37 3) Neither
    -- double_exponential_smoothing of four arguments
    ∷ row "020275700003010000050000050000050b1c646f75626c655f6578706f6e656e7469616c5f736d6f6f7468696e6703020101000004" (refusal 37 5) (refusal 26 5) Neither
    -- holt_winters on no operands: 2 where the name is known, 37 before 2 where it is not
    ∷ row "0b0c686f6c745f77696e7465727303020101000003" (refusal 2 0) (refusal 37 0) Neither
    -- names are compared exactly: `holt_winter`, `Holt_winters`, `holt_winters_`
    ∷ row "020275700003010000050000050b0b686f6c745f77696e74657203020101000003" (refusal 37 4) (refusal 37 4) Neither
    ∷ row "020275700003010000050000050b0c486f6c745f77696e7465727303020101000003" (refusal 37 4) (refusal 37 4) Neither
    ∷ row "020275700003010000050000050b0d686f6c745f77696e746572735f03020101000003" (refusal 37 4) (refusal 37 4) Neither
    -- `info(up, up)`, `info(up)`
    ∷ row "020275700002027570000b04696e666f02000002010002" (answer vector 0) (answer vector 0) Both
    ∷ row "02027570000b04696e666f02000002010001" (answer vector 0) (answer vector 0) Both
    -- `first_over_time(up[1ms])`, `ts_of_max_over_time(up[1ms])`, `max_of(5, 5)`, `end()`: of the repository alone
    ∷ row "020275700003010b0f66697273745f6f7665725f74696d650102000001" (refusal 37 2) (refusal 37 2) Neither
    ∷ row "020275700003010b1374735f6f665f6d61785f6f7665725f74696d650102000001" (refusal 37 2) (refusal 37 2) Neither
    ∷ row "0000050000050b066d61785f6f66020101000102" (refusal 37 2) (refusal 37 2) Neither
    ∷ row "0b03656e6400000100" (refusal 37 0) (refusal 37 0) Neither
    -- `mad_over_time(up[1ms])`, `sort_by_label(up, "a")`: experimental, and documented
    ∷ row "020275700003010b0d6d61645f6f7665725f74696d650102000001" (answer vector 0) (answer vector 0) Both
    ∷ row "02027570000101610b0d736f72745f62795f6c6162656c020003010002" (answer vector 0) (answer vector 0) Both
    -- `sort_desc(up)`, without a signature of its own in the documents
    ∷ row "02027570000b09736f72745f646573630100000001" (answer vector 0) (answer vector 0) Both
    -- `pi()`, `time()`, `scalar(up)`: results are the repository's
    ∷ row "0b02706900000100" (answer scalar 0) (answer scalar 0) Both
    ∷ row "0b0474696d6500000100" (answer scalar 0) (answer scalar 0) Both
    ∷ row "02027570000b067363616c61720100000101" (answer scalar 0) (answer scalar 0) Both
    -- `label_join` of five arguments, with four kinds, and with the five that the documents show
    ∷ row "02027570000101610101610101610101610b0a6c6162656c5f6a6f696e0400030303010005" (answer vector 0) (answer vector 0) Both
    ∷ row "02027570000101610101610101610101610b0a6c6162656c5f6a6f696e050003030303010005" (refusal 38 5) (refusal 38 5) Neither
    -- `round(up)`: the count of arguments is no part of a signature
    ∷ row "02027570000b05726f756e6402000102010001" (answer vector 0) (answer vector 0) Both
    -- `limitk("a", up)`: No. 8's check is not meant
    ∷ row "01016102027570000a1d0002" (answer vector 0) (answer vector 0) Both
    -- `ln(0)`, by the literal exception
    ∷ row "0000000b026c6e0100000001" (answer vector 0) (answer vector 0) Both
    -- `up[1ms]`, `"a"`: whatever the kind
    ∷ row "02027570000301" (answer matrix 0) (answer matrix 0) Both
    ∷ row "010161" (answer string 0) (answer string 0) Both
    -- `sum(1)`; byte 99 alone; the empty page
    ∷ row "0000010a1b0001" (refusal 25 1) (refusal 25 1) Neither
    ∷ row "63" (refusal 1 0) (refusal 1 0) Neither
    ∷ row "" (refusal 2 0) (refusal 2 0) Neither
    -- `{}`, then holt_winters: the first refused record decides
    ∷ row "020000020275700003010000050000050b0c686f6c745f77696e7465727303020101000003" (refusal 34 0) (refusal 34 0) Neither
    -- holt_winters, then byte 99: 37 before a later record
    ∷ row "020275700003010000050000050b0c686f6c745f77696e746572730302010100000363" (refusal 1 5) (refusal 37 4) Neither
    ∷ []

pages : T (all holds examples)
unfolding read_record read_page check_ast apply check_page_by lookup older_functions newer_functions
pages = tt

-- `up` in 255 brackets, then a call that the older alone knows: the 257th record is not read
unread : T (is_answer Neither (hex "0202757000" ++ replicate 255 0x08 ++ hex "0b0c686f6c745f77696e7465727303020101000003"))
unfolding read_record read_page check_ast apply check_page_by lookup older_functions newer_functions
unread = tt

-- the numbers for C: of `up`, of a call of holt_winters and of double_exponential_smoothing, of the empty page
abbrev is_number : ℕ → String → Bool
is_number n p = eqb n (generations_number (generations (hex p)))

numbers : T (
    is_number 3 "0202757000"
    && is_number 1 "020275700003010000050000050b0c686f6c745f77696e7465727303020101000003"
    && is_number 2 "020275700003010000050000050b1c646f75626c655f6578706f6e656e7469616c5f736d6f6f7468696e6703020101000003"
    && is_number 0 ""
    )
unfolding read_record read_page check_ast apply check_page_by lookup older_functions newer_functions
numbers = tt

abbrev is_other : Generations → String → Bool
is_other g p = not (is_answer g (hex p))

-- wrong answers: always neither; always both; the two swapped; both tables have both names; the first table that
-- refuses ends it, or the first that accepts; only the records before the refused one are looked at; a call is known
-- by its name alone; the repository's table is asked; `info` is the newer's alone, `ts_of_max_over_time` is one of
-- the newer; `label_join` has the five kinds that are shown; experimental names are left out; No. 8's check is meant
wrong : T (
    is_other Neither "0202757000"
    && is_other Both ""
    && is_other Newer "020275700003010000050000050b0c686f6c745f77696e7465727303020101000003"
    && is_other Older "020275700003010000050000050b1c646f75626c655f6578706f6e656e7469616c5f736d6f6f7468696e6703020101000003"
    && is_other Both "020275700003010000050000050b0c686f6c745f77696e7465727303020101000003"
    && is_other Both "020275700003010000050000050b1c646f75626c655f6578706f6e656e7469616c5f736d6f6f7468696e6703020101000003"
    && is_other Neither "020275700003010000050000050b1c646f75626c655f6578706f6e656e7469616c5f736d6f6f7468696e6703020101000003"
    && is_other Older "0202757000"
    && is_other Older "020275700003010000050000050b0c686f6c745f77696e746572730302010100000363"
    && is_other Older "02027570000000050000050b0c686f6c745f77696e7465727303020101000003"
    && is_other Both "0000050000050b066d61785f6f66020101000102"
    && is_other Newer "020275700002027570000b04696e666f02000002010002"
    && is_other Newer "020275700003010b1374735f6f665f6d61785f6f7665725f74696d650102000001"
    && is_other Both "02027570000101610101610101610101610b0a6c6162656c5f6a6f696e050003030303010005"
    && is_other Neither "020275700003010b0d6d61645f6f7665725f74696d650102000001"
    && is_other Neither "01016102027570000a1d0002"
    )
unfolding read_record read_page check_ast apply check_page_by lookup older_functions newer_functions
wrong = tt
