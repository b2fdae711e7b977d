-- Pages and their copies, by one computed test: what the copy changes, and what it leaves (document 01, 'Checking':
-- "Accepted set operators: absent modifier or one-to-one becomes many-to-many", "a negated number in place of number
-- and unary. All else is copied in order"; document 02, No. 14: "Write @ first wherever both are set on one expression").
-- Then copies that pages do not have.
use Rattle.std.specs.Prelude.{ℕ, Bool, not, List, [], ◌∷◌, ◌++◌, T}
use Rattle.page.specs.Bytes.{pick, hex, all, any, equal}
use Rattle.records.specs.Record.{read_record, read_page, write_record}
use Rattle.copy.specs.Copy.{copy_page}
use Rattle.copy.specs.Settled.{is_settled}

record Copied : Type 0 where
  page : List ℕ
  copy : List ℕ

abbrev copied : List ℕ → List ℕ → Copied
copied p c = record { page = p; copy = c }

abbrev unchanged : List ℕ → Copied
unchanged p = copied p p

abbrev up : List ℕ
up = hex "0202757000"

abbrev copies : List Copied
copies =
    -- `-5`: the negated number in place of number and unary
    copied (hex "000005 07") (hex "000105")
    -- `--5`: two unary records
    ∷ copied (hex "000005 07 07") (hex "000005")
    -- `-NaN`
    ∷ copied (hex "0002 07") (hex "0002")
    -- `-0.95`, and back by one more: forms 5 and 6, digits and places as they were
    ∷ copied (hex "00055f02 07") (hex "00065f02")
    ∷ copied (hex "00055f02 07 07") (hex "00055f02")
    ∷ copied (hex "00065f02 07") (hex "00055f02")
    -- `-(5)`: no unary on the number itself
    ∷ unchanged (hex "000005 08 07")
    ∷ unchanged (hex "00055f02 08 07")
    -- `-up`
    ∷ unchanged (up ++ hex "07")
    -- `up and up`: an absent modifier is written out
    ∷ copied (up ++ up ++ hex "090600") (up ++ up ++ hex "0906010000030000")
    -- `up or on (x) fill_left (5) fill_right (NaN) up`: one-to-one becomes many-to-many, the fills stay
    ∷ copied (up ++ up ++ hex "0907010001010178000100050102") (up ++ up ++ hex "0907010001010178030100050102")
    -- `up or fill_left (0.5) fill_right (-0.5) up`
    ∷ copied (up ++ up ++ hex "0907010000000105050101060501") (up ++ up ++ hex "0907010000030105050101060501")
    -- `up + up`, one-to-one: no set operator
    ∷ unchanged (up ++ up ++ hex "0901010000000000")
    ∷ []

-- ## @ first: `@ end()` is 0501, `offset 1ms` 060001, `[1ms]` 0301, `[1ms:]` 040100

abbrev times : List Copied
times =
    -- @ then offset, offset then @
    unchanged (up ++ hex "0501 060001")
    ∷ copied (up ++ hex "060001 0501") (up ++ hex "0501 060001")
    -- on a range, on a subquery, on both a selector and the subquery over it
    ∷ copied (up ++ hex "0301 060001 0501") (up ++ hex "0301 0501 060001")
    ∷ copied (up ++ hex "040100 060001 0501") (up ++ hex "040100 0501 060001")
    ∷ copied (up ++ hex "060001 0501 040100 060001 0501") (up ++ hex "0501 060001 040100 0501 060001")
    -- the offset of a selector and the @ of the subquery over it: two expressions
    ∷ unchanged (up ++ hex "060001 040100 0501")
    -- below a paren and a unary, and in both operands of `+`
    ∷ copied (up ++ hex "060001 0501 08 07") (up ++ hex "0501 060001 08 07")
    ∷ copied (up ++ hex "060001 0501" ++ up ++ hex "060001 0501 090100") (up ++ hex "0501 060001" ++ up ++ hex "0501 060001 090100")
    -- each @ and each sign of an offset: start(), end(), 1.5, -1.5; 300 ms, -300 ms
    ∷ copied (up ++ hex "0600ac02 0500") (up ++ hex "0500 0600ac02")
    ∷ copied (up ++ hex "0601ac02 0502dc0b") (up ++ hex "0502dc0b 0601ac02")
    ∷ copied (up ++ hex "060100 0503dc0b") (up ++ hex "0503dc0b 060100")
    -- one of them alone: 1ms, -0s, 0s; @ 0 and @ -0.001, which print alike
    ∷ unchanged (up ++ hex "060001")
    ∷ unchanged (up ++ hex "060100")
    ∷ unchanged (up ++ hex "060000")
    ∷ unchanged (up ++ hex "050200")
    ∷ unchanged (up ++ hex "050301")
    -- `up and up`: one-to-one written out, and many-to-many
    ∷ copied (up ++ up ++ hex "0906010000000000") (up ++ up ++ hex "0906010000030000")
    ∷ unchanged (up ++ up ++ hex "0906010000030000")
    -- `up + up`: no modifier, and `ignoring ()`
    ∷ unchanged (up ++ up ++ hex "090100")
    ∷ unchanged (up ++ up ++ hex "090101000200000000")
    -- `sum(up)`, `sum by () (up)`
    ∷ unchanged (up ++ hex "0a1b0001")
    ∷ unchanged (up ++ hex "0a1b010001")
    -- matchers in both orders; the flags of a pattern that is not covered
    ∷ unchanged (hex "020275700200016101310001620132")
    ∷ unchanged (hex "020275700200016201320001610131")
    ∷ unchanged (hex "0202757001020161035b785d00")
    ∷ unchanged (hex "0202757001020161035b785d01")
    -- `-0`
    ∷ copied (hex "000000 07") (hex "000100")
    ∷ []

-- ## What no copy is

abbrev wrong : List Copied
wrong =
    -- offset first, the order of the page; offset dropped; @ dropped
    copied (up ++ hex "060001 0501") (up ++ hex "060001 0501")
    ∷ copied (up ++ hex "060001 0501") (up ++ hex "0501")
    ∷ copied (up ++ hex "060001 0501") (up ++ hex "060001")
    -- the @ of a subquery pulled over it to the selector's offset
    ∷ copied (up ++ hex "060001 040100 0501") (up ++ hex "0501 060001 040100")
    -- `offset -0s` as `offset 0s`, `@ -0.001` as `@ 0`, `-0` as `0`
    ∷ copied (up ++ hex "060100") (up ++ hex "060000")
    ∷ copied (up ++ hex "050301") (up ++ hex "050200")
    ∷ copied (hex "000000 07") (hex "000000")
    -- an empty modifier left out, an empty grouping left out, `on ()` for `ignoring ()`
    ∷ copied (up ++ up ++ hex "0901010000000000") (up ++ up ++ hex "090100")
    ∷ copied (up ++ hex "0a1b010001") (up ++ hex "0a1b0001")
    ∷ copied (up ++ up ++ hex "090101000200000000") (up ++ up ++ hex "090101000100000000")
    -- matchers sorted, a flag cleared
    ∷ copied (hex "020275700200016201320001610131") (hex "020275700200016101310001620132")
    ∷ copied (hex "0202757001020161035b785d01") (hex "0202757001020161035b785d00")
    ∷ []

abbrev is_copy : Copied → Bool
is_copy c = equal (copy_page c.page) c.copy

copies_are_so : T (all is_copy (copies ++ times))
unfolding read_record read_page write_record copy_page
copies_are_so = tt

-- the pages that are settled are those which are their own copies
abbrev is_settled_right : Copied → Bool
is_settled_right c = pick (is_settled (read_page c.page).records) (equal c.page c.copy) (not (equal c.page c.copy))

settled_are_their_own : T (all is_settled_right (copies ++ times))
unfolding read_record read_page
settled_are_their_own = tt

none_is_so : T (not (any is_copy wrong))
unfolding read_record read_page write_record copy_page
none_is_so = tt
