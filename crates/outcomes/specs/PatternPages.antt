-- Pages with patterns (document 02, No. 7), computed together: what check and canonical text give; then wrong answers,
-- none of which holds.
use Rattle.std.specs.Prelude.{ℕ, Bool, not, List, [], ◌∷◌, T}
use Prim.Native.String.{String}
use Rattle.page.specs.Bytes.{bytes, hex, all}
use Rattle.patterns.specs.Pattern.{is_single}
use Rattle.patterns.specs.Search.{read_choice, matches_empty_text}
use Rattle.records.specs.Kind.{vector}
use Rattle.records.specs.Record.{read_record, read_page}
use Rattle.leaves.specs.Escape.{escape_byte, escape, quote}
use Rattle.label.specs.Label.{display_label, display_matcher, at_most, insert, sort, joined_by_commas, display_matchers}
use Rattle.ast.specs.CheckAst.{check_ast}
use Rattle.ast.specs.CheckPage.{apply, check_page, check}
use Rattle.text.specs.Display.{display}
use Rattle.outcomes.specs.Calls.{canonical_text}
use Rattle.outcomes.specs.Computed.{lent, writes, is_refusal}

-- a vector with this canonical text, or a refusal's number and record
data Expected : Type 0 where
  prints : String → Expected
  refuses : ℕ → ℕ → Expected

record Example : Type 0 where
  page : List ℕ
  expected : Expected

abbrev example : String → Expected → Example
example p e = record { page = hex p; expected = e }

-- refused with 41 at the first record
abbrev wrong_flag : String → Example
wrong_flag p = example p (refuses 41 0)

-- ## The pages of the request

abbrev pages : List Example
pages =
    -- `x`, flag 0 and 1; `x*`, flag 0
    example "0202757001020161017800" (prints "up{a=~\"x\"}")
    ∷ wrong_flag "0202757001020161017801"
    ∷ wrong_flag "020275700102016102782a00"
    -- the flag is the pattern's also for `!~`: `x*`, flag 1 and 0; `x`, flag 1
    ∷ example "020275700103016102782a01" (prints "up{a!~\"x*\"}")
    ∷ wrong_flag "020275700103016102782a00"
    ∷ wrong_flag "0202757001030161017801"
    -- the empty pattern, flag 0 and 1; without a name, flag 1 and 0
    ∷ wrong_flag "02027570010201610000"
    ∷ example "02027570010201610001" (prints "up{a=~\"\"}")
    ∷ example "0200010201610001" (refuses 34 0)
    ∷ wrong_flag "0200010201610000"
    -- before 34; before 33, also where the flag comes after the name, and beside `__name__` itself
    ∷ wrong_flag "020001020161017801"
    ∷ wrong_flag "020275700200085f5f6e616d655f5f0161020162017801"
    ∷ wrong_flag "020275700102085f5f6e616d655f5f017801"
    -- after the fields: byte 255 in the next matcher, the page's end, flag 2
    ∷ example "02027570020201610178010001ff00" (refuses 4 0)
    ∷ example "020275700202016101780100016105" (refuses 1 0)
    ∷ example "0202757001020161017802" (refuses 1 0)
    -- the second of two flags
    ∷ wrong_flag "02027570020201610178000301620628797c7a293f00"
    -- not covered: `[x]` with both flags, `a**`, `(a`, `a)|(b`, `[x]` without a name
    ∷ example "0202757001020161035b785d01" (prints "up{a=~\"[x]\"}")
    ∷ example "0202757001020161035b785d00" (prints "up{a=~\"[x]\"}")
    ∷ example "020275700102016103612a2a00" (prints "up{a=~\"a**\"}")
    ∷ example "020275700102016102286101" (prints "up{a=~\"(a\"}")
    ∷ example "02027570010201610561297c286201" (prints "up{a=~\"a)|(b\"}")
    ∷ example "020001020161035b785d01" (refuses 34 0)
    -- a later record, an earlier one; a selector in the middle; no flag beside `=`
    ∷ example "020275700102016101780163" (refuses 41 0)
    ∷ example "0200000202757001020161017801" (refuses 34 0)
    ∷ example "0202757000 0202757001020161017801 090100" (refuses 41 1)
    ∷ example "020275700100016102782a" (prints "up{a=\"x*\"}")
    ∷ []

-- bytes that are lent, enough for each example
abbrev room : ℕ
room = 24

abbrev holds : Example → Bool
holds e = by e.expected
  where
    by : Expected → Bool
    by (prints t) = writes room vector (bytes t) (canonical_text e.page (lent room))
    by (refuses n i) = is_refusal n i (check e.page)

every_page : T (all holds pages)
unfolding read_record read_page matches_empty_text read_choice is_single check_ast apply check_page escape_byte escape quote display_label
    display_matcher at_most insert sort joined_by_commas display_matchers display
every_page = tt

-- ## Wrong answers

abbrev wrong : List Example
wrong =
    -- never 41; the flag of `!~` inverted
    example "0202757001020161017801" (prints "up{a=~\"x\"}")
    ∷ wrong_flag "020275700103016102782a01"
    -- behind 33, behind 34; before 4
    ∷ example "020275700200085f5f6e616d655f5f0161020162017801" (refuses 33 0)
    ∷ example "020001020161017801" (refuses 34 0)
    ∷ wrong_flag "02027570020201610178010001ff00"
    -- patterns that are not covered tested too: `a**` as `a*`, `(a` as `a`, `a)|(b` as `a|b`
    ∷ wrong_flag "020275700102016103612a2a00"
    ∷ wrong_flag "020275700102016102286101"
    ∷ wrong_flag "02027570010201610561297c286201"
    -- the first matcher alone; `+` taken for `*`; a choice that its first sequence decides: `x|`, flag 0
    ∷ example "02027570020201610178000301620628797c7a293f00" (prints "up{a=~\"x\",b!~\"(y|z)?\"}")
    ∷ wrong_flag "020275700102016102782b00"
    ∷ example "020275700102016102787c00" (prints "up{a=~\"x|\"}")
    -- at the matcher's number
    ∷ example "02027570020201610178000301620628797c7a293f00" (refuses 41 1)
    ∷ []

none_holds : T (all (λ e. not (holds e)) wrong)
unfolding read_record read_page matches_empty_text read_choice is_single check_ast apply check_page escape_byte escape quote display_label
    display_matcher at_most insert sort joined_by_commas display_matchers display
none_holds = tt
