-- Pages with texts beyond ASCII (document 02, No. 10), computed together: what the calls answer and print. Texts that
-- print characters of more than one byte are given in hexadecimal.
use Rattle.std.specs.Prelude.{ℕ, Bool, ◌&&◌, replicate, T, eqb}
use Prim.Native.String.{String}
use mathlib.Core.List.{List, [], ◌∷◌, ◌++◌, flatten}
use Rattle.page.specs.Bytes.{bytes, hex, all}
use Rattle.patterns.specs.Pattern.{is_single}
use Rattle.patterns.specs.Search.{read_choice, matches_empty_text}
use Rattle.records.specs.Kind.{Kind, vector, string}
use Rattle.records.specs.Record.{read_record, read_page}
use Rattle.leaves.specs.Escape.{escape_byte, escape, quote}
use Rattle.label.specs.Label.{display_label, display_labels, display_matcher, at_most, insert, sort, joined_by_commas}
use Rattle.label.specs.Label.{display_matchers}
use Rattle.ast.specs.CheckAst.{check_ast}
use Rattle.ast.specs.CheckPage.{apply, check_page, check}
use Rattle.ast.specs.Part.{Part, label_part}
use Rattle.text.specs.Display.{display}
use Rattle.text.specs.Pretty.{pretty}
use Rattle.outcomes.specs.Calls.{canonical_text, split_text}
use Rattle.outcomes.specs.Computed.{lent, writes, is_refusal}

data Expected : Type 0 where
  prints : Kind → List ℕ → Expected
  refuses : ℕ → ℕ → Expected

record Example : Type 0 where
  page : List ℕ
  expected : Expected

abbrev example : List ℕ → Expected → Example
example page e = record { page = page; expected = e }

abbrev other : String → Expected → Example
other page e = example (hex page) e

-- a page of one string, its length and bytes as given, that prints its bytes in quotes
abbrev whole : String → String → Example
whole size text = example (hex "01" ++ hex size ++ hex text) (prints string (hex "22" ++ hex text ++ hex "22"))

-- one that is refused with 4
abbrev ill : String → String → Example
ill size text = example (hex "01" ++ hex size ++ hex text) (refuses 4 0)

abbrev times : ℕ → String → List ℕ
times n s = flatten (replicate n (hex s))

-- ## String literals

abbrev strings : List Example
strings =
    -- é, U+0080, U+0800, U+D7FF, U+E000, U+FFFF, U+10000, U+10FFFF, the byte order mark
    whole "02" "c3a9" ∷ whole "02" "c280" ∷ whole "03" "e0a080" ∷ whole "03" "ed9fbf" ∷ whole "03" "ee8080"
    ∷ whole "03" "efbfbf" ∷ whole "04" "f0908080" ∷ whole "04" "f48fbfbf" ∷ whole "03" "efbbbf"
    -- a lone tail; overlong; a surrogate; overlong; above U+10FFFF; bad tail; a tail too many
    ∷ ill "01" "80" ∷ ill "02" "c1bf" ∷ ill "02" "c080" ∷ ill "03" "e09fbf" ∷ ill "03" "eda080" ∷ ill "04" "f08fbfbf"
    ∷ ill "04" "f4908080" ∷ ill "04" "f5808080" ∷ ill "02" "c328" ∷ ill "03" "c3a9a9"
    -- cut by the text's length, with nothing after it, and with the byte that would complete it
    ∷ ill "01" "c3" ∷ ill "01" "c3a9"
    -- escapes stand between characters: é, line feed, quote, backslash, é, U+2028
    ∷ other "010a c3a90a225cc3a9e280a8" (prints string (hex "22 c3a9 5c6e 5c22 5c5c c3a9 e280a8 22"))
    -- 255 bytes in 128 characters; 256 bytes in 128 characters
    ∷ example (hex "01ff01" ++ times 127 "c3a9" ++ hex "78")
    (prints string (hex "22" ++ times 127 "c3a9" ++ hex "7822"))
    ∷ example (hex "018002" ++ times 128 "c3a9") (refuses 3 0)
    ∷ []

-- ## Labels, matchers and names

abbrev others : List Example
others =
    -- a metric name é, a function name é: no name
    other "0202c3a900" (refuses 4 0)
    ∷ other "0b02c3a900000000" (refuses 4 0)
    -- `sum by (a, "é", b) (up)`
    ∷ other "0202757000 0a1b0103016102c3a9016201"
    (prints vector (bytes "sum by (a, \"" ++ hex "c3a9" ++ bytes "\", b) (up)"))
    -- `up{"é"!="x",ville="Zürich",z="y"}`
    ∷ other "0202757003000576696c6c65075ac3bc726963680102c3a9017800017a0179"
    (prints vector (bytes "up{\"" ++ hex "c3a9" ++ bytes "\"!=\"x\",ville=\"Z" ++ hex "c3bc" ++ bytes "rich\",z=\"y\"}"))
    -- `up{""="x","a b"="x","é"="x",zz="x"}`
    ∷ other "02027570040002c3a9017800027a7a01780003612062017800000178"
    (prints vector (bytes "up{\"\"=\"x\",\"a b\"=\"x\",\"" ++ hex "c3a9" ++ bytes "\"=\"x\",zz=\"x\"}"))
    -- patterns é and é* with flag 0
    ∷ other "02000102016102c3a900" (prints vector (bytes "{a=~\"" ++ hex "c3a9" ++ bytes "\"}"))
    ∷ other "02000102016103c3a92a00" (prints vector (bytes "{a=~\"" ++ hex "c3a9" ++ bytes "*\"}"))
    -- an ill-formed label and an empty stack: 4, not 2
    ∷ other "0a1b010101ff01" (refuses 4 0)
    ∷ []

-- bytes that are lent, enough for each example
abbrev room : ℕ
room = 260

abbrev holds : Example → Bool
holds e = by e.expected
  where
    by : Expected → Bool
    by (prints k t) = writes room k t (canonical_text e.page (lent room))
    by (refuses n i) = is_refusal n i (check e.page)

every_string : T (all holds strings)
unfolding flatten read_record read_page check_ast apply check_page escape_byte escape quote display
every_string = tt

every_other : T (all holds others)
unfolding read_record read_page matches_empty_text read_choice is_single check_ast apply check_page escape_byte escape quote
    display_label display_labels display_matcher at_most insert sort joined_by_commas display_matchers display
every_other = tt

-- ## The label of 19

-- `up + on ("é") group_left ("é") up`: the label of the group list stands at 22
abbrev joint_page : List ℕ
joint_page = hex "0202757000 0202757000 09010100010102c3a9010102c3a90000"

abbrev is_part : ℕ → ℕ → Part → Bool
is_part start size p = eqb start p.start && eqb size p.size

joint_label : T (is_refusal 19 2 (check joint_page) && is_part 22 2 (label_part joint_page (check joint_page)))
unfolding read_record read_page check_ast apply check_page label_part
joint_label = tt

-- ## The 100-byte limit counts bytes

-- `sum by ("é" 20 times) (m n times)`: n + 54 bytes in n + 34 characters
abbrev long_page : ℕ → List ℕ
long_page n = (hex "02" ++ (n ∷ []) ++ replicate n 0x6d) ++ hex "00 0a1b010128" ++ times 20 "c3a9" ++ hex "01"

abbrev head : List ℕ
head = bytes "sum by (\"" ++ times 20 "c3a9" ++ bytes "\") ("

-- 100 bytes in 80 characters
one_line : T (writes room vector (head ++ replicate 46 0x6d ++ bytes ")") (split_text (long_page 46) (lent room)))
unfolding flatten read_record read_page check_ast apply check_page escape_byte escape quote display_label display_labels display
    pretty
one_line = tt

-- 101 bytes in 81 characters
three_lines : T (writes room vector (head ++ bytes "\n  " ++ replicate 47 0x6d ++ bytes "\n)") (split_text (long_page 47) (lent room)))
unfolding flatten read_record read_page check_ast apply check_page escape_byte escape quote display_label display_labels display
    pretty
three_lines = tt
