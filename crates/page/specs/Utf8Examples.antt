-- Well-formed and ill-formed texts (document 02, No. 10), computed: the first and last characters of every row of the
-- grammar, and the texts that stand one step outside of it. Other grammars are told apart by them. The encodings of
-- section 3 are computed on RFC 3629's own examples.
use Rattle.std.specs.Prelude.{ℕ, suc, Bool, true, false, not, ◌&&◌, length, take, drop, replicate, T, eqb}
use Prim.Native.String.{String}
use mathlib.Core.List.{List, [], ◌∷◌, ◌++◌, map, flatten}
use Rattle.page.specs.Bytes.{all, equal, hex}
use Rattle.page.specs.Encoding.{is_scalar, encode, characters}
use Rattle.page.specs.Text.{Text, is_ascii, is_text}
use Rattle.page.specs.Utf8.{Row, row, rows, from, tail, is_made_of}

record Example : Type 0 where
  text : Text
  passes : Bool

abbrev good : String → Example
good s = record { text = hex s; passes = true }

abbrev bad : String → Example
bad s = record { text = hex s; passes = false }

abbrev examples : List Example
examples =
    -- one byte: nothing, U+0000, U+007F; a lone tail, and bytes that begin no character
    good "" ∷ good "00" ∷ good "7f" ∷ bad "80" ∷ bad "bf" ∷ bad "c0" ∷ bad "c1" ∷ bad "f5" ∷ bad "fe" ∷ bad "ff"
    -- two: U+0080, é, U+07FF; overlong; cut; a bad tail, a tail too many
    ∷ good "c280" ∷ good "c3a9" ∷ good "dfbf" ∷ bad "c080" ∷ bad "c1bf" ∷ bad "c3" ∷ bad "c328" ∷ bad "c37f"
    ∷ bad "c3c0" ∷ bad "c3a9a9" ∷ bad "a9c3"
    -- three: U+0800, U+0FFF, U+1000, U+CFFF, U+D000, U+D7FF, U+E000, the byte order mark, U+FFFF
    ∷ good "e0a080" ∷ good "e0bfbf" ∷ good "e18080" ∷ good "ecbfbf" ∷ good "ed8080" ∷ good "ed9fbf" ∷ good "ee8080"
    ∷ good "efbbbf" ∷ good "efbfbf"
    -- overlong, surrogates, cut, bad tails
    ∷ bad "e08080" ∷ bad "e09fbf" ∷ bad "eda080" ∷ bad "edbfbf" ∷ bad "eda080edb080" ∷ bad "e2" ∷ bad "e282"
    ∷ bad "e28228" ∷ bad "e22882" ∷ bad "e0a07f" ∷ bad "ed9fc0" ∷ bad "ee80c0" ∷ bad "e1c080"
    -- four: U+10000, U+3FFFF, U+40000, U+FFFFF, U+100000, U+10FFFF
    ∷ good "f0908080" ∷ good "f0bfbfbf" ∷ good "f1808080" ∷ good "f3bfbfbf" ∷ good "f4808080" ∷ good "f48fbfbf"
    -- overlong, above U+10FFFF, cut, bad tails
    ∷ bad "f0808080" ∷ bad "f08fbfbf" ∷ bad "f4908080" ∷ bad "f5808080" ∷ bad "f7bfbfbf" ∷ bad "f888808080"
    ∷ bad "f09080" ∷ bad "f090" ∷ bad "f0" ∷ bad "f09080c0" ∷ bad "f0907f80" ∷ bad "f1c08080" ∷ bad "f48fbf7f"
    -- several: Zürich; an accent, then a character cut short; ASCII around a lone tail
    ∷ good "5ac3bc72696368" ∷ bad "c3a9c3" ∷ bad "6180 62"
    -- 255 bytes, and the last character cut
    ∷ record { text = flatten (replicate 127 (hex "c3a9")) ++ hex "78"; passes = true }
    ∷ record { text = flatten (replicate 127 (hex "c3a9")) ++ hex "c3"; passes = false }
    ∷ []

abbrev same : Bool → Bool → Bool
same true b = b
same false b = not b

-- the test answers every example so
abbrev answers_all : (Text → Bool) → Bool
answers_all test = all (λ e. same (test e.text) e.passes) examples

every_example : T (answers_all is_text)
unfolding flatten
every_example = tt

-- ## Other tests

ascii_only : T (not (answers_all is_ascii))
unfolding flatten
ascii_only = tt

-- every grammar of the list answers some example otherwise
abbrev all_differ : List (List Row) → Bool
all_differ = all (λ grammar. not (answers_all (is_made_of grammar [])))

-- a row left out
abbrev without : ℕ → List Row
without n = take n rows ++ drop (suc n) rows

row_left_out : T (all_differ (map without (0 ∷ 1 ∷ 2 ∷ 3 ∷ 4 ∷ 5 ∷ 6 ∷ 7 ∷ 8 ∷ [])))
unfolding flatten
row_left_out = tt

-- another row in a row's place
abbrev instead : ℕ → Row → List Row
instead n r = take n rows ++ r ∷ drop (suc n) rows

-- overlong forms of two, three and four bytes; surrogates; above U+10FFFF, by the second byte and by the first; lone
-- tails
wider_row : T (all_differ
    (instead 1 (row (from 0xc0 0xdf) (tail ∷ []))
    ∷ instead 1 (row (from 0xc1 0xdf) (tail ∷ []))
    ∷ instead 2 (row (from 0xe0 0xe0) (tail ∷ tail ∷ []))
    ∷ instead 6 (row (from 0xf0 0xf0) (tail ∷ tail ∷ tail ∷ []))
    ∷ instead 4 (row (from 0xed 0xed) (tail ∷ tail ∷ []))
    ∷ instead 8 (row (from 0xf4 0xf4) (tail ∷ tail ∷ tail ∷ []))
    ∷ instead 7 (row (from 0xf1 0xf5) (tail ∷ tail ∷ tail ∷ []))
    ∷ instead 0 (row (from 0x00 0x80) [])
    ∷ []))
unfolding flatten
wider_row = tt

-- ## Encodings

record Encoding : Type 0 where
  numbers : List ℕ
  text : Text

abbrev encoding : List ℕ → String → Encoding
encoding ns s = record { numbers = ns; text = hex s }

-- section 7's four examples, é, and the ends of each row of section 3's table
abbrev encodings : List Encoding
encodings =
    encoding (0x41 ∷ 0x2262 ∷ 0x391 ∷ 0x2e ∷ []) "41 e289a2 ce91 2e"
    ∷ encoding (0xd55c ∷ 0xad6d ∷ 0xc5b4 ∷ []) "ed959c eab5ad ec96b4"
    ∷ encoding (0x65e5 ∷ 0x672c ∷ 0x8a9e ∷ []) "e697a5 e69cac e8aa9e"
    ∷ encoding (0xfeff ∷ 0x233b4 ∷ []) "efbbbf f0a38eb4"
    ∷ encoding (0xe9 ∷ []) "c3a9"
    ∷ encoding (0x0 ∷ 0x7f ∷ 0x80 ∷ 0x7ff ∷ []) "00 7f c280 dfbf"
    ∷ encoding (0x800 ∷ 0xd7ff ∷ 0xe000 ∷ 0xffff ∷ []) "e0a080 ed9fbf ee8080 efbfbf"
    ∷ encoding (0x10000 ∷ 0x10ffff ∷ []) "f0908080 f48fbfbf"
    ∷ []

-- the numbers are scalar values, the text is their encodings and has as many characters
abbrev encodes : Encoding → Bool
encodes e =
    all is_scalar e.numbers && equal (flatten (map encode e.numbers)) e.text
    && eqb (length (characters e.text)) (length e.numbers)

every_encoding : T (all encodes encodings)
unfolding flatten
every_encoding = tt

-- no scalar values: the first and last surrogates, and what lies above U+10FFFF
no_scalars : T (all (λ n. not (is_scalar n)) (0xd800 ∷ 0xdfff ∷ 0x110000 ∷ []))
no_scalars = tt
