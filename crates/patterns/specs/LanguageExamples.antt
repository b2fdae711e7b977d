-- Covered patterns with texts that they match as a whole and texts that they miss (document 02, No. 7), by one computed
-- test. The rows tell apart what the language might be taken for, and each holds in the language itself
-- (`examples-language`, proofs/LanguageExamplesLaws). A row is one line, so that other programs can read the table.
use Prim.Native.String.{String}
use Rattle.std.specs.Prelude.{Bool, true, false, List, [], ◌∷◌, T}
use Rattle.std.proofs.Math.Option.{some}
use Rattle.page.specs.Bytes.{bytes, all}
use Rattle.patterns.specs.Pattern.{is_single}
use Rattle.patterns.specs.Language.{Characters}
use Rattle.patterns.specs.Search.{read_choice}
use Rattle.patterns.specs.EmptyTextExamples.{same}
use Rattle.patterns.specs.Accepts.{accepts}

pub record Example : Type 0 where
  pub pattern : String
  pub text : Characters
  pub answer : Bool

abbrev matches : String → String → Example
matches p t = record { pattern = p; text = bytes t; answer = true }

abbrev misses : String → String → Example
misses p t = record { pattern = p; text = bytes t; answer = false }

-- the text by the numbers of its characters, where it is not plain ASCII
abbrev matches_numbers : String → Characters → Example
matches_numbers p t = record { pattern = p; text = t; answer = true }

abbrev misses_numbers : String → Characters → Example
misses_numbers p t = record { pattern = p; text = t; answer = false }

abbrev pub examples : List Example
examples =
    -- one character, and the whole text: nothing before it, nothing behind it
    matches "a" "a"
    ∷ misses "a" ""
    ∷ misses "a" "A"
    ∷ misses "a" "aa"
    ∷ misses "a" "ba"
    ∷ misses "a" "ab"
    -- letters of both cases, digits, `_` and `-` stand for themselves
    ∷ matches "aZ09" "aZ09"
    ∷ matches "_-" "_-"
    -- a sequence is all of its items, in their order
    ∷ matches "ab" "ab"
    ∷ misses "ab" "ba"
    ∷ misses "ab" "a"
    -- `|` binds weaker than a sequence, and every sequence counts
    ∷ matches "ab|cd" "ab"
    ∷ matches "ab|cd" "cd"
    ∷ misses "ab|cd" "abd"
    ∷ matches "a|b|c" "b"
    ∷ matches "a(b|c)d" "acd"
    -- `*`, `+`, `?` after a group: none, one, two, three texts of it, not always the same
    ∷ matches "(a|bc)*" ""
    ∷ matches "(a|bc)*" "bc"
    ∷ matches "(a|bc)*" "bca"
    ∷ matches "(a|bc)*" "abca"
    ∷ misses "(a|bc)*" "ab"
    ∷ misses "(a|bc)+" ""
    ∷ matches "(a|bc)+" "bc"
    ∷ matches "(a|bc)+" "abc"
    ∷ matches "(a|bc)+" "aaa"
    ∷ matches "(a|bc)?" ""
    ∷ matches "(a|bc)?" "bc"
    ∷ misses "(a|bc)?" "aa"
    ∷ misses "(a|bc)?" "abca"
    -- a repeat belongs to the item before it alone
    ∷ matches "ab*" "abb"
    ∷ misses "ab*" "abab"
    -- what one item takes is left to the next where the text needs it
    ∷ matches "a*a" "aa"
    ∷ matches "(a|ab)(c|bcd)" "abcd"
    -- repeats in repeats
    ∷ matches "(a*)*" "aaa"
    ∷ misses "(a*)*" "ab"
    ∷ matches "(a+)?b" "aab"
    ∷ matches "(a+)?b" "b"
    ∷ misses "(a+)?b" "aa"
    -- empty sequences
    ∷ matches "a|" ""
    ∷ matches "(|a)b" "b"
    ∷ matches "(|a)b" "ab"
    ∷ misses "()" "a"
    -- `.` is one character, any but the line feed
    ∷ matches "." "."
    ∷ matches "a.*" "a- 9"
    -- by numbers: a line feed, a carriage return, a line feed behind the match, `é`
    ∷ misses_numbers "." (10 ∷ [])
    ∷ matches_numbers "." (13 ∷ [])
    ∷ misses_numbers "a" (97 ∷ 10 ∷ [])
    ∷ matches_numbers "." (233 ∷ [])
    -- by numbers: a surrogate and what lies above U+10FFFF are no characters, and no text of Rust holds them
    ∷ misses_numbers "." (0xd800 ∷ [])
    ∷ misses_numbers "." (0x110000 ∷ [])
    ∷ []

abbrev pub holds : Example → Bool
holds e = same (accepts (bytes e.pattern) e.text) (some e.answer)

pub examples_hold : T (all holds examples)
unfolding read_choice is_single
examples_hold = tt
