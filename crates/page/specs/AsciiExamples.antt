-- The test of document 02, No. 4, computed on texts with one byte that may not pass: in texts of less than a word, of a
-- word and of one byte more, at every place of a word, on both sides of the last word's end. Tests that look at fewer
-- bytes are told apart by it.
use Rattle.std.specs.Prelude.{ℕ, ◌+◌, ◌*◌, ◌/◌, Bool, true, false, not, ◌&&◌, List, [], ◌∷◌, ◌++◌, length, take, drop, replicate, T}
use Rattle.page.specs.Bytes.{all}
use Rattle.page.specs.Text.{Text, is_ascii}

record Example : Type 0 where
  text : Text
  passes : Bool

-- so many letters v, a byte, so many letters v
abbrev row : ℕ → ℕ → ℕ → Bool → Example
row before byte after passes = record { text = replicate before 0x76 ++ byte ∷ replicate after 0x76; passes = passes }

-- letters v alone
abbrev plain : ℕ → Example
plain n = record { text = replicate n 0x76; passes = true }

abbrev examples : List Example
examples =
    plain 0 ∷ plain 7 ∷ plain 8 ∷ plain 9 ∷ plain 255
    ∷ row 6 0x80 0 false ∷ row 7 0x80 0 false ∷ row 8 0x80 0 false ∷ row 8 0x7f 0 true
    ∷ row 0 0x80 15 false ∷ row 1 0x80 14 false ∷ row 2 0x80 13 false ∷ row 3 0x80 12 false
    ∷ row 4 0x80 11 false ∷ row 5 0x80 10 false ∷ row 6 0x80 9 false ∷ row 7 0x80 8 false
    ∷ row 8 0xff 7 false ∷ row 9 0xff 6 false ∷ row 10 0xff 5 false ∷ row 11 0xff 4 false
    ∷ row 12 0xff 3 false ∷ row 13 0xff 2 false ∷ row 14 0xff 1 false ∷ row 15 0xff 0 false
    ∷ row 0 0x80 254 false ∷ row 247 0xff 7 false ∷ row 248 0xff 6 false ∷ row 254 0x80 0 false
    ∷ record { text = replicate 255 0x7f; passes = true }
    ∷ []

abbrev same : Bool → Bool → Bool
same true b = b
same false b = not b

-- the test answers every example so
abbrev answers_all : (Text → Bool) → Bool
answers_all test = all (λ e. same (test e.text) e.passes) examples

every_example : T (answers_all is_ascii)
every_example = tt

-- ## Wrong tests

-- the first word alone
first_word : T (not (answers_all (λ t. is_ascii (take 8 t))))
first_word = tt

-- whole words alone
abbrev whole_words : Text → Text
whole_words t = take (length t / 8 * 8) t

tail_untested : T (not (answers_all (λ t. is_ascii (whole_words t))))
tail_untested = tt

-- all bytes but one
abbrev besides : ℕ → Text → Bool
besides place t = is_ascii (take place t) && is_ascii (drop (place + 1) t)

first_untested : T (not (answers_all (besides 0)))
first_untested = tt

eighth_untested : T (not (answers_all (besides 7)))
eighth_untested = tt
