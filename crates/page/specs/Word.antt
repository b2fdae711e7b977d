-- Bytes as one number, as the code takes eight of them at a time (document 02, No. 4).
use Rattle.std.specs.Prelude.{ℕ, ◌+◌, ◌*◌, List, [], ◌∷◌, eqb, T}
use Rattle.page.specs.Bytes.{hex}

-- the first byte is the lowest
abbrev pub word_of : List ℕ → ℕ
word_of [] = 0
word_of (b ∷ bs) = word_of bs * 256 + b

first_is_lowest : T (eqb (word_of (hex "0102030405060780")) 0x8007_0605_0403_0201)
first_is_lowest = tt
