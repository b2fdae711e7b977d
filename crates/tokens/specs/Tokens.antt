-- The tokens of the codes as they lie in the code's tables: one after the other, with the places where they begin.
use Rattle.std.specs.Prelude.{ℕ, ◌+◌, ◌-◌, List, [], ◌∷◌, get_or, take, drop}
use Rattle.page.specs.Bytes.{bytes}

abbrev pub letters : List ℕ
letters = bytes "+/==>=>andor<<=unless%*!=^-atan2avgbottomkcountcount_valuesgroupmaxminquantilestddevstdvarsumtopklimitklimit_ratio"

abbrev pub starts : List ℕ
starts =
    0 ∷ 1 ∷ 2 ∷ 4 ∷ 6 ∷ 7 ∷ 10 ∷ 12 ∷ 13 ∷ 15 ∷ 21 ∷ 22 ∷ 23 ∷ 25 ∷ 26 ∷ 27 ∷ 32 ∷ 35 ∷ 42 ∷ 47 ∷ 59 ∷ 64 ∷ 67 ∷ 70 ∷
    78 ∷ 84 ∷ 90 ∷ 93 ∷ 97 ∷ 103 ∷ 114 ∷ 114 ∷ []

-- the token at a place
unfoldable pub token_at : ℕ → List ℕ
token_at i = take (get_or starts (i + 1) 0 - get_or starts i 0) (drop (get_or starts i 0) letters)
