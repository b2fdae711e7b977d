-- Names as they lie in two arrays: the letters of all in one run, and where each begins; after the last stands the
-- end.
use Rattle.std.specs.Prelude.{ℕ, ◌+◌, ◌-◌, Bool, true, false, ◌&&◌, List, [], ◌∷◌, length, get_or, take, drop, leb}

-- no name is longer: the header's SANDZGULI_NAME_BYTES
abbrev pub longest_name : ℕ
longest_name = 128

-- each start lies after the one before, by a name's length at most, and within the letters
abbrev pub ascend : ℕ → ℕ → List ℕ → Bool
ascend low end [] = true
ascend low end (n ∷ ns) = leb low n && leb (n - low) longest_name && leb n end && ascend n end ns

abbrev pub is_table : List ℕ → List ℕ → Bool
is_table letters [] = false
is_table letters (n ∷ ns) = ascend n (length letters) ns

-- the name at a place; empty past the last
unfoldable pub name_at : List ℕ → List ℕ → ℕ → List ℕ
name_at letters starts i = take (get_or starts (i + 1) 0 - get_or starts i 0) (drop (get_or starts i 0) letters)
