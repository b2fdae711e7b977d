-- Where the parts of a covered pattern end, and which repeat an item takes in.
use Rattle.std.specs.Prelude.{ℕ, Bool, true, false, ◌||◌, not, List, [], ◌∷◌, eqb}
use Rattle.patterns.specs.Pattern.{Repeat, once, star, plus, optional, Item, single, any, group}

-- a sequence ends where the pattern does, at `|` and at `)`
abbrev pub ends_sequence : List ℕ → Bool
ends_sequence [] = true
ends_sequence (b ∷ bs) = eqb b 124 || eqb b 41

-- a choice ends where the pattern does, and at `)`
abbrev pub ends_choice : List ℕ → Bool
ends_choice [] = true
ends_choice (b ∷ bs) = eqb b 41

-- `*`, `+` or `?`
abbrev pub is_repeat : ℕ → Bool
is_repeat b = eqb b 42 || eqb b 43 || eqb b 63

abbrev pub begins_with_repeat : List ℕ → Bool
begins_with_repeat [] = false
begins_with_repeat (b ∷ bs) = is_repeat b

abbrev pub repeat_of : Item → Repeat
repeat_of (single b h r) = r
repeat_of (any r) = r
repeat_of (group c r) = r

-- an item without a repeat has none after it
abbrev pub takes_all : Repeat → List ℕ → Bool
takes_all once rest = not (begins_with_repeat rest)
takes_all star rest = true
takes_all plus rest = true
takes_all optional rest = true
