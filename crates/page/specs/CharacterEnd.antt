-- How the code goes over a text of UTF-8: what it takes a first byte for, and the positions that it answers, none where
-- the text is ill-formed.
use Rattle.std.specs.Prelude.{ℕ, ◌≤◌, ◌<◌, ◌≡◌, Bool, false, List, [], ◌∷◌, length, drop, Some, None}
use Rattle.std.specs.Prelude.{Option as Given}
use Rattle.std.proofs.Math.Option.{Option, none, some}
use Rattle.page.specs.Utf8.{Range, from, holds, tail, is_utf8_after, is_utf8}
use Rattle.page.specs.declared.utf8.Due.{Due}
use Rattle.page.specs.declared.utf8.Due.TheVariants.{NoCharacter, Zero, One, Two, Three}

abbrev pub due_meant : Due → Option (List Range)
due_meant NoCharacter = none
due_meant Zero = some []
due_meant One = some (tail ∷ [])
due_meant (Two low high) = some (from low high ∷ tail ∷ [])
due_meant (Three low high) = some (from low high ∷ tail ∷ tail ∷ [])

-- there is a first byte, and it lies in the range
abbrev pub holds_first : Range → List ℕ → Bool
holds_first r [] = false
holds_first r (c ∷ t) = holds r c

-- a later position, and what is left from there decides what is left from `at` with bytes due; or none, and the text is
-- ill-formed
abbrev pub Ends : List Range → List ℕ → ℕ → Given ℕ → Type 0
Ends due text at None = is_utf8_after due (drop at text) ≡ false
Ends due text at (Some n) =
    (at < n) × (n ≤ length text) × (is_utf8_after due (drop at text) ≡ is_utf8 (drop n text))
