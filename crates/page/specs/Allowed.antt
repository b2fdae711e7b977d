-- What document 01 allows in a field ('The page', 'Highest values'): a value so allowed is read back as it was written,
-- and no reader gives another (proofs/ReadBackLaws).
use Rattle.std.specs.Prelude.{ℕ, ◌≤◌, Bool, List, [], ◌∷◌, length, T}
use Rattle.page.specs.Limits.{number_limit, count_limit}
use Rattle.page.specs.Text.{Text}

abbrev pub IsNumber : ℕ → Type 0
IsNumber n = n ≤ number_limit

-- a count of labels, matchers, kinds or arguments
abbrev pub IsCount : ℕ → Type 0
IsCount n = n ≤ count_limit

-- a text of at most so many bytes that passes a test
abbrev pub IsTextOf : ℕ → (Text → Bool) → Text → Type 0
IsTextOf limit allowed t = (length t ≤ limit) × T (allowed t)

module _ {A : Type 0} where
  -- every element has the property
  abbrev pub Each : (A → Type 0) → List A → Type 0
  Each P [] = Unit {0}
  Each P (x ∷ xs) = P x × Each P xs

  abbrev pub IsListOf : (A → Type 0) → List A → Type 0
  IsListOf P xs = IsCount (length xs) × Each P xs
