-- The form of a table of functions as it lies in two arrays (document 02, No. 2: "the letters of all names lie in one
-- run of bytes, with ascending starts, and names ascend"): so many names, then as many signatures, in one run of bytes,
-- and where each begins; after the last stands the end. Any table of the form can be asked; document 02's No. 13 has
-- two more.
use Rattle.std.specs.Prelude.{ℕ, suc, ◌+◌, ◌-◌, ◌/◌, ◌≡◌, Bool, false, ◌&&◌, List, [], ◌∷◌, ◌++◌, map, length, take, drop, T, ltb, eqb}
use Rattle.std.proofs.Math.Option.{Option, none, some}
use Rattle.page.specs.Bytes.{pick, equal}
use Rattle.page.specs.Text.{Text}
use Rattle.records.specs.Signature.{Function, write_signature}
use Rattle.functions.specs.Order.{ascend}

-- the bytes from each start to the next
abbrev pub cut : List ℕ → List ℕ → List Text
cut letters [] = []
cut letters (a ∷ []) = []
cut letters (a ∷ b ∷ starts) = take (b - a) (drop a letters) ∷ cut letters (b ∷ starts)

-- starts that ascend strictly up to the end
abbrev pub ascend_to : ℕ → List ℕ → Bool
ascend_to end [] = false
ascend_to end (a ∷ []) = eqb a end
ascend_to end (a ∷ b ∷ starts) = ltb a b && ascend_to end (b ∷ starts)

-- how many functions lie in a table with these starts
abbrev pub count_of : List ℕ → ℕ
count_of starts = length starts / 2

-- the names are the first half of the texts
abbrev pub names_in : List ℕ → List ℕ → List Text
names_in letters starts = take (count_of starts) (cut letters starts)

abbrev starts_at_zero : List ℕ → Bool
starts_at_zero [] = false
starts_at_zero (a ∷ starts) = eqb a 0

-- as many signatures as names, and the end
abbrev is_paired : List ℕ → Bool
is_paired starts = eqb (length starts) (suc (count_of starts + count_of starts))

-- starts from 0 to the number of bytes, two texts for each function, and names in order
abbrev pub is_table : List ℕ → List ℕ → Bool
is_table letters starts =
    starts_at_zero starts && is_paired starts && ascend_to (length letters) starts && ascend (names_in letters starts)

-- the place of a name, counted from i
abbrev pub place_from : ℕ → List Text → Text → Option ℕ
place_from i [] name = none
place_from i (t ∷ ts) name = pick (equal t name) (some i) (place_from (suc i) ts name)

unfoldable pub place_of : List ℕ → List ℕ → Text → Option ℕ
place_of letters starts name = place_from 0 (names_in letters starts) name

-- ## A table in arrays

abbrev pub names : List Function → List Text
names = map (λ f. f.name)

-- the arrays hold the table: its names, then its signatures as they stand in a call
pub record Formed (letters starts : List ℕ) (table : List Function) : Type 0 where
  pub is-table : T (is_table letters starts)
  pub holds : cut letters starts ≡ names table ++ map write_signature table
