-- Covered patterns (document 02, No. 7): "Covered patterns use letters, digits, `_`, `-`, `.`, `|`, round brackets and
-- at most one of `*`, `+`, `?` after an item: a choice is made of sequences, a sequence of items, and an item may hold a
-- choice. Empty sequences are allowed."
use Rattle.std.specs.Prelude.{ℕ, Bool, ◌||◌, List, [], ◌∷◌, ◌++◌, ◌≡◌, T, eqb}
use Rattle.page.specs.Bytes.{bytes}
use Rattle.page.specs.Text.{is_alpha_numeric}

-- a letter, a digit, `_` or `-`
unfoldable pub is_single : ℕ → Bool
is_single b = is_alpha_numeric b || eqb b 45

-- nothing, `*`, `+` or `?` after an item
pub data Repeat : Type 0 where
  once star plus optional : Repeat

mutual
  -- sequences with `|` between them
  pub data Choice : Type 0 where
    last : Sequence → Choice
    or : Sequence → Choice → Choice

  -- items one after the other
  pub data Sequence : Type 0 where
    done : Sequence
    then : Item → Sequence → Sequence

  pub data Item : Type 0 where
    single : (b : ℕ) → T (is_single b) → Repeat → Item
    -- `.`
    any : Repeat → Item
    -- a choice in round brackets
    group : Choice → Repeat → Item

-- ## As written

abbrev pub write_repeat : Repeat → List ℕ
write_repeat once = []
write_repeat star = bytes "*"
write_repeat plus = bytes "+"
write_repeat optional = bytes "?"

abbrev mutual
  pub write_choice : Choice → List ℕ
  write_choice (last s) = write_sequence s
  write_choice (or s c) = write_sequence s ++ (bytes "|" ++ write_choice c)

  pub write_sequence : Sequence → List ℕ
  write_sequence done = []
  write_sequence (then i s) = write_item i ++ write_sequence s

  pub write_item : Item → List ℕ
  write_item (single b h r) = b ∷ write_repeat r
  write_item (any r) = bytes "." ++ write_repeat r
  write_item (group c r) = bytes "(" ++ (write_choice c ++ (bytes ")" ++ write_repeat r))

-- a covered pattern is one that is written so. There is one tree only (`write_choice-one`, proofs/DecisionLaws)
abbrev pub Covered : List ℕ → Type 0
Covered pattern = (c : Choice) × (write_choice c ≡ pattern)
