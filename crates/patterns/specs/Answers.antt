-- What the answers of the functions mean: a tree that is written from a position on, and whether empty text is in its
-- language; or that there is no such tree.
use Rattle.std.specs.Prelude.{ℕ, ◌+◌, ◌≤◌, ◌≡◌, Bool, List, ◌++◌, length, drop, T, Option, Some, None}
use Rattle.patterns.specs.Pattern.{write_repeat, write_choice, write_sequence, write_item}
use Rattle.patterns.specs.Search.{empty_repeated, empty_choice, empty_sequence, empty_item}
use Rattle.patterns.specs.Tree.{ends_sequence, ends_choice, repeat_of, takes_all}

-- ## A part of a pattern

-- how trees of a sort are written, and what may stand after one
module _ {A : Type 0} (write : A → List ℕ) (ends_before : A → List ℕ → Bool) where
  -- no tree is written at the front
  abbrev pub NoPart : List ℕ → Type 0
  NoPart s = (tree : A) (rest : List ℕ) → T (ends_before tree rest) → write tree ++ rest ≡ s → ⊥

  -- a tree is written from one position to another, `least` bytes on or more; and whether empty text is in its language
  module _ (is_empty : A → Bool) (least : ℕ) where
    pub record PartFound (p : List ℕ) (at : ℕ) (e : Bool) (next : ℕ) : Type 0 where
      pub tree : A
      pub written : write tree ++ drop next p ≡ drop at p
      pub ends : T (ends_before tree (drop next p))
      pub empty : is_empty tree ≡ e
      pub low : at + least ≤ next
      pub high : next ≤ length p

    abbrev pub PartAt : List ℕ → ℕ → Option (Bool × ℕ) → Type 0
    PartAt p at (Some part) = PartFound p at part.0 part.1
    PartAt p at None = NoPart (drop at p)

-- ## Choices, sequences and items

abbrev pub ChoiceFound : List ℕ → ℕ → Bool → ℕ → Type 0
ChoiceFound = PartFound write_choice (λ c rest. ends_choice rest) empty_choice 0

abbrev pub NoChoice : List ℕ → Type 0
NoChoice = NoPart write_choice (λ c rest. ends_choice rest)

abbrev pub ChoiceAt : List ℕ → ℕ → Option (Bool × ℕ) → Type 0
ChoiceAt = PartAt write_choice (λ c rest. ends_choice rest) empty_choice 0

abbrev pub SequenceFound : List ℕ → ℕ → Bool → ℕ → Type 0
SequenceFound = PartFound write_sequence (λ s rest. ends_sequence rest) empty_sequence 0

abbrev pub NoSequence : List ℕ → Type 0
NoSequence = NoPart write_sequence (λ s rest. ends_sequence rest)

abbrev pub SequenceAt : List ℕ → ℕ → Option (Bool × ℕ) → Type 0
SequenceAt = PartAt write_sequence (λ s rest. ends_sequence rest) empty_sequence 0

-- an item has a byte at least
abbrev pub ItemFound : List ℕ → ℕ → Bool → ℕ → Type 0
ItemFound = PartFound write_item (λ i rest. takes_all (repeat_of i) rest) empty_item 1

abbrev pub NoItem : List ℕ → Type 0
NoItem = NoPart write_item (λ i rest. takes_all (repeat_of i) rest)

abbrev pub ItemAt : List ℕ → ℕ → Option (Bool × ℕ) → Type 0
ItemAt = PartAt write_item (λ i rest. takes_all (repeat_of i) rest) empty_item 1

-- the repeat after an item, of whose language empty text is a part or not
abbrev pub RepeatFound : List ℕ → ℕ → Bool → Bool → ℕ → Type 0
RepeatFound p at b = PartFound write_repeat takes_all (λ r. empty_repeated r b) 0 p at

abbrev pub RepeatAt : List ℕ → ℕ → Bool → Bool × ℕ → Type 0
RepeatAt p at b part = RepeatFound p at b part.0 part.1
