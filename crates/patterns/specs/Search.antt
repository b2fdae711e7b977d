-- What the check computes: the tree of a pattern, if it is covered, and whether empty text is in its language. That the
-- language says the same is proved (proofs/DecisionLaws). The first number of a reader bounds how deep its calls go:
-- three for each byte, and three.
use Rattle.std.specs.Prelude.{ℕ, zero, suc, ◌+◌, ◌*◌, Bool, true, false, ◌||◌, ◌&&◌, List, [], ◌∷◌, length, T, eqb}
use Rattle.std.proofs.Math.Option.{Option, none, some}
use Rattle.page.specs.Bytes.{pick}
use Rattle.patterns.specs.Pattern.{is_single, Repeat, once, star, plus, optional, Choice, last, or, Sequence, done, then}
use Rattle.patterns.specs.Pattern.{Item, single, any, group}
use Rattle.patterns.specs.Tree.{ends_sequence}

-- what was found at the front, and the bytes after it
pub data Found (A : Type 0) : Type 0 where
  missing : Found A
  found : A → List ℕ → Found A

-- an item with the `*`, `+` or `?` after it
abbrev pub repeated : (Repeat → Item) → List ℕ → Found Item
repeated make [] = found (make once) []
repeated make (b ∷ bs) =
    pick (eqb b 42) (found (make star) bs)
    (pick (eqb b 43) (found (make plus) bs) (pick (eqb b 63) (found (make optional) bs) (found (make once) (b ∷ bs))))

-- a choice with the `)` after it
abbrev pub closed : Found Choice → Found Item
closed missing = missing
closed (found c []) = missing
closed (found c (b ∷ bs)) =
    let behind : Found Item = repeated (group c) bs in
    pick (eqb b 41) behind missing

-- a byte that passes the test stands for itself
abbrev pub of_test : (t : Bool) → (T t → Found Item) → Found Item
of_test true f = f tt
of_test false f = missing

abbrev pub following : Item → Found Sequence → Found Sequence
following i missing = missing
following i (found s rest) = found (then i s) rest

abbrev pub items : Found Item → (List ℕ → Found Sequence) → Found Sequence
items missing more = missing
items (found i rest) more = following i (more rest)

abbrev pub another : Sequence → Found Choice → Found Choice
another s missing = missing
another s (found c rest) = found (or s c) rest

abbrev pub alternatives : Found Sequence → (List ℕ → Found Choice) → Found Choice
alternatives missing more = missing
alternatives (found s []) more = found (last s) []
alternatives (found s (b ∷ bs)) more =
    let continued : Found Choice = another s (more bs) in
    pick (eqb b 124) continued (found (last s) (b ∷ bs))

unfoldable mutual
  pub read_choice : ℕ → List ℕ → Found Choice
  read_choice zero s = missing
  read_choice (suc n) s = alternatives (read_sequence n s) (λ rest. read_choice n rest)

  pub read_sequence : ℕ → List ℕ → Found Sequence
  read_sequence zero s = missing
  read_sequence (suc n) s =
      let more : Found Sequence = items (read_item n s) (λ rest. read_sequence n rest) in
      pick (ends_sequence s) (found done s) more

  pub read_item : ℕ → List ℕ → Found Item
  read_item zero s = missing
  read_item (suc n) [] = missing
  read_item (suc n) (b ∷ bs) =
      let grouped : Found Item = closed (read_choice n bs) in
      pick (eqb b 40) grouped (pick (eqb b 46) (repeated any bs) (of_test (is_single b) (λ h. repeated (single b h) bs)))

-- ## Empty text

abbrev pub empty_repeated : Repeat → Bool → Bool
empty_repeated once b = b
empty_repeated star b = true
empty_repeated plus b = b
empty_repeated optional b = true

abbrev mutual
  pub empty_choice : Choice → Bool
  empty_choice (last s) = empty_sequence s
  empty_choice (or s c) = empty_sequence s || empty_choice c

  pub empty_sequence : Sequence → Bool
  empty_sequence done = true
  empty_sequence (then i s) = empty_item i && empty_sequence s

  pub empty_item : Item → Bool
  empty_item (single b h r) = empty_repeated r false
  empty_item (any r) = empty_repeated r false
  empty_item (group c r) = empty_repeated r (empty_choice c)

-- a choice that is the whole pattern
abbrev pub whole : Found Choice → Option Bool
whole missing = none
whole (found c []) = some (empty_choice c)
whole (found c (b ∷ bs)) = none

-- whether a covered pattern matches empty text; none of any other
unfoldable pub matches_empty_text : List ℕ → Option Bool
matches_empty_text pattern = whole (read_choice (3 * length pattern + 3) pattern)
