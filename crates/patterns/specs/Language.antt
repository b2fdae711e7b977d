-- The language of a covered pattern: which texts it matches as a whole (label/matcher.rs: `^(?:pattern)$`), by the tree
-- of the pattern and without any search. A text is a list of characters here, not of bytes.
use Rattle.std.specs.Prelude.{ℕ, ◌≡◌, Bool, ◌&&◌, not, ◌⊎◌, T, eqb}
use mathlib.Core.List.{List, [], ◌∷◌, ◌++◌, flatten}
use Rattle.page.specs.Allowed.{Each}
use Rattle.page.specs.Encoding.{is_scalar}
use Rattle.patterns.specs.Pattern.{Repeat, once, star, plus, optional, Choice, last, or, Sequence, done, then}
use Rattle.patterns.specs.Pattern.{Item, single, any, group, write_choice}

-- characters by their numbers
abbrev pub Characters : Type 0
Characters = List ℕ

-- the text of this one character
abbrev pub Just : ℕ → Characters → Type 0
Just b t = t ≡ b ∷ []

-- `.` is any character but the line feed (the Rust's regex without its flag `s`)
abbrev pub is_any : ℕ → Bool
is_any x = is_scalar x && not (eqb x 10)

abbrev pub AnyOne : Characters → Type 0
AnyOne t = (x : ℕ) × (t ≡ x ∷ []) × T (is_any x)

-- `*`: texts of the language one after the other, also none; `+`: at least one; `?`: one, or empty text
abbrev pub Repeated : Repeat → (Characters → Type 0) → Characters → Type 0
Repeated once L t = L t
Repeated star L t = (ts : List Characters) × Each L ts × (flatten ts ≡ t)
Repeated plus L t = (u : Characters) × (ts : List Characters) × L u × Each L ts × (u ++ flatten ts ≡ t)
Repeated optional L t = (t ≡ []) ⊎ L t

abbrev mutual
  -- the text is in the language of one of the sequences
  pub InChoice : Choice → Characters → Type 0
  InChoice (last s) t = InSequence s t
  InChoice (or s c) t = InSequence s t ⊎ InChoice c t

  -- the text is made of texts of the items, one after the other
  pub InSequence : Sequence → Characters → Type 0
  InSequence done t = t ≡ []
  InSequence (then i s) t = (u : Characters) × (v : Characters) × InItem i u × InSequence s v × (u ++ v ≡ t)

  pub InItem : Item → Characters → Type 0
  InItem (single b h r) t = Repeated r (Just b) t
  InItem (any r) t = Repeated r AnyOne t
  InItem (group c r) t = Repeated r (λ u. InChoice c u) t

-- the text is in the language of the pattern as it is written
abbrev pub Matches : List ℕ → Characters → Type 0
Matches pattern t = (c : Choice) × (write_choice c ≡ pattern) × InChoice c t
