-- The characters of a text. Those of encodings are these, one for each number, for the first byte of an encoding is no
-- `10xxxxxx` and all others are; and those of any bytes make up these bytes. Assumes nothing.
use Prim.Native.Nat.{ℕ, ◌≤◌, ◌<◌}
use mathlib.Core.Path.{◌≡◌, refl, ap, ◌∙◌}
use mathlib.Core.List.{List, [], ◌∷◌, ◌++◌, map, flatten}
use native.Mathlib.Omega.{arith}
use Rattle.base.proofs.Cases.{by_flag}
use Rattle.page.specs.Bytes.{between}
use Rattle.page.specs.Encoding.{encode, begin_character, characters}
use Rattle.page.specs.Utf8.{tail}
use Rattle.page.proofs.Utf8Laws.{InRange, inside, outside}
use Rattle.page.proofs.EncodingLaws.{by_length}

abbrev Tails : List ℕ → Type 0
Tails [] = Unit {0}
Tails (b ∷ bs) = InRange tail b × Tails bs

-- a byte that is no `10xxxxxx`, then such bytes
abbrev Character : List ℕ → Type 0
Character [] = ⊥
Character (c ∷ bs) = (0x80 ≤ c → 0xbf < c) × Tails bs

encode-character : (n : ℕ) → Character (encode n)
encode-character n =
    by_length Character n (λ l. omega arith) (λ c b is_c is_b g l. omega arith)
    (λ c b d is_c is_b is-d g l. omega arith) (λ c b d e is_c is_b is-d is-e g. omega arith)

-- a byte before encodings is the last of its character
ends-before : (ns : List ℕ) (c : ℕ) → begin_character c (map encode ns) ≡ (c ∷ []) ∷ map encode ns
ends-before [] c = refl
ends-before (n ∷ ns) c = by (encode n) (encode-character n)
  where
    by : (bs : List ℕ) → Character bs → begin_character c (bs ∷ map encode ns) ≡ (c ∷ []) ∷ bs ∷ map encode ns
    by [] h = absurd h
    by (b ∷ bs) (apart, tails) = rw (outside tail b apart)

-- a byte and tails before characters are one more character
joined : (c : ℕ) (bs t : List ℕ) (cs : List (List ℕ)) → Tails bs → characters t ≡ cs
    → ((b : ℕ) → begin_character b cs ≡ (b ∷ []) ∷ cs) → characters (c ∷ bs ++ t) ≡ (c ∷ bs) ∷ cs
joined c [] t cs tails is ends = ap (begin_character c) is ∙ ends c
joined c (b ∷ bs) t cs (w, tails) is ends =
    ap (begin_character c) (joined b bs t cs tails is ends) ∙ rw (inside tail b w)

-- the characters of encodings are these
pub characters-encode : (ns : List ℕ) → characters (flatten (map encode ns)) ≡ map encode ns
unfolding flatten
characters-encode [] = refl
characters-encode (n ∷ ns) = by (encode n) (encode-character n) (characters-encode ns)
  where
    by : (bs : List ℕ) → Character bs → characters (flatten (map encode ns)) ≡ map encode ns
        → characters (bs ++ flatten (map encode ns)) ≡ bs ∷ map encode ns
    by [] h is = absurd h
    by (c ∷ bs) (apart, tails) is = joined c bs (flatten (map encode ns)) (map encode ns) tails is (ends-before ns)

-- the characters of any bytes make up these bytes
pub characters-whole : (t : List ℕ) → flatten (characters t) ≡ t
unfolding flatten
characters-whole [] = refl
characters-whole (c ∷ t) = begun-whole (characters t) ∙ ap (λ (u : List ℕ). c ∷ u) (characters-whole t)
  where
    begun-whole : (cs : List (List ℕ)) → flatten (begin_character c cs) ≡ c ∷ flatten cs
    begun-whole [] = refl
    begun-whole ([] ∷ more) = refl
    begun-whole ((b ∷ bs) ∷ more) = by_flag (between 0x80 0xbf b) (λ e. rw e) (λ e. rw e)
