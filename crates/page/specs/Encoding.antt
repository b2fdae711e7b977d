-- Characters and their encodings (RFC 3629, section 3), from the characters' numbers and without the grammar. A text is
-- well-formed if and only if it is made of such encodings (`utf8-encodes`, proofs/EncodingLaws).
use Rattle.std.specs.Prelude.{ℕ, ◌+◌, ◌/◌, ◌%◌, ◌≡◌, Bool, not, ◌&&◌, T, leb}
use mathlib.Core.List.{List, [], ◌∷◌, map, flatten}
use Rattle.page.specs.Bytes.{pick, between, all}

-- a scalar value: "the range U+0000..U+10FFFF"; "the definition of UTF-8 prohibits encoding character numbers between
-- U+D800 and U+DFFF"
abbrev pub is_scalar : ℕ → Bool
is_scalar n = leb n 0x10ffff && not (between 0xd800 0xdfff n)

-- `10xxxxxx` with the six lowest bits of a number
abbrev pub six_bits : ℕ → ℕ
six_bits n = 0x80 + n % 64

-- the table of section 3: `0xxxxxxx`, `110xxxxx ..`, `1110xxxx .. ..`, `11110xxx .. .. ..`
abbrev pub encode : ℕ → List ℕ
encode n =
    pick (leb n 0x7f) (n ∷ [])
    (pick (leb n 0x7ff) ((0xc0 + n / 64) ∷ six_bits n ∷ [])
    (pick (leb n 0xffff) ((0xe0 + n / 4096) ∷ six_bits (n / 64) ∷ six_bits n ∷ [])
    ((0xf0 + n / 262144) ∷ six_bits (n / 4096) ∷ six_bits (n / 64) ∷ six_bits n ∷ [])))

-- a text that is the encodings of scalar values, one after the other
pub record Encoded (t : List ℕ) : Type 0 where
  pub numbers : List ℕ
  pub scalars : T (all is_scalar numbers)
  pub same : t ≡ flatten (map encode numbers)

-- ## The characters of a text

-- a byte before characters: a first one that begins with `10xxxxxx` is the rest of its character
abbrev pub begin_character : ℕ → List (List ℕ) → List (List ℕ)
begin_character c [] = (c ∷ []) ∷ []
begin_character c ([] ∷ more) = (c ∷ []) ∷ more
begin_character c ((b ∷ bs) ∷ more) = pick (between 0x80 0xbf b) ((c ∷ b ∷ bs) ∷ more) ((c ∷ []) ∷ (b ∷ bs) ∷ more)

-- any bytes, cut before each that is no `10xxxxxx`; of encodings each is one (`characters-encode`)
abbrev pub characters : List ℕ → List (List ℕ)
characters [] = []
characters (c ∷ t) = begin_character c (characters t)
