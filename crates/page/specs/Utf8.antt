-- Well-formed UTF-8 (RFC 3629, section 4, the grammar `UTF8-octets`). Document 02, No. 10: "The text test now promises
-- well-formed UTF-8 instead of bytes below 128".
use Rattle.std.specs.Prelude.{ℕ, Bool, true, false, ◌&&◌, List, [], ◌∷◌}
use Rattle.std.proofs.Math.Option.{Option, none, some}
use Rattle.page.specs.Bytes.{pick, between}

-- ## The grammar

-- the bytes from one to another
pub record Range : Type 0 where
  pub low : ℕ
  pub high : ℕ

abbrev pub from : ℕ → ℕ → Range
from a b = record { low = a; high = b }

abbrev pub holds : Range → ℕ → Bool
holds r = between r.low r.high

-- `UTF8-tail`
abbrev pub tail : Range
tail = from 0x80 0xbf

-- the first byte of a character, and the bytes that must follow
pub record Row : Type 0 where
  pub first : Range
  pub following : List Range

abbrev pub row : Range → List Range → Row
row r rs = record { first = r; following = rs }

-- `UTF8-1`; `UTF8-2`; the four alternatives of `UTF8-3`; the three of `UTF8-4`
abbrev pub rows : List Row
rows =
    row (from 0x00 0x7f) []
    ∷ row (from 0xc2 0xdf) (tail ∷ [])
    ∷ row (from 0xe0 0xe0) (from 0xa0 0xbf ∷ tail ∷ [])
    ∷ row (from 0xe1 0xec) (tail ∷ tail ∷ [])
    ∷ row (from 0xed 0xed) (from 0x80 0x9f ∷ tail ∷ [])
    ∷ row (from 0xee 0xef) (tail ∷ tail ∷ [])
    ∷ row (from 0xf0 0xf0) (from 0x90 0xbf ∷ tail ∷ tail ∷ [])
    ∷ row (from 0xf1 0xf3) (tail ∷ tail ∷ tail ∷ [])
    ∷ row (from 0xf4 0xf4) (from 0x80 0x8f ∷ tail ∷ tail ∷ [])
    ∷ []

-- ## Texts

-- what must follow a first byte by the first row that takes it; none where no row does
abbrev pub following_in : List Row → ℕ → Option (List Range)
following_in [] c = none
following_in (r ∷ rs) c = pick (holds r.first c) (some r.following) (following_in rs c)

abbrev pub begun : Option (List Range) → (List Range → Bool) → Bool
begun none more = false
begun (some due) more = more due

-- the bytes that are due, then whole characters, by the rows of a grammar
abbrev pub is_made_of : List Row → List Range → List ℕ → Bool
is_made_of grammar [] [] = true
is_made_of grammar (r ∷ due) [] = false
is_made_of grammar [] (c ∷ t) = begun (following_in grammar c) (λ due. is_made_of grammar due t)
is_made_of grammar (r ∷ due) (c ∷ t) = holds r c && is_made_of grammar due t

abbrev pub following : ℕ → Option (List Range)
following = following_in rows

abbrev pub is_utf8_after : List Range → List ℕ → Bool
is_utf8_after = is_made_of rows

-- `UTF8-octets`
abbrev pub is_utf8 : List ℕ → Bool
is_utf8 = is_utf8_after []
