-- A line put together in a buffer, text by text, from a position on. A text that does not fit is left out.
--     put_all texts (line_at buffer at)     the buffer and the position at the line's end, after these texts
--     Puts before at texts after next     what a writer says: it put these texts
--     Shows before at numbers after next  the same of numbers, each as a space and its digits
-- Where all of them fit, the line is the texts one after another (`puts-wrote`, proofs/LineLaws).
use Rattle.std.specs.Prelude.{ℕ, ◌+◌, List, [], ◌∷◌, ◌≡◌, leb, length}
use Rattle.base.specs.Splice.{splice}
use Rattle.page.specs.Bytes.{pick}
use Rattle.leaves.specs.Decimal.{decimal}

pub record Line : Type 0 where
  pub buffer : List ℕ
  pub end : ℕ

abbrev pub line_at : List ℕ → ℕ → Line
line_at buffer end = record { buffer = buffer; end = end }

unfoldable pub put : List ℕ → Line → Line
put t l = pick (leb (l.end + length t) (length l.buffer)) (line_at (splice l.buffer l.end t) (l.end + length t)) l

unfoldable pub put_all : List (List ℕ) → Line → Line
put_all [] l = l
put_all (t ∷ ts) l = put_all ts (put t l)

pub record Puts (before : List ℕ) (at : ℕ) (texts : List (List ℕ)) (after : List ℕ) (next : ℕ) : Type 0 where
  pub is : put_all texts (line_at before at) ≡ line_at after next

-- each number after a space
unfoldable pub spaced : List ℕ → List (List ℕ)
spaced [] = []
spaced (n ∷ ns) = (32 ∷ []) ∷ decimal n ∷ spaced ns

pub record Shows (before : List ℕ) (at : ℕ) (numbers : List ℕ) (after : List ℕ) (next : ℕ) : Type 0 where
  pub puts : Puts before at (spaced numbers) after next
