-- What a call that writes a name answers, and what the lent buffer holds afterwards (house format: a word of an outcome
-- that has no kind).
use Rattle.std.specs.Prelude.{ℕ, ◌+◌, ◌*◌, ◌^◌, ◌≡◌, List, ◌++◌, length, drop, leb}
use Rattle.page.specs.Bytes.{pick}

pub record Named : Type 0 where
  pub word : ℕ
  pub buffer : List ℕ

-- 4 times the count of bytes written from the buffer's start; the bytes after them stay. Refused 5 at 0 where the name
-- does not fit, and then nothing is written. A number without a name has the empty one, which always fits: 0, and no
-- byte changes
abbrev pub name_written : List ℕ → List ℕ → Named
name_written name buffer =
    pick (leb (length name) (length buffer))
    (record { word = length name * 4; buffer = name ++ drop (length name) buffer })
    (record { word = 2 ^ 63 + 5 * 65536; buffer = buffer })

-- what a call did: its word, and what the buffer holds afterwards, are those
pub record DoesName (named : Named) (word : ℕ) (buffer : List ℕ) : Type 0 where
  pub answers : word ≡ named.word
  pub leaves : buffer ≡ named.buffer
