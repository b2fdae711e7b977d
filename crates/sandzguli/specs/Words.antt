-- The words of the library's face for C (house format): one 64-bit number for an outcome, one for the part of 19's
-- label, one for what a pattern says of empty text. That of the generations that accept a page is `generations_number`.
use Rattle.std.specs.Prelude.{ℕ, ◌+◌, ◌*◌, ◌^◌, ◌%◌, ◌≤◌, ◌≡◌, Bool, true, false, List, length, leb}
use Rattle.std.proofs.Math.Option.{Option, none, some}
use Rattle.page.specs.Bytes.{pick}
use Rattle.page.specs.Limits.{text_limit}
use Rattle.patterns.specs.Search.{matches_empty_text}
use Rattle.records.specs.Kind.{kind_number}
use Rattle.records.specs.Outcome.{Outcome, answer, refusal}
use Rattle.ast.specs.Part.{Part}
use Rattle.outcomes.specs.Calls.{Called}

-- accepted: four times the count of bytes written, and the kind's number. A count is below 2^61, since no memory is
-- larger; the remainder says so without a claim on texts. Refused: the highest bit, then the refusal's number and the
-- record
abbrev pub outcome_word : Outcome → ℕ
outcome_word (answer k n) = n % 2 ^ 61 * 4 + kind_number k
outcome_word (refusal n i) = 2 ^ 63 + n * 65536 + i

-- a refusal's number and record have room in the word: eight bits and sixteen
abbrev pub FitsWord : Outcome → Type 0
FitsWord (answer k n) = Unit {0}
FitsWord (refusal n i) = (n ≤ 255) × (i ≤ 65535)

-- the start and the size of the label; 0 where there is none. Only the outcome says whether there is one
abbrev pub label_word : Part → ℕ
label_word p = p.start * 256 + p.size

-- covered, and empty text is not in the language: 0; it is: 1; not covered: 2
abbrev pub empty_text_word : Option Bool → ℕ
empty_text_word none = 2
empty_text_word (some false) = 0
empty_text_word (some true) = 1

-- no matcher can hold a pattern that is longer than a text: 2
abbrev pub pattern_word : List ℕ → ℕ
pattern_word pattern = pick (leb (length pattern) text_limit) (empty_text_word (matches_empty_text pattern)) 2

-- what a call of the library's face did: its word, and what the buffer holds afterwards
pub record DoesWord (called : Called) (word : ℕ) (buffer : List ℕ) : Type 0 where
  pub answers : word ≡ outcome_word called.outcome
  pub leaves : buffer ≡ called.buffer
