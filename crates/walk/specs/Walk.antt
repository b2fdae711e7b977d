-- What the parts of the walk take for granted and answer.
use Rattle.std.specs.Prelude.{ℕ, zero, suc, List, ◌≡◌, get_or}
use Rattle.records.specs.Record.{operands}
use Rattle.reader.specs.declared.Record.{Record}
use Rattle.reader.specs.Answers.{record_on, TextsLie}
use Rattle.float.specs.Exact.{RecordExact}

-- a record that was read: its texts lie on the page, its number is exact, and it takes so many operands
pub record RecordRead (page : List ℕ) (item : Record) (needed : ℕ) : Type 0 where
  pub lies : TextsLie page item
  pub exact : RecordExact (record_on page item)
  pub takes : needed ≡ operands (record_on page item)

-- the first record of the expression that record `count` ends: that of its deepest operand, which lies at this depth of
-- the stack, or itself
abbrev pub first_of : ℕ → ℕ → ℕ → List ℕ → ℕ
first_of zero count depth bases = count
first_of (suc n) count depth bases = get_or bases depth 0
