-- What a judge of records may take for granted of the record: its texts lie on the page, its number is exact, its
-- operands are among the so many that are on the stack.
use Rattle.std.specs.Prelude.{ℕ, ◌≤◌, List}
use Rattle.records.specs.Record as spec
use Rattle.float.specs.Exact.{RecordExact}
use Rattle.reader.specs.declared.Record.{Record}
use Rattle.reader.specs.Answers.{record_on, TextsLie}

pub record Judgeable (page : List ℕ) (item : Record) (depth : ℕ) : Type 0 where
  pub lies : TextsLie page item
  pub exact : RecordExact (record_on page item)
  pub fits : spec.operands (record_on page item) ≤ depth
