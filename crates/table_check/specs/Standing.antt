-- Where the records of a page stand, as the walk's table has it, and how many of them the walk came to.
use Rattle.std.specs.Prelude.{ℕ, suc, ◌-◌, ◌≤◌, ◌<◌, min, ◌≡◌, List, ◌∷◌, length, get_or, drop}
use Rattle.page.specs.Limits.{record_limit}
use Rattle.page.specs.Read.{got}
use Rattle.records.specs.Record.{Record, read_record, read_records, read_page}
use Rattle.ast.specs.Table.{record_count}

-- record i stands at `start`; the records behind it are read from what it leaves
pub record RecordStands (page : List ℕ) (start i : ℕ) : Type 0 where
  pub item : Record
  pub rest : List ℕ
  pub reads : got item rest ≡ read_record (drop start page)
  pub listed : drop i (read_page page).records ≡ item ∷ (read_records (record_limit - suc i) rest).records

-- the first `count` entries of the table
pub record Standing (page starts : List ℕ) (count : ℕ) : Type 0 where
  pub sized : count ≤ length starts
  pub entry : (i : ℕ) → i < count → RecordStands page (get_or starts i 0) i

-- the records behind the first `count` ones are read from a position on
pub record NextStands (page : List ℕ) (count at : ℕ) : Type 0 where
  pub inside : at ≤ length page
  pub left : drop count (read_page page).records ≡ (read_records (record_limit - count) (drop at page)).records

-- a page refused at a record: the records up to that one, if it can be read
pub record Reaches (page : List ℕ) (index : ℕ) (starts : List ℕ) (count : ℕ) : Type 0 where
  pub known : Standing page starts count
  pub is_count : count ≡ min (suc index) (record_count page)
