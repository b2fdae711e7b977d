-- Where the records of a page stand, for code that goes from record to record by a table of their starts.
use Rattle.std.specs.Prelude.{ℕ, ◌<◌, ◌≡◌, List, length, drop, get_or, T, ltb}
use Rattle.page.specs.Bytes.{all}
use Rattle.page.specs.Limits.{record_limit}
use Rattle.page.specs.Text.{write_all}
use Rattle.records.specs.Record.{Record, write_record, end, read_page}
use Rattle.ast.specs.Expr.{Expr}
use Rattle.ast.specs.Walk.{stack, walk}
use Rattle.ast.specs.CheckPage.{apply}
use Rattle.ast.specs.Part.{from_record}
use Rattle.copy.specs.Copy.{copy_records}

-- records that lead from some stack to another, and none of them is refused
pub record Walks (rs : List Record) : Type 0 where
  pub before : List Expr
  pub after : List Expr
  pub walks : (i : ℕ) → walk apply i before rs ≡ stack after

-- a page of n records, read to its end, none of them refused, and the start of each in a table
pub record PageStarts (page starts : List ℕ) (n : ℕ) : Type 0 where
  pub bytes : T (all (λ b. ltb b 256) page)
  pub readable : (read_page page).ending ≡ end
  pub walked : Walks (read_page page).records
  pub count : length (read_page page).records ≡ n
  pub size : length starts ≡ record_limit
  pub stands : (i : ℕ) → i < n → drop (get_or starts i 0) page ≡ from_record i page

-- the copy from record i on
unfoldable pub copy_from : List ℕ → ℕ → List ℕ
copy_from page i = write_all write_record (copy_records (drop i (read_page page).records))
