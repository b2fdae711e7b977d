-- The tables of the walk, an entry on: where the next record stands. Assumes nothing.
use Prim.Native.Nat.{ℕ, zero, suc}
use mathlib.Core.Path.{◌≡◌, refl, ap, ◌∙◌, sym}
use mathlib.Core.List.{List}
use lib.ListN.{drop}
use Rattle.page.specs.Read.{got}
use Rattle.records.specs.Record.{Record, read_record}
use Rattle.ast.specs.Part.{behind, from_record}

-- ## from_record

pub from_record-next : (i : ℕ) (s : List ℕ) → from_record (suc i) s ≡ behind (read_record (from_record i s))
from_record-next zero s = refl
from_record-next (suc i) s = from_record-next i (behind (read_record s))

-- a record read where record i stands: record i + 1 stands after it
pub stands-next : (page : List ℕ) (start next i : ℕ) {r : Record} → drop start page ≡ from_record i page → got r (drop next page) ≡ read_record (drop start page)
    → drop next page ≡ from_record (suc i) page
stands-next page start next i stands reads = ap behind reads ∙ ap (λ (s : List ℕ). behind (read_record s)) stands ∙ sym (from_record-next i page)
