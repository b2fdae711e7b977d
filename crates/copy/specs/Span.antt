-- One record of a page by its place: what the functions ask that go over a record where it stands.
use Rattle.std.specs.Prelude.{ℕ, ◌+◌, ◌-◌, ◌≤◌, ◌≡◌, true, List, [], ◌∷◌, ◌++◌, length, take, drop, get_or, T, ltb}
use Rattle.base.specs.Splice.{join}
use Rattle.page.specs.Bytes.{all}
use Rattle.page.specs.Read.{got}
use Rattle.records.specs.Code.{is_set_operator}
use Rattle.records.specs.Record.{Record, read_record}
use Rattle.copy.specs.RecordCopy.{record_copy, set_cardinality}

-- a record that reaches from `start` to `next`
pub record Spans (page : List ℕ) (start next : ℕ) : Type 0 where
  pub bytes : T (all (λ b. ltb b 256) page)
  pub item : Record
  pub reads : got item (drop next page) ≡ read_record (drop start page)
  pub inside : next ≤ length page

-- such a record, and a buffer with room for its copy from `at` on
pub record Placing (page out : List ℕ) (start next at : ℕ) : Type 0 where
  pub span : Spans page start next
  pub room : at + length (record_copy (drop start page)) ≤ length out

-- the bytes of two records, one right behind the other, the second one first
abbrev pub second_first : List ℕ → ℕ → ℕ → ℕ → List ℕ
second_first page start next after = take (after - next) (drop next page) ++ take (next - start) (drop start page)

-- such records, and a buffer with room for both from `at` on
pub record PlacingPair (page out : List ℕ) (start next after at : ℕ) : Type 0 where
  pub span : Spans page start next
  pub behind : Spans page next after
  pub room : at + length (second_first page start next after) ≤ length out

-- such a record that is a set operator
pub record SetOperator (page : List ℕ) (start next : ℕ) : Type 0 where
  pub span : Spans page start next
  pub kind : get_or page start 0 ≡ 9
  pub set : is_set_operator (get_or page (start + 1) 0) ≡ true

-- one without a modifier, wherever it ends, and a buffer with room for its copy
pub record AbsentFrom (page out : List ℕ) (start at : ℕ) : Type 0 where
  pub next : ℕ
  pub placing : Placing page out start next at
  pub operator : SetOperator page start next
  pub absent : get_or page (start + 2) 0 ≡ 0

-- a set operator's modifier is present: after the code stands no 0
abbrev pub IsPresent : List ℕ → ℕ → Type 0
IsPresent page start = get_or page (start + 2) 0 ≡ 0 → ⊥

-- its cardinality stands at `cut`, and the form of that is all that changes
pub record CardinalityAt (page : List ℕ) (start next cut : ℕ) : Type 0 where
  pub behind : start ≤ cut
  pub inside : cut + 1 ≤ next
  pub copy : record_copy (drop start page)
      ≡ join
      (take (cut - start) (drop start page) ∷ (set_cardinality (get_or page cut 0) ∷ [])
      ∷ take (next - (cut + 1)) (drop (cut + 1) page) ∷ [])
