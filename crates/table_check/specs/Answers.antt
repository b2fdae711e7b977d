-- What the answers of the check with a table mean: of the functions that the lent table holds.
use Rattle.std.specs.Prelude.{ℕ, ◌≡◌, List, take, drop, Result, Ok, Err}
use Rattle.std.proofs.Math.Option.{none}
use Rattle.page.specs.Allowed.{Each}
use Rattle.page.specs.Read.{got}
use Rattle.records.specs.Record.{Record, read_record, read_page}
use Rattle.records.specs.Signature.{Function}
use Rattle.records.specs.Outcome.{Outcome, refusal}
use Rattle.ast.specs.Rules.{check_by}
use Rattle.ast.specs.Reached.{FirstAsked}
use Rattle.functions.specs.Answers.{Holds}
use Rattle.functions.specs.declared.form.Table.{Table}
use Rattle.functions.specs.Lookup.{signature_fault, with_table}
use Rattle.rules.specs.Answers.{refusal_number}
use Rattle.rules.specs.declared.refusal.Refusal.{Refusal}
use Rattle.judge.specs.Call.{finding_meant}
use Rattle.walk.specs.declared.answer.Refused.{Refused}

-- the fault of the record at a position
abbrev pub FaultOf : List ℕ → ℕ → Table → Result (Unit {0}) Refusal → Type 0
FaultOf page at lent r =
    (table : List Function) → Holds lent table → (item : Record) (rest : List ℕ)
    → got item rest ≡ read_record (drop at page) → finding_meant r ≡ signature_fault table item

-- the first fault among so many records: none has one, or this is the first
abbrev pub Finds : List Function → List ℕ → ℕ → Result (Unit {0}) Refused → Type 0
Finds table page count (Ok x) = Each (λ r. signature_fault table r ≡ none) (take count (read_page page).records)
Finds table page count (Err r) = FirstAsked (signature_fault table) (read_page page).records count (refusal_number r.refusal) r.index

abbrev pub FindsFirst : List ℕ → ℕ → Table → Result (Unit {0}) Refused → Type 0
FindsFirst page count lent r = (table : List Function) → Holds lent table → Finds table page count r

-- the outcome: that of the first fault, else the one given
abbrev pub fault_or : Result (Unit {0}) Refused → Outcome → Outcome
fault_or (Ok x) own = own
fault_or (Err r) own = refusal (refusal_number r.refusal) r.index

pub record FaultFirst (page : List ℕ) (count : ℕ) (lent : Table) (own outcome : Outcome) : Type 0 where
  pub found : Result (Unit {0}) Refused
  pub finds : FindsFirst page count lent found
  pub is : outcome ≡ fault_or found own

-- the check with the table
abbrev pub ChecksWith : List ℕ → Table → Outcome → Type 0
ChecksWith page lent outcome = (table : List Function) → Holds lent table → outcome ≡ check_by (with_table table) page
