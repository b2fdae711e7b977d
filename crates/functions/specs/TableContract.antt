-- The contract of the check with the table: its outcome is the definition's, and demand 3 of the table's signatures
-- (document 02, No. 2: "for a page that passes, what was said of carried signatures holds of the table's, the literal
-- exception as before"). The same of the check with any table, of which No. 13 has two more.
use Rattle.std.specs.Prelude.{ℕ, ◌≡◌, List}
use Rattle.records.specs.Record.{read_page}
use Rattle.records.specs.Outcome.{Outcome, answer, refusal}
use Rattle.working_out.specs.WorkingOut.{work_page, is_set_aside}
use Rattle.working_out.specs.Demand3.{kind_refusals, Says}
use Rattle.records.specs.Signature.{Function}
use Rattle.functions.specs.Functions.{functions}
use Rattle.functions.specs.Lookup.{check_table, check_table_of, signed_records}

-- the working-out is fed the records of the page with the table's signature in each call
abbrev pub TableDemand3Of : List Function → List ℕ → Outcome → Type 0
TableDemand3Of table page (answer k n) =
    (contents : ℕ → List ℕ) → Says kind_refusals (work_page is_set_aside contents (signed_records table (read_page page))) (answer k n)
TableDemand3Of table page (refusal n i) = Unit {0}

pub record TableContractOf (table : List Function) (page : List ℕ) (outcome : Outcome) : Type 0 where
  pub is_check_table : outcome ≡ check_table_of table page
  pub demand3 : TableDemand3Of table page outcome

-- of the repository's table
abbrev pub TableDemand3 : List ℕ → Outcome → Type 0
TableDemand3 page (answer k n) =
    (contents : ℕ → List ℕ) → Says kind_refusals (work_page is_set_aside contents (signed_records functions (read_page page))) (answer k n)
TableDemand3 page (refusal n i) = Unit {0}

pub record TableContract (page : List ℕ) (outcome : Outcome) : Type 0 where
  pub is_check_table : outcome ≡ check_table page
  pub demand3 : TableDemand3 page outcome
