-- The client's demand 1, as laws of the calls (proved in proofs/CallsLaws): what a call does to the lent buffer, and
-- which outcomes it can have.
use Rattle.std.specs.Prelude.{ℕ, ◌≤◌, ◌≡◌, List, length, drop}
use Rattle.records.specs.Outcome.{Outcome, answer, refusal}
use Rattle.ast.specs.CheckPage.{check}
use Rattle.ast.specs.Table.{is_in_table, InTable}
use Rattle.outcomes.specs.Calls.{Called, too_short}

-- "a refusal changes no output byte; an accepted call changes only the bytes it reports": the buffer before and after
abbrev pub Keeps : List ℕ → Outcome → List ℕ → Type 0
Keeps before (refusal n i) after = after ≡ before
Keeps before (answer k n) after = (length after ≡ length before) × (n ≤ length before) × (drop n after ≡ drop n before)

-- the outcome of check, and that of another call on the same page: the same kind or the same refusal, but for 5 of an
-- accepted page
abbrev pub Agrees : Outcome → Outcome → Type 0
Agrees (answer k n) (answer j m) = k ≡ j
Agrees (answer k n) (refusal m i) = m ≡ too_short
Agrees (refusal n i) (answer k m) = ⊥
Agrees (refusal n i) (refusal m j) = (n ≡ m) × (i ≡ j)

-- a call that writes to a buffer
pub record Demand1 (page : List ℕ) (call : List ℕ → List ℕ → Called) : Type 0 where
  pub keeps : (buffer : List ℕ) → Keeps buffer (call page buffer).outcome (call page buffer).buffer
  pub agrees : (buffer : List ℕ) → Agrees (check page) (call page buffer).outcome
  pub in_table : (buffer : List ℕ) → InTable is_in_table page (call page buffer).outcome
