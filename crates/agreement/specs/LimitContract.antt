-- The contract of the check that follows the operators document: its outcome is the definition's, and demand 3 without
-- the limitk condition (document 02, No. 8). (The second alone is met by a checker that refuses every page with 2.)
use Rattle.std.specs.Prelude.{ℕ, ◌≡◌, List}
use Rattle.records.specs.Outcome.{Outcome}
use Rattle.ast.specs.Limits.{check_operators}
use Rattle.working_out.specs.Demand3.{DocumentedDemand3}

pub record LimitContract (page : List ℕ) (outcome : Outcome) : Type 0 where
  pub is_check_operators : outcome ≡ check_operators page
  pub demand3 : DocumentedDemand3 page outcome
