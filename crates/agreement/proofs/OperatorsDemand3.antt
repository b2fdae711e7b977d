-- Demand 3 of the check that follows the operators document, as two theorems like check's (`Demand3`) without the
-- limitk condition, and its contract. Read off `limits_right_with`. Assumes nothing.
use Prim.Native.Nat.{ℕ}
use mathlib.Core.Path.{◌≡◌, refl}
use mathlib.Core.List.{List}
use lib.ListN.{take}
use lib.Dec.{T, eqb}
use Rattle.page.specs.Bytes.{any}
use Rattle.records.specs.Kind.{Kind}
use Rattle.records.specs.Record.{read_page}
use Rattle.records.specs.Outcome.{answer, refusal}
use Rattle.ast.specs.Limits.{check_operators}
use Rattle.working_out.specs.WorkingOut.{is_set_aside_literal}
use Rattle.working_out.specs.Demand3.{documented_refusals, nothing_set_aside, all_as_asked, MeetsFirst, DocumentedDemand3}
use Rattle.agreement.specs.LimitContract.{LimitContract}
use Rattle.agreement.proofs.LimitsRight.{limits_right_with}
use Rattle.agreement.proofs.Demand3.{work_out, RunsToEnd, EndsWithOne, accepted-right, refused-right}

module _ {C : Type 0} (contents : ℕ → C) (page : List ℕ) where
  -- where it accepts a page in which no call falls under the exp or logarithm literal exception, "the working-out runs
  -- to the page's end, no record meets an operand kind that the documented operators or carried signatures forbid, and
  -- exactly one value is left, of the reported kind"
  pub operators-accepted : (kind : Kind) (written : ℕ) → check_operators page ≡ answer kind written
      → T (nothing_set_aside (work_out is_set_aside_literal contents page).steps)
      → RunsToEnd (read_page page) (work_out is_set_aside_literal contents page)
      × T (all_as_asked (work_out is_set_aside_literal contents page).steps)
      × EndsWithOne kind (work_out is_set_aside_literal contents page).finish
  operators-accepted = accepted-right is_set_aside_literal documented_refusals contents page (check_operators page) (limits_right_with contents page)

  -- where it refuses a page for kinds, 42 among them, and the same is true of the records before the one named, "that
  -- record is the first that meets one"
  pub operators-refused_for_kinds : (number named : ℕ) → check_operators page ≡ refusal number named
      → T (any (eqb number) documented_refusals)
      → T (nothing_set_aside (take named (work_out is_set_aside_literal contents page).steps))
      → MeetsFirst named (work_out is_set_aside_literal contents page).steps
  operators-refused_for_kinds = refused-right is_set_aside_literal documented_refusals contents page (check_operators page) (limits_right_with contents page)

-- as a contract cites it
pub operators-demand3 : (page : List ℕ) → DocumentedDemand3 page (check_operators page)
operators-demand3 page contents = limits_right_with contents page

pub limit-contract : (page : List ℕ) → LimitContract page (check_operators page)
limit-contract page = record { is_check_operators = refl; demand3 = operators-demand3 page }
