-- Demand 3 as two theorems, for every byte string, every type of contents and every sequence of contents: the words of
-- the demand stand above each, and each hypothesis and conclusion is one line. Both are read off `kinds_right_with` and
-- `work_page-left`; the added check's are in `OperatorsDemand3`. Assumes nothing.
use Prim.Native.Nat.{ℕ}
use mathlib.Core.Path.{◌≡◌, refl, subst}
use mathlib.Core.Bool.{Bool}
use mathlib.Core.List.{List, [], ◌∷◌}
use mathlib.Core.Option.{Option}
use lib.ListN.{length, take}
use lib.Dec.{T, eqb}
use Rattle.page.specs.Bytes.{any}
use Rattle.records.specs.Kind.{Kind}
use Rattle.records.specs.Literal.{Literal}
use Rattle.records.specs.Record.{Record, end, Records, read_page}
use Rattle.records.specs.Outcome.{Outcome, answer, refusal}
use Rattle.ast.specs.CheckPage.{check}
use Rattle.working_out.specs.WorkingOut.{Value, Finish, left, ended, WorkedOut, is_set_aside, work_page}
use Rattle.working_out.specs.Demand3.{kind_refusals, nothing_set_aside, all_as_asked, OneLeft, MeetsFirst, KindsRightWith, Demand3}
use Rattle.agreement.specs.CheckContract.{CheckContract}
use Rattle.agreement.proofs.StepLaws.{work_page-left}
use Rattle.agreement.proofs.KindsRight.{kinds_right_with}

-- "Take any byte string as a page and work it out as document 01 says, whatever contents its values have."
abbrev pub work_out : {C : Type 0} → (Record → List Kind → List (Option Literal) → Bool) → (ℕ → C) → List ℕ → WorkedOut C
work_out aside contents page = work_page aside contents (read_page page)

-- "the working-out runs to the page's end": every record of the page is a step, and after the last one the page ends
module _ {C : Type 0} where
  abbrev pub RunsToEnd : Records → WorkedOut C → Type 0
  RunsToEnd page worked = (page.ending ≡ end) × (length worked.steps ≡ length page.records)

  -- "and exactly one value is left, of the reported kind"
  abbrev pub EndsWithOne : Kind → Finish C → Type 0
  EndsWithOne k finish = (value : Value C) × (finish ≡ left (value ∷ [])) × (value.kind ≡ k)

  one_left : (k : Kind) (finish : Finish C) → OneLeft k finish → EndsWithOne k finish
  one_left k (left []) h = absurd h
  one_left k (left (v ∷ [])) h = (v, refl, h)
  one_left k (left (v ∷ w ∷ vs)) h = absurd h
  one_left k ended h = absurd h

-- any outcome of which the demand holds, whatever is set aside and whichever refusals are for kinds
module _ {C : Type 0} (aside : Record → List Kind → List (Option Literal) → Bool) (for_kinds : List ℕ) (contents : ℕ → C) (page : List ℕ)
    (outcome : Outcome) (right : KindsRightWith aside for_kinds contents page outcome) where
  says_of : (told : Outcome) → outcome ≡ told → KindsRightWith aside for_kinds contents page told
  says_of told e = subst (λ (o : Outcome). KindsRightWith aside for_kinds contents page o) e right

  pub accepted-right : (kind : Kind) (written : ℕ) → outcome ≡ answer kind written
      → T (nothing_set_aside (work_out aside contents page).steps)
      → RunsToEnd (read_page page) (work_out aside contents page)
      × T (all_as_asked (work_out aside contents page).steps)
      × EndsWithOne kind (work_out aside contents page).finish
  accepted-right kind written e none-aside =
      let clean = says_of (answer kind written) e none-aside in
      let one = one_left kind (work_out aside contents page).finish clean.1 in
      (work_page-left aside contents (read_page page) (one.0 ∷ []) one.1, clean.0, one)

  pub refused-right : (number named : ℕ) → outcome ≡ refusal number named
      → T (any (eqb number) for_kinds)
      → T (nothing_set_aside (take named (work_out aside contents page).steps))
      → MeetsFirst named (work_out aside contents page).steps
  refused-right number named e = says_of (refusal number named) e

module _ {C : Type 0} (contents : ℕ → C) (page : List ℕ) where
  -- "Where check accepts a page in which no call falls under the exp or logarithm literal exception and each limitk or
  -- limit_ratio has a scalar first argument, the working-out runs to the page's end, no record meets an operand kind
  -- that the documented operators or carried signatures forbid, and exactly one value is left, of the reported kind."
  pub check-accepted : (kind : Kind) (written : ℕ) → check page ≡ answer kind written
      → T (nothing_set_aside (work_out is_set_aside contents page).steps)
      → RunsToEnd (read_page page) (work_out is_set_aside contents page)
      × T (all_as_asked (work_out is_set_aside contents page).steps)
      × EndsWithOne kind (work_out is_set_aside contents page).finish
  check-accepted = accepted-right is_set_aside kind_refusals contents page (check page) (kinds_right_with contents page)

  -- "Where check refuses a page for kinds, and the same two things are true of the records before the one named, that
  -- record is the first that meets one."
  pub check-refused_for_kinds : (number named : ℕ) → check page ≡ refusal number named
      → T (any (eqb number) kind_refusals)
      → T (nothing_set_aside (take named (work_out is_set_aside contents page).steps))
      → MeetsFirst named (work_out is_set_aside contents page).steps
  check-refused_for_kinds = refused-right is_set_aside kind_refusals contents page (check page) (kinds_right_with contents page)

-- as a contract cites it
pub check-demand3 : (page : List ℕ) → Demand3 page (check page)
check-demand3 page contents = kinds_right_with contents page

pub check-contract : (page : List ℕ) → CheckContract page (check page)
check-contract page = record { is_check = refl; demand3 = check-demand3 page }
