-- The client's demand 3, its words above each line. What is set aside and which refusals are for kinds are parameters:
-- the check that document 02, No. 8, adds has others (`DocumentedDemand3`).
use Rattle.std.specs.Prelude.{ℕ, ◌≡◌, Bool, not, List, [], ◌∷◌, take, drop, T, eqb}
use Rattle.std.proofs.Math.Option.{Option}
use Rattle.page.specs.Bytes.{all, any}
use Rattle.records.specs.Kind.{Kind}
use Rattle.records.specs.Literal.{Literal}
use Rattle.records.specs.Record.{Record, read_page}
use Rattle.records.specs.Outcome.{Outcome, answer, refusal}
use Rattle.working_out.specs.WorkingOut.{Step, Finish, left, ended, WorkedOut, work_page, is_set_aside, is_set_aside_literal}

-- document 01, 'Outcomes of a page': "Kind refusals are 6, 18, 20, 22, 25, 30, 31 and 32"
abbrev pub kind_refusals : List ℕ
kind_refusals = 6 ∷ 18 ∷ 20 ∷ 22 ∷ 25 ∷ 30 ∷ 31 ∷ 32 ∷ []

-- document 02, No. 8, of the added check: "and 42 is one of its kind refusals"
abbrev pub documented_refusals : List ℕ
documented_refusals = 42 ∷ kind_refusals

-- these steps have none of the things set aside
abbrev pub nothing_set_aside : List Step → Bool
nothing_set_aside = all (λ s. s.not_set_aside)

-- "no record meets an operand kind that the documented operators or carried signatures forbid"
abbrev pub all_as_asked : List Step → Bool
all_as_asked = all (λ s. s.as_asked)

-- "the working-out runs to the page's end .. and exactly one value is left, of the reported kind"
module _ {C : Type 0} where
  abbrev pub OneLeft : Kind → Finish C → Type 0
  OneLeft k (left []) = ⊥
  OneLeft k (left (v ∷ [])) = v.kind ≡ k
  OneLeft k (left (v ∷ w ∷ vs)) = ⊥
  OneLeft k ended = ⊥

  abbrev pub RunsClean : Kind → WorkedOut C → Type 0
  RunsClean k w = T (all_as_asked w.steps) × OneLeft k w.finish

-- "that record is the first that meets one": those before it do not, and it does
abbrev pub MeetsFirst : ℕ → List Step → Type 0
MeetsFirst i steps = T (all_as_asked (take i steps)) × T (any (λ s. not s.as_asked) (take 1 (drop i steps)))

-- which refusals are for kinds
module _ {C : Type 0} (for_kinds : List ℕ) where
  -- what an outcome says of a page worked out
  abbrev pub Says : WorkedOut C → Outcome → Type 0
  -- "Where check accepts a page in which [nothing is set aside], the working-out runs to the page's end, .."
  Says w (answer k n) = T (nothing_set_aside w.steps) → RunsClean k w
  -- "Where check refuses a page for kinds, and the same two things are true of the records before the one named, .."
  Says w (refusal n i) = T (any (eqb n) for_kinds) → T (nothing_set_aside (take i w.steps)) → MeetsFirst i w.steps

-- what is set aside, which refusals are for kinds, and one sequence of contents, of any type. Hypothesis and conclusion
-- speak of the same working-out
module _ {C : Type 0} (aside : Record → List Kind → List (Option Literal) → Bool) (for_kinds : List ℕ) (contents : ℕ → C) where
  abbrev pub KindsRightWith : List ℕ → Outcome → Type 0
  KindsRightWith page outcome = Says for_kinds (work_page aside contents (read_page page)) outcome

-- "Take any byte string as a page and work it out .., whatever contents its values have". (A claim over every TYPE of
-- contents would be in Type 1, and could not stand in a contract; the law `kinds_right_with` of crate `agreement` has
-- every type.)
abbrev pub Demand3 : List ℕ → Outcome → Type 0
Demand3 page outcome = (contents : ℕ → List ℕ) → KindsRightWith is_set_aside kind_refusals contents page outcome

-- document 02, No. 8: "For the added check demand 3 no longer needs the limitk condition, for accepted and refused
-- pages alike"
abbrev pub DocumentedDemand3 : List ℕ → Outcome → Type 0
DocumentedDemand3 page outcome = (contents : ℕ → List ℕ) → KindsRightWith is_set_aside_literal documented_refusals contents page outcome
