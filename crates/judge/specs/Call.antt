-- What the answers on calls mean: the fault of an arity, and the kinds declared for the arguments that are left.
use Rattle.std.specs.Prelude.{ℕ, ◌+◌, List, [], ◌∷◌, ltb, Some, None, Result, Ok, Err}
use Rattle.std.specs.Prelude.{Option as Given}
use Rattle.std.proofs.Math.Option.{Option, none, some}
use Rattle.records.specs.Kind as spec
use Rattle.records.specs.Answers.{kind_of, kinds_on}
use Rattle.ast.specs.Refusal.{when, first_fault}
use Rattle.rules.specs.Answers.{refusal_number}
use Rattle.rules.specs.declared.refusal.Refusal.{Refusal}
use Rattle.judge.specs.declared.declared.Declared.{Declared}

-- the fault of an arity, if there is one
abbrev pub finding_meant : {A : Type 0} → Result A Refusal → Option ℕ
finding_meant (Ok x) = none
finding_meant (Err r) = some (refusal_number r)

-- at least so many arguments (27), and at most so many more (28)
abbrev pub bounded_fault : ℕ → ℕ → ℕ → Option ℕ
bounded_fault least extra count = first_fault (when (ltb count least) 27 ∷ when (ltb (least + extra) count) 28 ∷ [])

-- the kind declared for the next argument, and the kinds declared from there on: the last one repeats
-- (`check_args_match_types`)
pub data Next : Type 0 where
  undeclared : Next
  next : spec.Kind → List spec.Kind → Next

abbrev pub next_kind : List spec.Kind → Next
next_kind [] = undeclared
next_kind (k ∷ []) = next k (k ∷ [])
next_kind (k ∷ j ∷ ks) = next k (j ∷ ks)

abbrev pub declared_meant : List ℕ → Given Declared → Next
declared_meant page (Some d) = next (kind_of d.kind) (kinds_on page d.next d.left)
declared_meant page None = undeclared
