-- A check beside document 01's (document 02, No. 8: "Keep that check, and add one beside it"): pages with the outcomes
-- of both.
use Rattle.std.specs.Prelude.{ℕ, Bool, false, ◌&&◌, not, List, eqb}
use Prim.Native.String.{String}
use Rattle.page.specs.Bytes.{hex}
use Rattle.records.specs.Kind.{vector, equal_kind}
use Rattle.records.specs.Outcome.{Outcome, answer, refusal}
use Rattle.ast.specs.CheckPage.{check}

abbrev pub is_same : Outcome → Outcome → Bool
is_same (answer j m) (answer k n) = equal_kind j k && eqb m n
is_same (answer j m) (refusal n i) = false
is_same (refusal m j) (answer k n) = false
is_same (refusal m j) (refusal n i) = eqb m n && eqb j i

pub record Example : Type 0 where
  pub page : List ℕ
  pub own : Outcome
  pub added : Outcome

-- a page, the outcome of document 01's check, that of the one beside it
abbrev pub row : String → Outcome → Outcome → Example
row p a b = record { page = hex p; own = a; added = b }

module _ (beside : List ℕ → Outcome) where
  abbrev pub holds : Example → Bool
  holds e = is_same e.own (check e.page) && is_same e.added (beside e.page)

  -- a refusal's number, the record of its example, the example: document 01's check accepts it with kind vector
  abbrev pub is_added : ℕ → ℕ → List ℕ → Bool
  is_added n i page = is_same (refusal n i) (beside page) && is_same (answer vector 0) (check page)

  -- an answer that it does not give
  abbrev pub is_other : Outcome → String → Bool
  is_other o p = not (is_same o (beside (hex p)))
