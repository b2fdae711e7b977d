-- What the walk says, as the outcome of a check; and an outcome that is the definition's meets the contract of its check.
use Prim.Native.Nat.{ℕ}
use mathlib.Core.Path.{◌≡◌, sym, ap, subst, ◌∙◌}
use mathlib.Core.List.{List}
use Rattle.records.specs.Kind.{Kind}
use Rattle.records.specs.Outcome.{Outcome, answer, refusal}
use Rattle.ast.specs.Expr.{Expr}
use Rattle.ast.specs.Walk.{Checked}
use Rattle.ast.specs.CheckPage.{outcome_of}
use Rattle.ast.specs.Limits.{check_operators}
use Rattle.ast.specs.Rules.{plain, check_by}
use Rattle.ast.proofs.RulesLaws.{check_page_by-plain}
use Rattle.agreement.specs.CheckContract.{CheckContract}
use Rattle.agreement.specs.LimitContract.{LimitContract}
use Rattle.agreement.proofs.Demand3.{check-contract}
use Rattle.agreement.proofs.OperatorsDemand3.{limit-contract}
use Rattle.walk.specs.Answers.{Accepts, Refuses}

module _ {checked : Checked Expr} {page starts firsts : List ℕ} where
  pub accepted-outcome : {k : Kind} {n : ℕ} → Accepts checked page starts firsts k n → answer k 0 ≡ outcome_of checked
  accepted-outcome says = ap {B = Outcome} (λ k. answer k 0) (sym says.kind) ∙ sym (ap outcome_of says.tree)

  pub refused-outcome : {n i : ℕ} → Refuses checked page starts firsts n i → refusal n i ≡ outcome_of checked
  refused-outcome says = sym (ap outcome_of says.refuses)

-- ## The two checks

module _ (page : List ℕ) {outcome : Outcome} where
  -- without rules: document 01's
  pub check-meets : outcome ≡ check_by plain page → CheckContract page outcome
  check-meets e = subst (λ (o : Outcome). CheckContract page o) (sym (e ∙ ap outcome_of (check_page_by-plain page))) (check-contract page)

  pub operators-meets : outcome ≡ check_operators page → LimitContract page outcome
  operators-meets e = subst (λ (o : Outcome). LimitContract page o) (sym e) (limit-contract page)
