-- The exit of a `?`: the function answers the error that the call before gave, and what it says of a value it says of
-- none.
use Rattle.std.specs.Prelude.{◌≡◌, Result, Err, IsErr, IsErrAnd, IfOk}
use Rattle.std.proofs.Common.{◌∙◌, ap}
use Rattle.std.proofs.lemmas.Result.{err_from_is_err_and, IfOk-from_err}

module _ {T E : Type 0} (r : Result T E) where
  pub exit-is : (e : E) → IsErr r × IsErrAnd r (λ y. y ≡ e) → r ≡ Err e
  exit-is e h = let p = err_from_is_err_and r h.1 in p.1 ∙ ap (λ (y : E). Err y) p.2

  pub exit-says : (P : T → Type 0) (Q : E → Type 0) → IsErr r × IsErrAnd r Q → IfOk r P
  exit-says P Q h = IfOk-from_err r P h.0
