-- The part of 19's label, by the outcome of check: empty where the page is accepted, or longer than a page may be.
-- Assumes nothing.
use Prim.Native.Nat.{ℕ, ◌<◌}
use mathlib.Core.Path.{◌≡◌, refl, sym, ap, subst}
use mathlib.Core.List.{List}
use lib.ListN.{length}
use Rattle.records.specs.Kind.{Kind}
use Rattle.records.specs.Outcome.{Outcome, answer}
use Rattle.ast.specs.CheckPage.{outcome_of, check}
use Rattle.ast.specs.Part.{empty_part, label_part}
use Rattle.walk.proofs.ProgressLaws.{too_long}

pub part-accepted : (page : List ℕ) {k : Kind} {n : ℕ} → answer k n ≡ check page → label_part page (check page) ≡ empty_part
unfolding label_part
part-accepted page e = subst (λ (o : Outcome). label_part page o ≡ empty_part) e refl

pub part-long : (page : List ℕ) → 8192 < length page → label_part page (check page) ≡ empty_part
unfolding label_part
part-long page h = subst (λ (o : Outcome). label_part page o ≡ empty_part) (sym (ap outcome_of (too_long page h))) refl
