-- The three ends of a call that writes, for any text of the tree: refused by the check, too short a buffer, written.
-- Assumes nothing.
use Prim.Native.Nat.{ℕ}
use mathlib.Core.Path.{◌≡◌, refl, ap, ◌∙◌}
use mathlib.Core.Bool.{true, false}
use mathlib.Core.List.{List}
use native.Mathlib.Nat.{zero-add}
use lib.ListN.{length}
use lib.Dec.{leb}
use Rattle.base.specs.Splice.{Wrote}
use Rattle.base.proofs.SpliceLaws.{splice-start}
use Rattle.records.specs.Kind.{Kind}
use Rattle.records.specs.Outcome.{answer, refusal}
use Rattle.ast.specs.Expr.{Expr, value_type}
use Rattle.ast.specs.Walk.{Checked, accepted, refused_at}
use Rattle.outcomes.specs.Calls.{too_short, writing, Does}

module _ (text_of : Expr → List ℕ) {checked : Checked Expr} {buffer : List ℕ} where
  pub does-refused : {k i : ℕ} → checked ≡ refused_at k i → Does (writing text_of checked buffer) (refusal k i) buffer
  does-refused e = rw e (record { answers = refl; leaves = refl })

  module _ {e : Expr} {n : ℕ} (is : checked ≡ accepted e n) where
    pub does-short : leb (length (text_of e)) (length buffer) ≡ false → Does (writing text_of checked buffer) (refusal too_short n) buffer
    does-short h = rw (is, h) (record { answers = refl; leaves = refl })

    pub does-write : {k : Kind} {r : ℕ} {after : List ℕ} → value_type e ≡ k → leb (length (text_of e)) (length buffer) ≡ true → Wrote buffer after 0 (text_of e) r
        → Does (writing text_of checked buffer) (answer k r) after
    does-write kind h w =
        rw (is, h, ← kind)
        (record { answers = ap (answer (value_type e)) (w.ends ∙ zero-add (length (text_of e))); leaves = w.holds ∙ splice-start buffer (text_of e) })
