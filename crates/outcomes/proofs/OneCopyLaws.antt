-- One copy for one query, of the bytes that `copy` reports: those of two accepted pages are equal when, and only when,
-- the pages have one tree, whatever the buffers held and however long they are. Assumes nothing.
use Prim.Native.Nat.{ℕ}
use mathlib.Core.Path.{◌≡◌, sym, ◌∙◌}
use mathlib.Core.List.{List}
use mathlib.Core.Logic.{◌↔◌}
use lib.ListN.{take}
use Rattle.records.specs.Kind.{Kind}
use Rattle.records.specs.Outcome.{answer}
use Rattle.ast.specs.Expr.{Expr}
use Rattle.ast.specs.Walk.{accepted}
use Rattle.ast.specs.CheckPage.{check_page}
use Rattle.copy.proofs.TreeLaws.{one-copy}
use Rattle.outcomes.specs.Calls.{copy}
use Rattle.outcomes.proofs.CopyAgainLaws.{copy_writes}

-- document 02, No. 14: "two accepted pages have equal copies when, and only when, their checked trees and pattern flags
-- agree in every field"
pub copies-same : (p q buffer other : List ℕ) (j k : Kind) (m n : ℕ)
    → (copy p buffer).outcome ≡ answer j m → (copy q other).outcome ≡ answer k n
    → (e f : Expr) (r s : ℕ) → check_page p ≡ accepted e r → check_page q ≡ accepted f s
    → (take m (copy p buffer).buffer ≡ take n (copy q other).buffer) ↔ (e ≡ f)
copies-same p q buffer other j k m n one two e f r s h g =
    let first = copy_writes p buffer j m one in
    let second = copy_writes q other k n two in
    let both = one-copy p q e f r s h g in
    (λ same. both.0 (sym first ∙ same ∙ second), λ same. first ∙ both.1 same ∙ sym second)
