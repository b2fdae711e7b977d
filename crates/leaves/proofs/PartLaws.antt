-- A writer's text of a part u of the page, where the part is known to be t: for any text of a part. Assumes nothing.
use Prim.Native.Nat.{ℕ, ◌+◌, ◌≤◌}
use mathlib.Core.List.{List}
use mathlib.Core.Path.{◌≡◌}
use lib.ListN.{length}
use Rattle.base.specs.Splice.{Wrote}

module _ {A : Type 0} (text : A → List ℕ) {u t : A} (same : u ≡ t) where
  pub part-fits : (at k : ℕ) → at + length (text t) ≤ k → at + length (text u) ≤ k
  part-fits at k h = rw same h

  pub part-wrote : {before after : List ℕ} {at next : ℕ} → Wrote before after at (text u) next → Wrote before after at (text t) next
  part-wrote w = rw (← same) w
