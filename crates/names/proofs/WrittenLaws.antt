-- The three ends of a call that writes a name: no name, too short a buffer, written. Assumes nothing.
use Prim.Native.Nat.{ℕ, ◌+◌, ◌*◌, ◌^◌, ◌≤◌, ◌<◌}
use mathlib.Core.Path.{◌≡◌, refl, ap, ◌∙◌, subst}
use mathlib.Core.List.{List, []}
use native.Mathlib.Nat.{zero-add}
use native.Mathlib.Omega.{arith}
use borrow.Author.Tests.{le-leb, lt-leb}
use lib.ListN.{length}
use Rattle.base.specs.Splice.{Wrote}
use Rattle.base.proofs.SpliceLaws.{splice-start}
use Rattle.names.specs.Written.{name_written, DoesName}

-- the same name in other words
pub does-as : {name same after : List ℕ} {word : ℕ} (buffer : List ℕ) → name ≡ same
    → DoesName (name_written name buffer) word after → DoesName (name_written same buffer) word after
does-as {after = after} {word = word} buffer e = subst (λ (l : List ℕ). DoesName (name_written l buffer) word after) e

module _ (name buffer : List ℕ) where
  pub does-nothing : name ≡ [] → DoesName (name_written name buffer) 0 buffer
  does-nothing e = rw (e, le-leb 0 (length buffer) (omega arith)) (record { answers = refl; leaves = refl })

  pub does-short : length buffer < length name → DoesName (name_written name buffer) (2 ^ 63 + 5 * 65536) buffer
  does-short h = rw (lt-leb (length name) (length buffer) h) (record { answers = refl; leaves = refl })

  pub does-write : {next : ℕ} {after : List ℕ} → length name ≤ length buffer → Wrote buffer after 0 name next
      → DoesName (name_written name buffer) (next * 4) after
  does-write h w =
      rw (le-leb (length name) (length buffer) h)
      (record { answers = ap (λ (n : ℕ). n * 4) (w.ends ∙ zero-add (length name)); leaves = w.holds ∙ splice-start buffer name })
