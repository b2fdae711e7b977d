-- How many bytes a field takes at least: a number one, a text its own and one for its length. Assumes nothing.
use Prim.Native.Nat.{ℕ, zero, suc, ◌+◌, ◌≤◌}
use mathlib.Core.Bool.{Bool, true, false}
use mathlib.Core.List.{List, [], ◌∷◌}
use native.Mathlib.Omega.{arith}
use lib.ListN.{length, length-append}
use lib.Dec.{ltb}
use Rattle.page.specs.Bytes.{pick}
use Rattle.page.specs.Number.{write_number}
use Rattle.page.specs.Text.{Text, write_text}

write_number-some : (n : ℕ) → 1 ≤ length (write_number n)
write_number-some zero = omega arith
write_number-some (suc n) = by (ltb (suc n) 128) _ _ _
  where
    by : (b : Bool) (x y : ℕ) (more : List ℕ) → 1 ≤ length (pick b (x ∷ []) (y ∷ more))
    by true x y more = omega arith
    by false x y more = omega arith

pub write_text-some : (t : Text) → 1 + length t ≤ length (write_text t)
write_text-some t = omega (arith, length-append (write_number (length t)) t, write_number-some (length t))
