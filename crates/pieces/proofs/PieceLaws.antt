-- Lengths and runs of texts that stand one after the other.
use Prim.Native.Nat.{ℕ, ◌+◌, ◌≤◌, min}
use native.Mathlib.Omega.{arith}
use mathlib.Core.Path.{◌≡◌}
use mathlib.Core.List.{List, [], ◌∷◌, ◌++◌, append_assoc, append-nil}
use lib.ListN.{length, length-append}
use Rattle.base.specs.Splice.{join}
use Rattle.base.proofs.SpliceLaws.{Run, start}
use Rattle.page.specs.Bytes.{bytes}

pub sum-three : (a b c : List ℕ) (cap x y z r : ℕ) → x ≡ min (length a) cap → y ≡ length b → z ≡ length c
    → r ≡ min (x + (y + z)) cap → r ≡ min (length (a ++ (b ++ c))) cap
sum-three a b c cap x y z r p q s e = omega (arith, length-append a (b ++ c), length-append b c)

pub bracketed-len : (d : List ℕ) → length (bytes "[" ++ d ++ bytes "]") ≡ length d + 2
bracketed-len d = omega (arith, length-append (bytes "[" ++ d) (bytes "]"))

pub suffix_len : (d s t : List ℕ) → length (bytes "[" ++ d ++ bytes ":" ++ s ++ bytes "]" ++ t) ≡ length d + length s + length t + 3
suffix_len d s t =
    omega (
      arith,
      length-append (bytes "[" ++ d ++ bytes ":" ++ s ++ bytes "]") t,
      length-append (bytes "[" ++ d ++ bytes ":" ++ s) (bytes "]"),
      length-append (bytes "[" ++ d ++ bytes ":") s,
      length-append (bytes "[" ++ d) (bytes ":"),
    )

six : (a b c d e f : List ℕ) → a ++ b ++ c ++ d ++ e ++ f ≡ join (a ∷ b ∷ c ∷ d ∷ e ∷ f ∷ [])
unfolding join
six a b c d e f = simp (append_assoc, append-nil)

pub run-suffix : (d s t : List ℕ) (o : List ℕ) (at : ℕ) → at + length (bytes "[" ++ d ++ bytes ":" ++ s ++ bytes "]" ++ t) ≤ length o
    → Run o o at (bytes "[" ++ d ++ bytes ":" ++ s ++ bytes "]" ++ t) (bytes "[" ∷ d ∷ bytes ":" ∷ s ∷ bytes "]" ∷ t ∷ []) at
run-suffix d s t o at h = start h (six (bytes "[") d (bytes ":") s (bytes "]") t)
