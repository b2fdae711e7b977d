-- The constants, the tests and the cast of the code on floats: what each is among the IEEE floats. Assumes nothing.
use Prim.Native.Nat.{ℕ, ◌≤◌, ◌^◌}
use mathlib.Core.Bool.{true, false, ◌||◌}
use mathlib.Core.Path.{◌≡◌, refl, sym, subst}
use native.Mathlib.Omega.{arith}
use lib.Dec.{T, le→leb}
use lib.IntN.{pos}
use lib.Ieee as Ieee
use lib.Ieee.{Float, nan, inf, fin, binary64}
use lib.Ieee.Compare.{differs_from_itself}
use Rattle.base.proofs.Cases.{by_flag}
use Rattle.records.specs.Float.{zero_float, is_infinite_float}

-- ## Constants

pub zero_is : Ieee.of_bits binary64 0 ≡ zero_float
unfolding Ieee.of_bits
zero_is = refl

pub nan_is : Ieee.div binary64 (Ieee.of_bits binary64 0) (Ieee.of_bits binary64 0) ≡ nan
unfolding Ieee.of_bits Ieee.div
nan_is = refl

pub inf-is : Ieee.div binary64 (Ieee.of_bits binary64 4607182418800017408) (Ieee.of_bits binary64 0) ≡ inf false
unfolding Ieee.of_bits Ieee.div
inf-is = refl

-- ## Tests

pub differs : (x : Float) → Ieee.ne x x ≡ Ieee.is_nan x
unfolding Ieee.ne Ieee.is_nan
differs nan = refl
differs (inf true) = refl
differs (inf false) = refl
differs (fin s m e) =
    by_flag (Ieee.ne (fin s m e) (fin s m e))
    (λ t. let same = differs_from_itself (fin s m e) (subst T (sym t) tt) in let z : ◌≡◌ {A = ℕ} 0 1 = cc in absurd (omega arith)) (λ t. t)

pub either-infinity : (x : Float) → (Ieee.eq x (inf false) || Ieee.eq x (Ieee.neg (inf false))) ≡ is_infinite_float x
unfolding Ieee.eq Ieee.neg
either-infinity nan = refl
either-infinity (inf true) = refl
either-infinity (inf false) = refl
either-infinity (fin s m e) = refl

-- ## The cast

pub castable : (n : ℕ) → n ≤ 2 ^ 53 → T (Ieee.in_float binary64 (pos n))
unfolding Ieee.in_float
castable n h = le→leb n (2 ^ 53) h
