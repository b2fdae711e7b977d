-- Bytes that begin with a text. Assumes nothing.
use Prim.Native.Nat.{ℕ}
use mathlib.Core.Path.{◌≡◌, refl, ap, ap₂}
use mathlib.Core.Bool.{Bool, true, ◌&&◌}
use mathlib.Core.List.{List, [], ◌∷◌, ◌++◌}
use lib.ListN.{length, take, drop}
use lib.Pointwise.{pointwise}
use Rattle.std.specs.Prelude.{nat_eq}
use lib.Dec.{T, eqb, eqb→eq}
use borrow.Author.Tests.{eq-eqb}
use Rattle.page.proofs.NumberLaws.{left-of, right_of}
use Rattle.functions.specs.Answers.{begins_with}

-- std's `starts_with` is this
pub begins-std : (text bytes : List ℕ) → pointwise nat_eq text (take (length text) bytes) ≡ begins_with text bytes
begins-std [] bytes = refl
begins-std (a ∷ text) [] = refl
begins-std (a ∷ text) (b ∷ bytes) = ap (λ (x : Bool). eqb a b && x) (begins-std text bytes)

pub begins-self : (text rest : List ℕ) → begins_with text (text ++ rest) ≡ true
begins-self [] rest = refl
begins-self (a ∷ text) rest = rw (eq-eqb a a refl) (begins-self text rest)

pub begins-split : (text bytes : List ℕ) → T (begins_with text bytes) → text ++ drop (length text) bytes ≡ bytes
begins-split [] bytes h = refl
begins-split (a ∷ text) [] h = absurd h
begins-split (a ∷ text) (b ∷ bytes) h =
    ap₂ {C = List ℕ} (λ c l. c ∷ l) (eqb→eq a b (left-of (eqb a b) (begins_with text bytes) h))
    (begins-split text bytes (right_of (eqb a b) (begins_with text bytes) h))
