-- What holds of each element of a list, and of each of the first ones. Assumes nothing.
use Prim.Native.Nat.{ℕ, zero, suc}
use mathlib.Core.Path.{◌≡◌, refl, sym, subst}
use mathlib.Core.List.{List, [], ◌∷◌}
use native.Mathlib.Omega.{arith}
use lib.ListN.{take, drop}
use Rattle.page.specs.Allowed.{Each}

pub each_all : {A : Type 0} (P : A → Type 0) (xs : List A) → ((x : A) → P x) → Each P xs
each_all P [] h = tt
each_all P (x ∷ xs) h = (h x, each_all P xs h)

pub each_map : {A : Type 0} (P Q : A → Type 0) (xs : List A) → ((x : A) → P x → Q x) → Each P xs → Each Q xs
each_map P Q [] f h = tt
each_map P Q (x ∷ xs) f h = (f x h.0, each_map P Q xs f h.1)

-- from what holds at every place
pub each-places : {A : Type 0} (P : A → Type 0) (xs : List A)
    → ((k : ℕ) (x : A) (later : List A) → drop k xs ≡ x ∷ later → P x) → Each P xs
each-places P [] h = tt
each-places P (x ∷ xs) h = (h 0 x xs refl, each-places P xs (λ k. h (suc k)))

pub each_take : {A : Type 0} (P : A → Type 0) (k : ℕ) (xs : List A) → Each P xs → Each P (take k xs)
each_take P zero xs h = tt
each_take P (suc k) [] h = tt
each_take P (suc k) (x ∷ xs) h = (h.0, each_take P k xs h.1)

-- one element more
pub each-one : {A : Type 0} (P : A → Type 0) (xs : List A) (k : ℕ) {x : A} {later : List A} → drop k xs ≡ x ∷ later → Each P (take k xs) → P x
    → Each P (take (suc k) xs)
each-one P [] zero e h p = tt
each-one P [] (suc k) e h p = tt
each-one P (y ∷ xs) zero {x} e h p = let same : y ≡ x = cc in (subst P (sym same) p, tt)
each-one P (y ∷ xs) (suc k) e h p = (h.0, each-one P xs k e h.1 p)

-- and of the last of them
pub each_last : {A : Type 0} (P : A → Type 0) (xs : List A) (k : ℕ) {x : A} {later : List A} → drop k xs ≡ x ∷ later → Each P (take (suc k) xs) → P x
each_last P [] zero e h = absurd (let z : ◌≡◌ {A = ℕ} 0 1 = cc in omega arith)
each_last P [] (suc k) e h = absurd (let z : ◌≡◌ {A = ℕ} 0 1 = cc in omega arith)
each_last P (y ∷ xs) zero {x} e h = let same : y ≡ x = cc in subst P same h.0
each_last P (y ∷ xs) (suc k) e h = each_last P xs k e h.1
