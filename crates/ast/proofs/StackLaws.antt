-- Laws of stacks: `map` past `take`, `drop` and `operands_of`.
use Prim.Native.Nat.{ℕ, zero, suc}
use mathlib.Core.Path.{◌≡◌, refl, ap, ◌∙◌}
use mathlib.Core.List.{List, [], ◌∷◌, map, reverse, reverse_aux}
use lib.ListN.{take, drop}
use Rattle.records.specs.Stack.{operands_of}

module _ {A B : Type 0} (f : A → B) where
  pub map-take : (n : ℕ) (l : List A) → map f (take n l) ≡ take n (map f l)
  map-take zero l = refl
  map-take (suc n) [] = refl
  map-take (suc n) (x ∷ xs) = ap {B = List B} (λ r. f x ∷ r) (map-take n xs)

  pub map-drop : (n : ℕ) (l : List A) → map f (drop n l) ≡ drop n (map f l)
  map-drop zero l = refl
  map-drop (suc n) [] = refl
  map-drop (suc n) (x ∷ xs) = map-drop n xs

  pub map-reverse : (l r : List A) → map f (reverse_aux l r) ≡ reverse_aux (map f l) (map f r)
  map-reverse [] r = refl
  map-reverse (x ∷ xs) r = map-reverse xs (x ∷ r)

  pub map-operands_of : (n : ℕ) (l : List A) → map f (operands_of n l) ≡ operands_of n (map f l)
  map-operands_of n l = map-reverse (take n l) [] ∙ ap reverse (map-take n l)
