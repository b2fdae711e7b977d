-- The walk of two lists of symbols side by side: the order from one place to the next. Assumes nothing.
use Prim.Native.Nat.{ℕ, suc, ◌+◌, ◌≤◌, ◌<◌}
use native.Mathlib.Numerals.{add-one}
use native.Mathlib.Omega.{arith}
use mathlib.Core.Bool.{Bool, true, false}
use mathlib.Core.List.{List, ◌∷◌}
use mathlib.Core.Path.{◌≡◌, sym, ◌∙◌}
use borrow.Author.Tests.{lt-ltb, le-ltb}
use lib.Dec.{ltb}
use lib.ListN.{length, get_or, drop, drop_of_length-le}
use lib.Seq.{drop-cons}
use Rattle.base.proofs.Cases.{by-lt}
use Rattle.label.specs.Label.{at_most}
use Rattle.label.proofs.SymbolLaws.{at-most-less, at-most-more, at-most-same, nothing, some_more}

-- ## the order, from one place of the symbols to the next; x and y are the symbols there

order-here : (a b : List ℕ) (j : ℕ) → j < length a → j < length b
    → at_most (drop j a) (drop j b) ≡ at_most (get_or a j 0 ∷ drop (j + 1) a) (get_or b j 0 ∷ drop (j + 1) b)
order-here a b j h k = rw (add-one, drop-cons a j 0 h, drop-cons b j 0 k)

order-ends : (a b : List ℕ) (j : ℕ) → length a ≤ j → at_most (drop j a) (drop j b) ≡ true
order-ends a b j h = rw (drop_of_length-le a h) (nothing (drop j b))

order-longer : (a b : List ℕ) (j : ℕ) → j < length a → length b ≤ j → at_most (drop j a) (drop j b) ≡ false
order-longer a b j h k = rw (drop_of_length-le b k, drop-cons a j 0 h) (some_more (get_or a j 0) (drop (suc j) a))

order-differs : (a b : List ℕ) (j x y : ℕ) → j < length a → j < length b → x ≡ get_or a j 0 → y ≡ get_or b j 0 → (x ≡ y → ⊥)
    → ltb x y ≡ at_most (drop j a) (drop j b)
order-differs a b j x y h k ex ey n =
    by-lt x y
    (λ l. lt-ltb x y l ∙ sym (order-here a b j h k ∙ at-most-less _ _ _ _ (omega arith)))
    (λ l. le-ltb x y l ∙ sym (order-here a b j h k ∙ at-most-more _ _ _ _ (omega (arith, lt_of_ne l n))))
  where
    lt_of_ne : y ≤ x → (x ≡ y → ⊥) → y < x
    lt_of_ne l n = by-lt y x (λ p. p) (λ p. absurd (n (omega arith)))

order-goes-on : (a b : List ℕ) (j x y : ℕ) → j < length a → j < length b → x ≡ get_or a j 0 → y ≡ get_or b j 0 → x ≡ y
    → at_most (drop j a) (drop j b) ≡ at_most (drop (j + 1) a) (drop (j + 1) b)
order-goes-on a b j x y h k ex ey e = order-here a b j h k ∙ at-most-same _ _ _ _ (sym ex ∙ e ∙ ey)

-- ## the walk of `at_most`, over any two lists a and b of n and m symbols: w, the answer, is the order from j on

pub ahead-longer : (w : Bool) (a b : List ℕ) (j n m : ℕ) → n ≡ length a → m ≡ length b → w ≡ at_most (drop j a) (drop j b) → j < n → m ≤ j → false ≡ w
ahead-longer w a b j n m en em inv h k = sym (inv ∙ order-longer a b j (omega arith) (omega arith))

pub ahead-differs : (w : Bool) (a b : List ℕ) (j n m x y : ℕ) → n ≡ length a → m ≡ length b → w ≡ at_most (drop j a) (drop j b) → j < n → j < m
    → x ≡ get_or a j 0 → y ≡ get_or b j 0 → (x ≡ y → ⊥) → ltb x y ≡ w
ahead-differs w a b j n m x y en em inv h k ex ey d = order-differs a b j x y (omega arith) (omega arith) ex ey d ∙ sym inv

pub ahead-on : (w : Bool) (a b : List ℕ) (j n m x y : ℕ) → n ≡ length a → m ≡ length b → w ≡ at_most (drop j a) (drop j b) → j < n → j < m
    → x ≡ get_or a j 0 → y ≡ get_or b j 0 → x ≡ y → w ≡ at_most (drop (j + 1) a) (drop (j + 1) b)
ahead-on w a b j n m x y en em inv h k ex ey e = inv ∙ order-goes-on a b j x y (omega arith) (omega arith) ex ey e

pub ahead-ends : (w : Bool) (a b : List ℕ) (j n : ℕ) → n ≡ length a → w ≡ at_most (drop j a) (drop j b) → n ≤ j → true ≡ w
ahead-ends w a b j n en inv h = sym (inv ∙ order-ends a b j (omega arith))
