-- The two arrays as one list of operands. Assumes nothing.
use Prim.Native.Nat.{ℕ, zero, suc, ◌+◌, ◌-◌, ◌<◌, ◌≤◌}
use mathlib.Core.Path.{◌≡◌, refl, ap, sym, ◌∙◌}
use mathlib.Core.Bool.{true, false}
use mathlib.Core.List.{List, [], ◌∷◌, reverse-append}
use native.Mathlib.Numerals.{add-one}
use lib.ListN.{length, get_or, set, take, drop, length-drop, length-reverse}
use lib.Seq.{length-take-le, drop-drop, take-suc, get_or-drop}
use lib.Ieee.{Float}
use native.Mathlib.Omega.{arith}
use Rattle.records.specs.Kind.{vector, scalar, matrix, string}
use Rattle.records.specs.Stack.{operands_of}
use Rattle.ast.specs.Operand.{Operand, number_operand, fraction_operand, string_operand, selector_operand, range_operand, subquery_operand, other_operand}
use Rattle.rules.specs.Stack.{tag_of, value_of, tag_table, operand_from, held_operands, held}
use Rattle.rules.specs.declared.stack.Stack.{Stack}

-- ## operand_from

-- an operand is what its tag and its value say
pub operand_from-tag_of : (x : Operand) → operand_from (tag_of x) (value_of x) ≡ x
operand_from-tag_of (number_operand v) = refl
operand_from-tag_of (fraction_operand true) = refl
operand_from-tag_of (fraction_operand false) = refl
operand_from-tag_of string_operand = refl
operand_from-tag_of (selector_operand true true) = refl
operand_from-tag_of (selector_operand true false) = refl
operand_from-tag_of (selector_operand false true) = refl
operand_from-tag_of (selector_operand false false) = refl
operand_from-tag_of (range_operand true true) = refl
operand_from-tag_of (range_operand true false) = refl
operand_from-tag_of (range_operand false true) = refl
operand_from-tag_of (range_operand false false) = refl
operand_from-tag_of (subquery_operand true true) = refl
operand_from-tag_of (subquery_operand true false) = refl
operand_from-tag_of (subquery_operand false true) = refl
operand_from-tag_of (subquery_operand false false) = refl
operand_from-tag_of (other_operand vector) = refl
operand_from-tag_of (other_operand scalar) = refl
operand_from-tag_of (other_operand matrix) = refl
operand_from-tag_of (other_operand string) = refl

pub get_or-past : {A : Type 0} (l : List A) (i : ℕ) (d : A) → length l ≤ i → get_or l i d ≡ d
get_or-past [] i d h = refl
get_or-past (x ∷ xs) zero d h = absurd (let z : ⊥ = omega arith in z)
get_or-past (x ∷ xs) (suc i) d h = get_or-past xs i d (omega arith)

pub operand_from-last : (f : ℕ) (x : Float) → 20 ≤ f → operand_from f x ≡ other_operand string
operand_from-last f x h = get_or-past (tag_table x) f (other_operand string) h

-- ## operands

pub held_operands-get_d : (fs : List ℕ) (xs : List Float) (i : ℕ) (d : Operand) (f : ℕ) (x : Float) → i < length fs → i < length xs
    → get_or (held_operands fs xs) i d ≡ operand_from (get_or fs i f) (get_or xs i x)
held_operands-get_d [] xs i d g y h l = absurd (let z : ⊥ = omega arith in z)
held_operands-get_d (f ∷ fs) [] i d g y h l = absurd (let z : ⊥ = omega arith in z)
held_operands-get_d (f ∷ fs) (x ∷ xs) zero d g y h l = refl
held_operands-get_d (f ∷ fs) (x ∷ xs) (suc i) d g y h l = held_operands-get_d fs xs i d g y (omega arith) (omega arith)

pub held_operands-set : (fs : List ℕ) (xs : List Float) (i : ℕ) (f : ℕ) (x : Float)
    → held_operands (set fs i f) (set xs i x) ≡ set (held_operands fs xs) i (operand_from f x)
held_operands-set [] xs i f x = refl
held_operands-set (g ∷ fs) [] zero f x = refl
held_operands-set (g ∷ fs) [] (suc i) f x = refl
held_operands-set (g ∷ fs) (y ∷ xs) zero f x = refl
held_operands-set (g ∷ fs) (y ∷ xs) (suc i) f x = ap (λ (ns : List Operand). operand_from g y ∷ ns) (held_operands-set fs xs i f x)

pub held_operands-length : (fs : List ℕ) (xs : List Float) → length fs ≡ length xs → length (held_operands fs xs) ≡ length fs
held_operands-length [] xs e = refl
held_operands-length (f ∷ fs) [] e = sym e
held_operands-length (f ∷ fs) (x ∷ xs) e = ap suc (held_operands-length fs xs (omega arith))

-- ## The stack, of which the arrays hold 256 operands from the end downwards

drop-set {ℓ} : {A : Type ℓ} (l : List A) (i : ℕ) (a : A) → i < length l → drop i (set l i a) ≡ a ∷ drop (suc i) l
drop-set [] i a h = absurd (let z : ⊥ = omega arith in z)
drop-set (x ∷ l) zero a h = refl
drop-set (x ∷ l) (suc i) a h = drop-set l i a (omega arith)

-- an entry put in place of the topmost n
drop-replace : {A : Type 0} (l : List A) (top n : ℕ) (a : A) → 1 ≤ top + n → top + n ≤ length l
    → drop (top + n - 1) (set l (top + n - 1) a) ≡ a ∷ drop n (drop top l)
drop-replace l top n a room enough =
    let above : suc (top + n - 1) ≡ top + n = omega (arith, room) in
    drop-set l (top + n - 1) a (omega (arith, room, enough))
    ∙ ap {B = List _} (λ rest. a ∷ rest) (ap (λ (k : ℕ). drop k l) above ∙ sym (drop-drop n top l))

module _ (s : Stack) where
  held_operands-size : length (held_operands s.tags s.values) ≡ 256
  held_operands-size = held_operands-length s.tags s.values (omega (arith, s.sized)) ∙ s.sized.0

  pub held-size : length (held s) ≡ 256 - s.top
  held-size = simp length-drop (rw held_operands-size)

  pub held-at : (i : ℕ) (f : ℕ) (x : Float) → i < length (held s)
      → operand_from (get_or s.tags (s.top + i) f) (get_or s.values (s.top + i) x) ≡ get_or (held s) i string_operand
  held-at i f x h =
      let inside : s.top + i < 256 = omega (arith, h, held-size) in
      sym (get_or-drop s.top (held_operands s.tags s.values) i string_operand
      ∙ held_operands-get_d s.tags s.values (s.top + i) string_operand f x (omega (arith, inside, s.sized)) (omega (arith, inside, s.sized)))

  module _ (n : ℕ) (enough : n ≤ length (held s)) (room : length (held s) < 256 + n) where
    pub place-low : 1 ≤ s.top + n
    place-low = omega (arith, room, held-size, s.inside)

    pub place-high : s.top + n ≤ 256
    place-high = omega (arith, enough, held-size, s.inside)

    pub held-replace : (x : Operand) → drop (s.top + n - 1) (held_operands (set s.tags (s.top + n - 1) (tag_of x)) (set s.values (s.top + n - 1) (value_of x)))
        ≡ x ∷ drop n (held s)
    held-replace x =
        ap (drop (s.top + n - 1)) (held_operands-set s.tags s.values (s.top + n - 1) (tag_of x) (value_of x)
        ∙ ap (set (held_operands s.tags s.values) (s.top + n - 1)) (operand_from-tag_of x))
        ∙ drop-replace (held_operands s.tags s.values) s.top n x place-low (rw held_operands-size place-high)

-- ## The operands of a record

module _ (stack : List Operand) where
  pub operands-size : (n : ℕ) → n ≤ length stack → length (operands_of n stack) ≡ n
  operands-size n h = length-reverse (take n stack) ∙ length-take-le n stack h

  -- the first of n + 1 operands lies deepest
  pub operands-first : (n : ℕ) → n + 1 ≤ length stack → operands_of (n + 1) stack ≡ get_or stack n string_operand ∷ operands_of n stack
  operands-first n h = rw (add-one, take-suc stack n string_operand (omega (arith, h)), reverse-append)
