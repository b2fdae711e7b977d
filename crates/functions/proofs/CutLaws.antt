-- The texts that lie in one run of bytes: where each begins and ends, and which it is. Assumes nothing.
use Prim.Native.Nat.{ℕ, zero, suc, ◌+◌, ◌-◌, ◌≤◌, ◌<◌}
use mathlib.Core.Path.{◌≡◌, refl, ap, ◌∙◌}
use mathlib.Core.Bool.{Bool, true, false, ◌&&◌}
use mathlib.Core.List.{List, [], ◌∷◌}
use native.Mathlib.Nat.{not-suc-le-zero, le_of_suc-le-suc}
use native.Mathlib.Numerals.{add-one}
use native.Mathlib.Omega.{arith}
use lib.ListN.{length, get_or, take, drop}
use lib.Seq.{length-take-le, get_or-take}
use lib.Dec.{T, ltb, eqb, ltb→lt, eqb→eq}
use borrow.Author.Tests.{ltb-true, ltb-false}
use Rattle.page.proofs.NumberLaws.{left-of, right_of}
use Rattle.functions.specs.Order.{ascend}
use Rattle.functions.specs.Table.{cut, ascend_to, count_of, names_in, is_table}

-- ## ascend_to

module _ (end : ℕ) where
  -- any two starts
  ascend_to-order : (starts : List ℕ) → T (ascend_to end starts) → (i j : ℕ) → i < j → j < length starts
      → get_or starts i 0 < get_or starts j 0
  ascend_to-order [] t i j h l = absurd t
  ascend_to-order (a ∷ starts) t i zero h l = absurd (not-suc-le-zero h)
  ascend_to-order (a ∷ []) t i (suc j) h l = absurd (not-suc-le-zero (le_of_suc-le-suc l))
  ascend_to-order (a ∷ b ∷ starts) t zero (suc zero) h l = ltb→lt a b (left-of (ltb a b) (ascend_to end (b ∷ starts)) t)
  ascend_to-order (a ∷ b ∷ starts) t zero (suc (suc j)) h l =
      let rest = right_of (ltb a b) (ascend_to end (b ∷ starts)) t in
      omega (
        arith,
        ltb→lt a b (left-of (ltb a b) (ascend_to end (b ∷ starts)) t),
        ascend_to-order (b ∷ starts) rest 0 (suc j) (omega arith) (le_of_suc-le-suc l),
      )
  ascend_to-order (a ∷ b ∷ starts) t (suc i) (suc j) h l =
      ascend_to-order (b ∷ starts) (right_of (ltb a b) (ascend_to end (b ∷ starts)) t) i j (le_of_suc-le-suc h)
      (le_of_suc-le-suc l)

  at-end : (a : ℕ) (starts : List ℕ) → T (ascend_to end (a ∷ starts)) → get_or (a ∷ starts) (length starts) 0 ≡ end
  at-end a [] t = eqb→eq a end t
  at-end a (b ∷ starts) t = at-end b starts (right_of (ltb a b) (ascend_to end (b ∷ starts)) t)

  ascend_to-last : (starts : List ℕ) → T (ascend_to end starts) → get_or starts (length starts - 1) 0 ≡ end
  ascend_to-last [] t = absurd t
  ascend_to-last (a ∷ starts) t = let last : length (a ∷ starts) - 1 ≡ length starts = omega arith in rw last (at-end a starts t)

-- ## is_table

-- what a table of the form has
pub record TableForm (letters starts : List ℕ) : Type 0 where
  pub first : get_or starts 0 0 ≡ 0
  pub paired : length starts ≡ suc (count_of starts + count_of starts)
  pub ascends : T (ascend_to (length letters) starts)
  pub named : T (ascend (names_in letters starts))

pub table-form : (letters starts : List ℕ) → T (is_table letters starts) → TableForm letters starts
table-form letters [] t = absurd t
table-form letters (a ∷ rest) t =
    let starts : List ℕ = a ∷ rest in
    let paired : Bool = eqb (length starts) (suc (count_of starts + count_of starts)) in
    let ascends : Bool = ascend_to (length letters) starts in
    let named : Bool = ascend (names_in letters starts) in
    let front = left-of (eqb a 0 && paired && ascends) named t in
    let two = left-of (eqb a 0 && paired) ascends front in
    record {
      first = eqb→eq a 0 (left-of (eqb a 0) paired two);
      paired = eqb→eq (length starts) (suc (count_of starts + count_of starts)) (right_of (eqb a 0) paired two);
      ascends = right_of (eqb a 0 && paired) ascends front;
      named = right_of (eqb a 0 && paired && ascends) named t;
    }

module _ (letters starts : List ℕ) (table : T (is_table letters starts)) where
  -- any two starts ascend, from 0 to the number of bytes
  pub starts_first : get_or starts 0 0 ≡ 0
  starts_first = (table-form letters starts table).first

  pub starts-ascend : (i j : ℕ) → i < j → j < length starts → get_or starts i 0 < get_or starts j 0
  starts-ascend = ascend_to-order (length letters) starts (table-form letters starts table).ascends

  pub starts-last : get_or starts (length starts - 1) 0 ≡ length letters
  starts-last = ascend_to-last (length letters) starts (table-form letters starts table).ascends

-- a text lies within the letters
pub record TextPlaced (letters : List ℕ) (start end : ℕ) : Type 0 where
  pub ordered : start < end
  pub inside : end ≤ length letters

pub placed : (letters starts : List ℕ) (i : ℕ) → T (is_table letters starts) → i < length starts - 1
    → TextPlaced letters (get_or starts i 0) (get_or starts (i + 1) 0)
placed letters starts i t h = record {
  ordered = starts-ascend letters starts t i (i + 1) (omega arith) (omega arith);
  inside = by (ltb (i + 1) (length starts - 1)) refl;
}
  where
    by : (x : Bool) → ltb (i + 1) (length starts - 1) ≡ x → get_or starts (i + 1) 0 ≤ length letters
    by true q =
        omega (
          arith,
          starts-ascend letters starts t (i + 1) (length starts - 1) (ltb-true (i + 1) (length starts - 1) q) (omega arith),
          starts-last letters starts t,
        )
    by false q =
        let last : i + 1 ≡ length starts - 1 = omega (arith, ltb-false (i + 1) (length starts - 1) q) in
        omega (arith, ap (λ (k : ℕ). get_or starts k 0) last, starts-last letters starts t)

-- ## cut

pub length_cut : (letters starts : List ℕ) → length (cut letters starts) ≡ length starts - 1
length_cut letters [] = refl
length_cut letters (a ∷ []) = refl
length_cut letters (a ∷ b ∷ starts) = ap suc (length_cut letters (b ∷ starts)) ∙ omega arith

cut-suc : (letters starts : List ℕ) (i : ℕ) → suc i < length starts
    → get_or (cut letters starts) i [] ≡ take (get_or starts (suc i) 0 - get_or starts i 0) (drop (get_or starts i 0) letters)
cut-suc letters [] i h = absurd (not-suc-le-zero h)
cut-suc letters (a ∷ []) i h = absurd (not-suc-le-zero (le_of_suc-le-suc h))
cut-suc letters (a ∷ b ∷ starts) zero h = refl
cut-suc letters (a ∷ b ∷ starts) (suc i) h = cut-suc letters (b ∷ starts) i (le_of_suc-le-suc h)

pub cut_at : (letters starts : List ℕ) (i : ℕ) → i < length starts - 1
    → get_or (cut letters starts) i [] ≡ take (get_or starts (i + 1) 0 - get_or starts i 0) (drop (get_or starts i 0) letters)
cut_at letters starts i h = rw (add-one i) (cut-suc letters starts i (omega arith))

-- ## names_in

pub length-names_in : (letters starts : List ℕ) → length (names_in letters starts) ≡ count_of starts
length-names_in letters starts =
    length-take-le (count_of starts) (cut letters starts) (omega (arith, length_cut letters starts))

pub names_in-at : (letters starts : List ℕ) (i : ℕ) → i < count_of starts
    → get_or (names_in letters starts) i [] ≡ get_or (cut letters starts) i []
names_in-at letters starts i h = get_or-take (count_of starts) (cut letters starts) i [] h
