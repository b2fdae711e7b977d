-- Texts of operands, joined from the last one down: where the walk's tables say where each expression begins, the
-- operands of a node are found from its last one, and so the recursion over them goes. Any two texts, of the first
-- operand and of the others.
use Prim.Native.Nat.{ℕ, zero, suc, ◌-◌, ◌≤◌, ◌<◌}
use native.Mathlib.Numerals.{sub-one}
use native.Mathlib.Omega.{arith}
use mathlib.Core.Path.{◌≡◌, refl, sym, ap, ◌∙◌}
use mathlib.Core.List.{List, [], ◌∷◌, ◌++◌, map, reverse-cons, append_assoc, append-nil}
use lib.ListN.{length, take, get_or}
use Rattle.page.specs.Bytes.{join_rest}
use Rattle.records.specs.Stack.{operands_of}
use Rattle.ast.specs.Expr.{Expr}
use Rattle.ast.specs.Tables.{stack_at, tree_at, Tables}
use Rattle.text.specs.Layout.{joined}

-- ## joined

module _ (separator : List ℕ) (first other : Expr → List ℕ) where
  join_rest-last : (es : List Expr) (e : Expr) → join_rest separator (map other (es ++ (e ∷ []))) ≡ join_rest separator (map other es) ++ (separator ++ other e)
  join_rest-last [] e = append-nil _
  join_rest-last (x ∷ es) e = ap (λ (t : List ℕ). separator ++ other x ++ t) (join_rest-last es e) ∙ sym (append_assoc (separator ++ other x) _ _)

  joined-last : (x : Expr) (es : List Expr) (e : Expr)
      → joined separator first other ((x ∷ es) ++ (e ∷ []))
      ≡ joined separator first other (x ∷ es) ++ (separator ++ other e)
  unfolding joined
  joined-last x es e = ap (λ (t : List ℕ). first x ++ t) (join_rest-last es e) ∙ sym (append_assoc (first x) _ _)

-- ## Tables of fewer records

pub fewer : {page starts firsts : List ℕ} {n m : ℕ} → Tables page starts firsts n → m ≤ n → Tables page starts firsts m
fewer t h = record {
  few = omega (arith, t.few);
  starts-size = t.starts-size;
  firsts-size = t.firsts-size;
  entry = λ i l. t.entry i (omega arith);
}

-- ## The newest expression

-- after so many records: the newest expression is the last record's, and the others are those before its first record
pub record Newest (page firsts : List ℕ) (end : ℕ) : Type 0 where
  pub some : 0 < end
  pub low : get_or firsts (end - 1) 0 < end
  pub stack : stack_at page end ≡ tree_at page (end - 1) ∷ stack_at page (get_or firsts (end - 1) 0)

empty : (page : List ℕ) → length (stack_at page 0) ≡ 0
unfolding stack_at
empty page = refl

pub newest : {page starts firsts : List ℕ} {end : ℕ} → Tables page starts firsts end → 0 < length (stack_at page end) → Newest page firsts end
newest {page} {starts} {firsts} {end} t h = by end t h
  where
    by : (e : ℕ) → Tables page starts firsts e → 0 < length (stack_at page e) → Newest page firsts e
    by zero t h = absurd (omega (arith, empty page))
    by (suc i) t h =
        let here = t.entry i (omega arith) in
        record { some = omega arith; low = rw sub-one (omega (arith, here.low)); stack = rw sub-one here.grows }

-- ## Operands

operands_of-more : {A : Type 0} (n : ℕ) (e : A) (s : List A) → operands_of (suc n) (e ∷ s) ≡ operands_of n s ++ (e ∷ [])
operands_of-more n e s = reverse-cons e (take n s)

module _ (separator : List ℕ) (first other : Expr → List ℕ) where
  over : (n : ℕ) (e : Expr) (s : List Expr) → (n ≡ 0 → ⊥) → (n ≡ 1 → ⊥) → n - 1 ≤ length s
      → joined separator first other (operands_of n (e ∷ s)) ≡ joined separator first other (operands_of (n - 1) s) ++ (separator ++ other e)
  over zero e s n0 n1 h = absurd (n0 refl)
  over (suc zero) e s n0 n1 h = absurd (n1 refl)
  over (suc (suc m)) e [] n0 n1 h = absurd (omega arith)
  over (suc (suc m)) e (a ∷ s) n0 n1 h = rw sub-one (ap (joined separator first other) (operands_of-more (suc m) e (a ∷ s)) ∙ some _ (operands_of-more m a s))
    where
      none : (l : List Expr) → [] ≡ l ++ (a ∷ []) → ⊥
      none [] g = let z : ◌≡◌ {A = ℕ} 0 1 = cc in omega arith
      none (x ∷ l) g = let z : ◌≡◌ {A = ℕ} 0 1 = cc in omega arith

      -- the operands below e are not none
      some : (es : List Expr) → es ≡ operands_of m s ++ (a ∷ [])
          → joined separator first other (es ++ (e ∷ []))
          ≡ joined separator first other es ++ (separator ++ other e)
      some [] k = absurd (none (operands_of m s) k)
      some (x ∷ es) k = joined-last separator first other x es e

  -- the newest expressions after so many records, so many of them
  module _ {page starts firsts : List ℕ} {end : ℕ} (t : Tables page starts firsts end) (count : ℕ) (enough : count ≤ length (stack_at page end)) where
    pub operands-some : (count ≡ 0 → ⊥) → Newest page firsts end
    operands-some n0 = newest t (omega arith)

    pub operands-fewer : (count ≡ 0 → ⊥) → count - 1 ≤ length (stack_at page (get_or firsts (end - 1) 0))
    operands-fewer n0 = omega (arith, ap length (operands-some n0).stack)

    pub operands-none : count ≡ 0 → joined separator first other (operands_of count (stack_at page end)) ≡ []
    unfolding joined
    operands-none z = rw z

    pub operands-one : count ≡ 1 → joined separator first other (operands_of count (stack_at page end)) ≡ first (tree_at page (end - 1))
    unfolding joined
    operands-one z = let w = operands-some (omega arith) in rw (z, w.stack) (append-nil _)

    pub operands-more : (count ≡ 0 → ⊥) → (count ≡ 1 → ⊥)
        → joined separator first other (operands_of count (stack_at page end))
        ≡ joined separator first other (operands_of (count - 1) (stack_at page (get_or firsts (end - 1) 0))) ++ (separator ++ other (tree_at page (end - 1)))
    operands-more n0 n1 = let w = operands-some n0 in rw w.stack (over count _ _ n0 n1 (operands-fewer n0))
