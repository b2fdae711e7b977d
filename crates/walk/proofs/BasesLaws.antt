-- The first record of each entry of the stack, by its depth: the stack after the records before it is what lies below the
-- entry. Assumes nothing.
use Prim.Native.Nat.{ℕ, zero, suc, ◌-◌, ◌≤◌, ◌<◌}
use mathlib.Core.Path.{◌≡◌, refl}
use mathlib.Core.List.{List, [], ◌∷◌}
use native.Mathlib.Omega.{arith}
use lib.ListN.{length, get_or, set, drop}
use lib.Seq.{get_or-set_other}
use Rattle.ast.specs.Expr.{Expr}
use Rattle.ast.specs.Tables.{stack_at}
use Rattle.walk.specs.Walk.{first_of}

-- an entry lies at the number of those below it
abbrev pub Bases : List ℕ → ℕ → List ℕ → List Expr → Type 0
Bases page n bs [] = Unit {0}
Bases page n bs (e ∷ es) = (get_or bs (length es) 0 ≤ n) × (stack_at page (get_or bs (length es) 0) ≡ es) × Bases page n bs es

module _ (page : List ℕ) (n : ℕ) (bs : List ℕ) where
  pub bases-drop : (k : ℕ) (es : List Expr) → Bases page n bs es → Bases page n bs (drop k es)
  bases-drop zero es h = h
  bases-drop (suc k) [] h = tt
  bases-drop (suc k) (e ∷ es) h = bases-drop k es h.2

  pub bases-more : (es : List Expr) → Bases page n bs es → Bases page (suc n) bs es
  bases-more [] h = tt
  bases-more (e ∷ es) h = (omega (arith, h.0), h.1, bases-more es h.2)

  -- an entry above these is written
  pub bases-above : (depth first : ℕ) (es : List Expr) → length es ≤ depth → Bases page n bs es → Bases page n (set bs depth first) es
  bases-above depth first [] l h = tt
  bases-above depth first (e ∷ es) l h =
      rw (get_or-set_other bs depth (length es) first 0 (λ z. omega (arith, z, l)))
      (h.0, h.1, bases-above depth first es (omega (arith, l)) h.2)

  bases-at : (k : ℕ) (es : List Expr) → Bases page n bs es → k < length es
      → (get_or bs (length es - suc k) 0 ≤ n) × (stack_at page (get_or bs (length es - suc k) 0) ≡ drop (suc k) es)
  bases-at k [] h l = absurd (let z : ⊥ = omega arith in z)
  bases-at zero (e ∷ es) h l = let below : suc (length es) - 1 ≡ length es = omega arith in rw below (h.0, h.1)
  bases-at (suc k) (e ∷ es) h l =
      let below : suc (length es) - suc (suc k) ≡ length es - suc k = omega arith in rw below (bases-at k es h.2 (omega arith))

  -- the first record of a new expression: the stack after the records before it is what the operands lie on
  pub first-right : (needed : ℕ) (es : List Expr) → stack_at page n ≡ es → Bases page n bs es → needed ≤ length es
      → (first_of needed n (length es - needed) bs ≤ n) × (stack_at page (first_of needed n (length es - needed) bs) ≡ drop needed es)
  first-right zero es is h l = (omega arith, is)
  first-right (suc k) es is h l = bases-at k es h l

-- the deepest operand's
pub first_of-some : (bases : List ℕ) (depth needed count : ℕ) → (needed ≡ 0 → ⊥) → get_or bases depth 0 ≡ first_of needed count depth bases
first_of-some bases depth zero count h = absurd (h refl)
first_of-some bases depth (suc k) count h = refl
