-- The arguments of an aggregate: how many there are, and which one is the operand. 42 is asked of what document 01
-- accepts, which is a row behind its own.
use Prim.Native.Nat.{ℕ, ◌≤◌}
use mathlib.Core.Path.{◌≡◌, refl, sym, ap₂, ◌∙◌}
use mathlib.Core.Bool.{Bool, true, false, ◌&&◌, ◌||◌, not, true≢false}
use mathlib.Core.List.{List, [], ◌∷◌, ◌++◌, map}
use native.Mathlib.Omega.{arith}
use mathlib.Core.Option.{Option, none, some}
use lib.ListN.{length, get_or, length-map}
use Rattle.page.specs.Bytes.{pick}
use Rattle.records.specs.Kind.{Kind, vector, is_scalar}
use Rattle.records.specs.Code.{is_count_values, rust_asks_scalar, is_limit, has_parameter}
use Rattle.records.specs.Stack.{operands_of}
use Rattle.ast.specs.Refusal.{Row, when, Result, refused, unless, and_then}
use Rattle.ast.specs.CheckAst.{aggregate_rows}
use Rattle.ast.specs.Operand.{Operand, string_operand, other_operand, operand_kind}
use Rattle.ast.specs.Judge.{put, judge_arguments, judge_aggregate}
use Rattle.rules.specs.Limit.{limit_rows, judge_aggregate_by}
use Rattle.rules.proofs.StackLaws.{operands-size, operands-first}

-- ## 42, asked of what document 01 accepts

-- a row behind others
put-behind : (rows : List Row) (test : Bool) (n : ℕ) (x : Operand)
    → put (rows ++ (when test n ∷ [])) x ≡ and_then (put rows x) (λ y. unless (pick test (some n) none) y)
put-behind [] true n x = refl
put-behind [] false n x = refl
put-behind (when true m ∷ rows) test n x = refl
put-behind (when false m ∷ rows) test n x = put-behind rows test n x

-- the fault by the row's test, and by the definition's cases
limit-test : (limits limit scalar : Bool)
    → pick {A = Option ℕ} (limits && limit && not scalar) (some 42) none ≡ pick limits (pick limit (pick scalar none (some 42)) none) none
limit-test false limit scalar = refl
limit-test true false scalar = refl
limit-test true true false = refl
limit-test true true true = refl

still-refused : {n : ℕ} (limits : Bool) (c : ℕ) (args : List Kind) → refused n ≡ judge_aggregate c args → refused n ≡ judge_aggregate_by limits c args
still-refused limits c args e = rw (← e)

-- a parameter and an operand
two-asked : (limits : Bool) (c : ℕ) (j k : Kind) → put (aggregate_rows c (some j) k) (other_operand vector) ≡ judge_aggregate c (j ∷ k ∷ [])
    → put (aggregate_rows c (some j) k ++ limit_rows limits c (some j)) (other_operand vector) ≡ judge_aggregate_by limits c (j ∷ k ∷ [])
two-asked limits c j k e =
    put-behind (aggregate_rows c (some j) k) (limits && is_limit c && not (is_scalar j)) 42 (other_operand vector)
    ∙ ap₂ {C = Result Operand} (λ m fault. and_then m (λ y. unless fault y)) e (limit-test limits (is_limit c) (is_scalar j))

-- an operand alone: the code has no parameter
one-asked : (limits : Bool) (c : ℕ) (k : Kind) → is_limit c ≡ false → put (aggregate_rows c none k) (other_operand vector) ≡ judge_aggregate c (k ∷ [])
    → put (aggregate_rows c none k ++ limit_rows limits c none) (other_operand vector) ≡ judge_aggregate_by limits c (k ∷ [])
one-asked limits c k other e =
    put-behind (aggregate_rows c none k) (limits && is_limit c && true) 42 (other_operand vector)
    ∙ ap₂ {C = Result Operand} (λ m fault. and_then m (λ y. unless fault y)) e (unasked limits (is_limit c) other)
  where
    unasked : (limits limit : Bool) → limit ≡ false
        → pick {A = Option ℕ} (limits && limit && true) (some 42) none ≡ pick limits (pick limit (pick (is_scalar k) none (some 42)) none) none
    unasked false limit other = refl
    unasked true false other = refl
    unasked true true other = absurd (true≢false other)

-- ## The count of arguments

-- 15 where the count is neither none nor the right one
pub parameter-count : (c : ℕ) (args : List Kind) → (length args ≡ 0 → ⊥) → (length args ≡ 2 → ⊥) → judge_arguments true c args ≡ refused 15
parameter-count c [] h g = absurd (h refl)
parameter-count c (p ∷ []) h g = refl
parameter-count c (p ∷ e ∷ []) h g = absurd (g refl)
parameter-count c (p ∷ e ∷ x ∷ es) h g = refl

pub plain-count : (c : ℕ) (args : List Kind) → (length args ≡ 0 → ⊥) → (length args ≡ 1 → ⊥) → judge_arguments false c args ≡ refused 15
plain-count c [] h g = absurd (h refl)
plain-count c (e ∷ []) h g = absurd (g refl)
plain-count c (e ∷ x ∷ es) h g = refl

module _ (limits : Bool) (code count : ℕ) (stack : List Operand) (inside : count ≤ length stack) where
  no-limit : has_parameter code ≡ false → is_limit code ≡ false
  no-limit e = last-false (is_count_values code || rust_asks_scalar code) (is_limit code) e
    where
      last-false : (a b : Bool) → a || b ≡ false → b ≡ false
      last-false false b e = e
      last-false true b e = absurd (true≢false e)

  abbrev kinds : List Kind
  kinds = map operand_kind (operands_of count stack)

  kinds-size : length kinds ≡ count
  kinds-size = length-map (operands_of count stack) operand_kind ∙ operands-size stack count inside

  pub parameter-other : has_parameter code ≡ true → (count ≡ 0 → ⊥) → (count ≡ 2 → ⊥) → refused 15 ≡ judge_aggregate_by limits code kinds
  parameter-other has any other =
      still-refused limits code kinds
      (rw has (sym (parameter-count code kinds (λ e. any (sym kinds-size ∙ e)) (λ e. other (sym kinds-size ∙ e)))))

  pub plain_other : has_parameter code ≡ false → (count ≡ 0 → ⊥) → (count ≡ 1 → ⊥) → refused 15 ≡ judge_aggregate_by limits code kinds
  plain_other has any other =
      still-refused limits code kinds
      (rw has (sym (plain-count code kinds (λ e. any (sym kinds-size ∙ e)) (λ e. other (sym kinds-size ∙ e)))))

  pub plain-one : has_parameter code ≡ false → count ≡ 1 → {k : Kind} → k ≡ operand_kind (get_or stack 0 string_operand)
      → put (aggregate_rows code none k ++ limit_rows limits code none) (other_operand vector) ≡ judge_aggregate_by limits code kinds
  plain-one has one {k} operand =
      one-asked limits code k (no-limit has) (rw has)
      ∙ rw (one, operands-first stack 0 (omega (arith, inside, one)), ← operand)

  pub parameter-two : has_parameter code ≡ true → count ≡ 2
      → {j k : Kind} → j ≡ operand_kind (get_or stack 1 string_operand) → k ≡ operand_kind (get_or stack 0 string_operand)
      → put (aggregate_rows code (some j) k ++ limit_rows limits code (some j)) (other_operand vector) ≡ judge_aggregate_by limits code kinds
  parameter-two has two {j} {k} parameter operand =
      two-asked limits code j k (rw has)
      ∙ rw (
        two,
        operands-first stack 1 (omega (arith, inside, two)),
        operands-first stack 0 (omega (arith, inside, two)),
        ← parameter,
        ← operand,
      )
