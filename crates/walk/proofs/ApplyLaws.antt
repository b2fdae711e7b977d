-- What a record does to a stack of trees, seen from the verdict on its operands. Assumes nothing.
use Prim.Native.Nat.{ℕ, ◌≤◌}
use mathlib.Core.Path.{◌≡◌, refl, sym, ap, ◌∙◌}
use mathlib.Core.Bool.{Bool, true, false}
use mathlib.Core.List.{List, [], ◌∷◌, map}
use native.Mathlib.Omega.{arith}
use lib.Dec.{leb}
use lib.ListN.{length, drop}
use Rattle.base.proofs.Cases.{by-lt}
use Rattle.page.specs.Bytes.{pick}
use Rattle.records.specs.Stack.{operands_of}
use Rattle.records.specs.Record.{Record, leaf, wrapper, binary, aggregate, call, operands}
use Rattle.ast.specs.Refusal.{Result, refused, ok, and_then}
use Rattle.ast.specs.Expr.{Expr, Binary, Call, args_of}
use Rattle.ast.specs.Construct.{new_aggregate}
use Rattle.ast.specs.CheckAst.{check_ast}
use Rattle.ast.specs.CheckPage.{leaf_expr, wrap, push, apply}
use Rattle.ast.specs.Operand.{Operand, operand_of}
use Rattle.ast.specs.Judge.{judgement_by}
use Rattle.ast.specs.Limits.{limit_rules}
use Rattle.ast.specs.Rules.{Rules, apply_by}
use Rattle.ast.proofs.SoundLaws.{AllSound}
use Rattle.ast.proofs.OperandLaws.{map_result, judged_by-operand}
use Rattle.judge.proofs.RecordLaws.{judgement-short}

-- ## A record takes its operands off the stack, and puts one tree there

pub record Pushed (stack : List Expr) (n : ℕ) (after : List Expr) : Type 0 where
  pub tree : Expr
  pub is : after ≡ tree ∷ drop n stack

on_stack : {stack below : List Expr} {n : ℕ} → below ≡ drop n stack → (made : Result Expr) {after : List Expr}
    → and_then {B = List Expr} made (λ e. ok (e ∷ below)) ≡ ok after → Pushed stack n after
on_stack b (refused n) e = absurd (let z : ◌≡◌ {A = ℕ} 0 1 = cc in omega arith)
on_stack {stack} {below} {n} b (ok t) {after} e = let same : t ∷ below ≡ after = cc in record { tree = t; is = sym same ∙ ap {B = List Expr} (λ l. t ∷ l) b }

on-arguments : {stack : List Expr} {n : ℕ} (b : Bool) (made : Result Expr) {after : List Expr}
    → pick b (push made (drop n stack)) (refused 2) ≡ ok after → Pushed stack n after
on-arguments true made e = on_stack refl (and_then made check_ast) e
on-arguments false made e = absurd (let z : ◌≡◌ {A = ℕ} 0 1 = cc in omega arith)

pub apply-pushes : (r : Record) (stack : List Expr) {after : List Expr} → apply r stack ≡ ok after → Pushed stack (operands r) after
unfolding apply
apply-pushes (leaf l) stack e = on_stack refl (and_then (ok (leaf_expr l)) check_ast) e
apply-pushes (wrapper w) [] e = absurd (let z : ◌≡◌ {A = ℕ} 0 1 = cc in omega arith)
apply-pushes (wrapper w) (x ∷ below) e = on_stack refl (and_then (wrap w x) check_ast) e
apply-pushes (binary c m) [] e = absurd (let z : ◌≡◌ {A = ℕ} 0 1 = cc in omega arith)
apply-pushes (binary c m) (r ∷ []) e = absurd (let z : ◌≡◌ {A = ℕ} 0 1 = cc in omega arith)
apply-pushes (binary c m) (r ∷ l ∷ below) e = on_stack refl (and_then (ok (Binary c m l r)) check_ast) e
apply-pushes (aggregate c m n) stack e = on-arguments (leb n (length stack)) (new_aggregate c m (operands_of n stack)) e
apply-pushes (call f n) stack e = on-arguments (leb n (length stack)) (ok (Call f (args_of (operands_of n stack)))) e

-- ## From the verdict on operands

-- a record that puts an operand has its operands
pub operands-there : (limits : Bool) (r : Record) (stack : List Operand) (x : Operand) → ok x ≡ judgement_by (limit_rules limits) r stack
    → operands r ≤ length stack
operands-there limits r stack x e =
    by-lt (length stack) (operands r)
    (λ h. absurd (let short = judgement-short limits r stack h in let z : ◌≡◌ {A = ℕ} 0 1 = cc in omega arith)) (λ h. h)

-- the trees after a record that puts an operand
pub record Applied (rules : Rules) (r : Record) (stack : List Expr) (x : Operand) : Type 0 where
  pub after : List Expr
  pub applies : apply_by rules r stack ≡ ok after
  pub held_operands : map operand_of after ≡ x ∷ drop (operands r) (map operand_of stack)

module _ (rules : Rules) (r : Record) (stack : List Expr) (sound : AllSound stack) where
  pub applied : {x : Operand} → ok x ≡ judgement_by rules r (map operand_of stack) → Applied rules r stack x
  applied {x} e = go (apply_by rules r stack) refl
      (ap {B = Result (List Operand)} (λ m. and_then m (λ y. ok (y ∷ drop (operands r) (map operand_of stack)))) e
      ∙ judged_by-operand rules r stack sound)
    where
      go : (m : Result (List Expr)) → apply_by rules r stack ≡ m
          → ok (x ∷ drop (operands r) (map operand_of stack)) ≡ map_result (map operand_of) m → Applied rules r stack x
      go (refused n) is f = absurd (let z : ◌≡◌ {A = ℕ} 0 1 = cc in omega arith)
      go (ok after) is f = record { after = after; applies = is; held_operands = cc }

  pub unapplied : {n : ℕ} → refused n ≡ judgement_by rules r (map operand_of stack) → apply_by rules r stack ≡ refused n
  unapplied {n} e = go (apply_by rules r stack) refl
      (ap {B = Result (List Operand)} (λ m. and_then m (λ y. ok (y ∷ drop (operands r) (map operand_of stack)))) e
      ∙ judged_by-operand rules r stack sound)
    where
      go : (m : Result (List Expr)) → apply_by rules r stack ≡ m → refused n ≡ map_result (map operand_of) m → apply_by rules r stack ≡ refused n
      go (refused k) is f = let same : k ≡ n = cc in is ∙ ap {B = Result (List Expr)} refused same
      go (ok after) is f = absurd (let z : ◌≡◌ {A = ℕ} 0 1 = cc in omega arith)
