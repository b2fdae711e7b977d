-- Refusal 29 is that of a call with no declared kinds whose count of arguments is not fixed (`check-bare`): a fixed one
-- with arguments is refused with 26 before it. Assumes nothing.
use Prim.Native.Nat.{ℕ, ◌+◌, ◌-◌}
use mathlib.Core.Path.{◌≡◌, refl, ap, ◌∙◌}
use mathlib.Core.Bool.{Bool, true, false, ◌&&◌, not}
use mathlib.Core.List.{List, [], ◌∷◌, ◌++◌, map}
use native.Mathlib.Omega.{arith}
use borrow.Author.Tests.{eqb-true}
use lib.ListN.{length, drop, length-map}
use lib.Dec.{T, leb, eqb, ltb}
use Rattle.page.specs.Bytes.{pick, is_empty}
use Rattle.records.specs.Kind.{Kind}
use Rattle.records.specs.Signature.{Variadic, fixed, unlimited, up_to, Function}
use Rattle.records.specs.Record.{Record, leaf, number, string, selector, wrapper, binary, aggregate, call, operands, read_page}
use Rattle.records.specs.Stack.{operands_of}
use Rattle.records.specs.Outcome.{refusal}
use Rattle.ast.specs.Refusal.{when, first_fault, Result, refused, ok, unless, and_then}
use Rattle.ast.specs.Expr.{Expr}
use Rattle.ast.specs.CheckAst.{arity_rows, args_rows, args_match}
use Rattle.ast.specs.CheckPage.{apply, check}
use Rattle.ast.specs.Operand.{Operand, other_operand, operand_kind, operand_of}
use Rattle.ast.specs.Judge.{judge_call, is_exempt_call, judgement}
use Rattle.ast.proofs.SoundLaws.{AllSound}
use Rattle.ast.proofs.OperandLaws.{map_result, judged-operand}
use Rattle.ast.proofs.RefusalLaws.{is_of_record}
use Rattle.ast.proofs.CheckLaws.{RefusesRecord, check-refuses}

abbrev is_fixed : Variadic → Bool
is_fixed fixed = true
is_fixed unlimited = false
is_fixed (up_to n) = false

-- no declared kinds, and a count of arguments that is not fixed
abbrev pub is_bare : Function → Bool
is_bare f = is_empty f.arg_types && not (is_fixed f.variadic)

-- ## The rows of a call

-- with declared kinds only 30 can follow
kinds-rows : {B : Type 0} (exempt : Bool) (k : Kind) (ks args : List Kind) (x : Operand)
    → unless {A = Operand} (first_fault (pick exempt [] (args_rows (k ∷ ks) args))) x ≡ refused 29 → B
kinds-rows true k ks args x e = absurd (let z : ◌≡◌ {A = ℕ} 0 1 = cc in omega arith)
kinds-rows false k ks args x e = by (not (args_match (k ∷ ks) args)) e
  where
    by : {B : Type 0} (b : Bool) → unless {A = Operand} (first_fault (when b 30 ∷ [])) x ≡ refused 29 → B
    by true e = absurd (let z : ◌≡◌ {A = ℕ} 30 29 = cc in omega arith)
    by false e = absurd (let z : ◌≡◌ {A = ℕ} 0 1 = cc in omega arith)

-- without arguments nothing can
none_rows : {B : Type 0} (exempt : Bool) (ks : List Kind) (x : Operand)
    → unless {A = Operand} (first_fault (pick exempt [] (args_rows ks []))) x ≡ refused 29 → B
none_rows true ks x e = absurd (let z : ◌≡◌ {A = ℕ} 0 1 = cc in omega arith)
none_rows false [] x e = absurd (let z : ◌≡◌ {A = ℕ} 0 1 = cc in omega arith)
none_rows false (k ∷ ks) x e = absurd (let z : ◌≡◌ {A = ℕ} 0 1 = cc in omega arith)

rows-bare : (v : Variadic) (ks args : List Kind) (exempt : Bool) (x : Operand)
    → unless {A = Operand} (first_fault (arity_rows v (length ks) (length args) ++ pick exempt [] (args_rows ks args))) x ≡ refused 29
    → T (is_empty ks && not (is_fixed v))
rows-bare fixed ks args exempt x e = by (eqb (length ks) (length args)) refl e
  where
    fits : (ks args : List Kind) → length ks ≡ length args
        → unless {A = Operand} (first_fault (pick exempt [] (args_rows ks args))) x ≡ refused 29 → T (is_empty ks && false)
    fits [] [] h e = none_rows exempt [] x e
    fits [] (a ∷ args) h e = absurd (omega arith)
    fits (k ∷ ks) args h e = kinds-rows exempt k ks args x e

    by : (b : Bool) → eqb (length ks) (length args) ≡ b
        → unless {A = Operand} (first_fault (when (not b) 26 ∷ pick exempt [] (args_rows ks args))) x ≡ refused 29 → T (is_empty ks && false)
    by true q e = fits ks args (eqb-true (length ks) (length args) q) e
    by false q e = absurd (let z : ◌≡◌ {A = ℕ} 26 29 = cc in omega arith)
rows-bare unlimited [] args exempt x e = tt
rows-bare unlimited (k ∷ ks) args exempt x e = by (ltb (length args) (length (k ∷ ks) - 1)) e
  where
    by : (b : Bool) → unless {A = Operand} (first_fault (when b 27 ∷ pick exempt [] (args_rows (k ∷ ks) args))) x ≡ refused 29 → ⊥
    by true e = absurd (let z : ◌≡◌ {A = ℕ} 27 29 = cc in omega arith)
    by false e = kinds-rows exempt k ks args x e
rows-bare (up_to m) [] args exempt x e = tt
rows-bare (up_to m) (k ∷ ks) args exempt x e = by (ltb (length args) (length (k ∷ ks) - 1)) (ltb (length (k ∷ ks) - 1 + m) (length args)) e
  where
    by : (b c : Bool) → unless {A = Operand} (first_fault (when b 27 ∷ when c 28 ∷ pick exempt [] (args_rows (k ∷ ks) args))) x ≡ refused 29 → ⊥
    by true c e = absurd (let z : ◌≡◌ {A = ℕ} 27 29 = cc in omega arith)
    by false true e = absurd (let z : ◌≡◌ {A = ℕ} 28 29 = cc in omega arith)
    by false false e = kinds-rows exempt k ks args x e

-- ## A call, and a page

call-bare : (f : Function) (args : List Operand) → judge_call f args ≡ refused 29 → T (is_bare f)
call-bare f args e =
    rows-bare f.variadic f.arg_types (map operand_kind args) (is_exempt_call f.name args) (other_operand f.return_type)
    (ap (λ (n : ℕ). unless (first_fault (arity_rows f.variadic (length f.arg_types) n
    ++ pick (is_exempt_call f.name args) [] (args_rows f.arg_types (map operand_kind args)))) (other_operand f.return_type))
    (length-map args operand_kind) ∙ e)

judged-bare : (f : Function) (n : ℕ) (stack : List Operand) → judgement (call f n) stack ≡ refused 29 → T (is_bare f)
unfolding judgement
judged-bare f n stack = by (leb n (length stack))
  where
    by : (b : Bool) → pick b (judge_call f (operands_of n stack)) (refused 2) ≡ refused 29 → T (is_bare f)
    by true e = call-bare f (operands_of n stack) e
    by false e = absurd (let z : ◌≡◌ {A = ℕ} 2 29 = cc in omega arith)

applied-bare : (f : Function) (n : ℕ) (stack : List Expr) → AllSound stack → apply (call f n) stack ≡ refused 29 → T (is_bare f)
applied-bare f n stack sound e =
    judged-bare f n (map operand_of stack)
    (by (judgement (call f n) (map operand_of stack)) (judged-operand (call f n) stack sound ∙ ap (map_result (map operand_of)) e))
  where
    by : (x : Result Operand) → and_then {B = List Operand} x (λ y. ok (y ∷ drop (operands (call f n)) (map operand_of stack))) ≡ refused 29
        → x ≡ refused 29
    by (refused m) q = let same : m ≡ 29 = cc in ap {B = Result Operand} refused same
    by (ok y) q = absurd (let z : ◌≡◌ {A = ℕ} 0 1 = cc in omega arith)

-- the call that a page is refused for with 29
pub record BareCall (page : List ℕ) (i : ℕ) : Type 0 where
  pub function : Function
  pub count : ℕ
  pub later : List Record
  pub stands : drop i (read_page page).records ≡ call function count ∷ later
  pub bare : T (is_bare function)

pub check-bare : (page : List ℕ) (i : ℕ) → check page ≡ refusal 29 i → BareCall page i
check-bare page i e =
    by found.refused_record found.is_record (check-refuses page 29 i (omega arith) e).1 found.is_refusal
  where
    found : RefusesRecord page i 29
    found = (check-refuses page 29 i (omega arith) e).0

    by : (r : Record) → drop i (read_page page).records ≡ r ∷ found.later → T (is_of_record r 29)
        → apply r found.stack_before ≡ refused 29 → BareCall page i
    by (leaf (number l)) s h q = absurd h
    by (leaf (string t)) s h q = absurd h
    by (leaf (selector x)) s h q = absurd h
    by (wrapper w) s h q = absurd h
    by (binary c m) s h q = absurd h
    by (aggregate c m n) s h q = absurd h
    by (call f n) s h q = record {
      function = f;
      count = n;
      later = found.later;
      stands = s;
      bare = applied-bare f n found.stack_before found.holds q;
    }
