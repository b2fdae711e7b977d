-- The judgement of a record whose operands are there, by the entries from the top of the stack on; with the rule of
-- limitk where it is asked for, which changes what an aggregate comes to and nothing else. Assumes nothing.
use Prim.Native.Nat.{ℕ, ◌≤◌, ◌<◌}
use mathlib.Core.Path.{◌≡◌, refl, sym, ap, ap₂, ◌∙◌}
use mathlib.Core.Bool.{Bool, true, false}
use mathlib.Core.List.{List, [], ◌∷◌, map}
use mathlib.Core.Option.{Option, none}
use native.Mathlib.Omega.{arith}
use borrow.Author.Tests.{le-leb, lt-leb}
use lib.ListN.{length, get_or}
use Rattle.page.specs.Bytes.{pick}
use Rattle.records.specs.Code.{is_limit}
use Rattle.records.specs.Literal.{Literal}
use Rattle.records.specs.Modifier.{BinModifier, LabelModifier}
use Rattle.records.specs.Signature.{Function}
use Rattle.records.specs.Stack.{operands_of}
use Rattle.records.specs.Record.{Leaf, number, Wrapper, Record, leaf, wrapper, binary, aggregate, call, operands}
use Rattle.ast.specs.Refusal.{Result, refused, ok, unless, and_then}
use Rattle.ast.specs.Operand.{Operand, string_operand, operand_kind, literal_operand}
use Rattle.ast.specs.Judge.{judge_leaf, judge_wrapper, judge_binary, judge_aggregate, judge_call, judgement, judgement_by}
use Rattle.ast.specs.Limits.{parameter_fault, limit_fault, limit_rules}
use Rattle.ast.proofs.RulesLaws.{ruled-unasked}
use Rattle.ast.proofs.StackLaws.{map-operands_of}
use Rattle.rules.specs.Limit.{judge_aggregate_by}

-- ## The rule of limitk

-- a record that it says nothing of is judged as by document 01
unlimited : (limits : Bool) (r : Record) (stack : List Operand) → limit_fault r (map operand_kind stack) ≡ none
    → judgement r stack ≡ judgement_by (limit_rules limits) r stack
unlimited limits r stack e =
    sym (ruled-unasked (limit_rules limits) r (map operand_kind stack) (judgement r stack) refl (silent limits))
  where
    silent : (limits : Bool) → pick limits (limit_fault r (map operand_kind stack)) none ≡ none
    silent false = refl
    silent true = e

-- ## The records

on-leaf : (l : Leaf) (stack : List Operand) → judge_leaf l ≡ judgement (leaf l) stack
unfolding judgement
on-leaf l stack = refl

pub judgement-leaf : (limits : Bool) (l : Leaf) (stack : List Operand) → judge_leaf l ≡ judgement_by (limit_rules limits) (leaf l) stack
judgement-leaf limits l stack = on-leaf l stack ∙ unlimited limits (leaf l) stack refl

pub judgement-number : {x : Operand} (limits : Bool) (l : Literal) (stack : List Operand) → x ≡ literal_operand l
    → ok x ≡ judgement_by (limit_rules limits) (leaf (number l)) stack
judgement-number limits l stack e = ap {B = Result Operand} ok e ∙ judgement-leaf limits (number l) stack

on_one : (w : Wrapper) (x : Operand) (below : List Operand) → judgement (wrapper w) (x ∷ below) ≡ judge_wrapper w x
unfolding judgement
on_one w x below = refl

on-two : (c : ℕ) (m : Option BinModifier) (r l : Operand) (below : List Operand)
    → judgement (binary c m) (r ∷ l ∷ below) ≡ judge_binary c m (operand_kind l) (operand_kind r)
unfolding judgement
on-two c m r l below = refl

on-aggregate : (c : ℕ) (m : Option LabelModifier) (n : ℕ) (stack : List Operand) → n ≤ length stack
    → judgement (aggregate c m n) stack ≡ judge_aggregate c (map operand_kind (operands_of n stack))
unfolding judgement
on-aggregate c m n stack h = rw (le-leb n (length stack) h)

on_call : (f : Function) (n : ℕ) (stack : List Operand) → n ≤ length stack → judgement (call f n) stack ≡ judge_call f (operands_of n stack)
unfolding judgement
on_call f n stack h = rw (le-leb n (length stack) h)

-- what document 01 refuses is refused
still-refused : {n : ℕ} (limits : Bool) (r : Record) (stack : List Operand) → refused n ≡ judgement r stack
    → refused n ≡ judgement_by (limit_rules limits) r stack
still-refused limits r stack e = rw (← e)

-- 2 where operands are missing
missing : (r : Record) (stack : List Operand) → length stack < operands r → refused 2 ≡ judgement r stack
unfolding judgement
missing (leaf l) stack h = absurd (let z : ⊥ = omega arith in z)
missing (wrapper w) [] h = refl
missing (wrapper w) (x ∷ below) h = absurd (let z : ⊥ = omega arith in z)
missing (binary c m) [] h = refl
missing (binary c m) (r ∷ []) h = refl
missing (binary c m) (r ∷ l ∷ below) h = absurd (let z : ⊥ = omega arith in z)
missing (aggregate c m n) stack h = rw (lt-leb n (length stack) h)
missing (call f n) stack h = rw (lt-leb n (length stack) h)

pub judgement-short : (limits : Bool) (r : Record) (stack : List Operand) → length stack < operands r
    → refused 2 ≡ judgement_by (limit_rules limits) r stack
judgement-short limits r stack h = still-refused limits r stack (missing r stack h)

module _ (limits : Bool) (stack : List Operand) where
  pub judgement-wrapper : (w : Wrapper) → 1 ≤ length stack
      → judge_wrapper w (get_or stack 0 string_operand) ≡ judgement_by (limit_rules limits) (wrapper w) stack
  judgement-wrapper w h = go stack h ∙ unlimited limits (wrapper w) stack refl
    where
      go : (s : List Operand) → 1 ≤ length s → judge_wrapper w (get_or s 0 string_operand) ≡ judgement (wrapper w) s
      go [] h = absurd (let z : ⊥ = omega arith in z)
      go (x ∷ below) h = sym (on_one w x below)

  pub judgement-binary : (c : ℕ) (m : Option BinModifier) → 2 ≤ length stack
      → judge_binary c m (operand_kind (get_or stack 1 string_operand)) (operand_kind (get_or stack 0 string_operand))
      ≡ judgement_by (limit_rules limits) (binary c m) stack
  judgement-binary c m h = go stack h ∙ unlimited limits (binary c m) stack refl
    where
      go : (s : List Operand) → 2 ≤ length s
          → judge_binary c m (operand_kind (get_or s 1 string_operand)) (operand_kind (get_or s 0 string_operand)) ≡ judgement (binary c m) s
      go [] h = absurd (let z : ⊥ = omega arith in z)
      go (r ∷ []) h = absurd (let z : ⊥ = omega arith in z)
      go (r ∷ l ∷ below) h = sym (on-two c m r l below)

  -- the kinds of the operands are operands of the kinds
  pub judgement-aggregate : (c : ℕ) (m : Option LabelModifier) (n : ℕ) → n ≤ length stack
      → judge_aggregate_by limits c (map operand_kind (operands_of n stack)) ≡ judgement_by (limit_rules limits) (aggregate c m n) stack
  judgement-aggregate c m n h =
      ap₂ {C = Result Operand}
      (λ x ks. and_then x (λ y. unless (pick limits (pick (is_limit c) (parameter_fault ks) none) none) y))
      (sym (on-aggregate c m n stack h)) (map-operands_of operand_kind n stack)

  pub judgement-call : (f : Function) (n : ℕ) → n ≤ length stack → judge_call f (operands_of n stack) ≡ judgement_by (limit_rules limits) (call f n) stack
  judgement-call f n h = sym (on_call f n stack h) ∙ unlimited limits (call f n) stack refl
