-- The arity of a call, and the rows of a call after it. Assumes nothing.
use Prim.Native.Nat.{ℕ, ◌+◌, ◌-◌, ◌≤◌}
use mathlib.Core.Path.{◌≡◌, refl, sym, ap, ◌∙◌}
use mathlib.Core.Bool.{Bool, true, false}
use mathlib.Core.List.{List, [], ◌∷◌, ◌++◌, map}
use mathlib.Core.Option.{none, some}
use native.Mathlib.Omega.{arith}
use lib.ListN.{length, get_or}
use Rattle.page.specs.Bytes.{pick}
use Rattle.page.specs.Text.{Text}
use Rattle.records.specs.Kind.{Kind}
use Rattle.records.specs.Signature.{Function}
use Rattle.records.specs.Stack.{operands_of}
use Rattle.records.specs.SignatureAnswers.{function_on, FunctionLies}
use Rattle.records.specs.declared.signature.Function as code
use Rattle.ast.specs.Refusal.{Row, when, first_fault, Result, refused, ok, unless}
use Rattle.ast.specs.CheckAst.{arity_rows, args_match, args_rows}
use Rattle.ast.specs.Operand.{Operand, string_operand, other_operand, operand_kind}
use Rattle.ast.specs.Judge.{put, is_exempt_operand, is_exempt_call, judge_call}
use Rattle.rules.proofs.StackLaws.{operands-size, operands-first}

-- ## judge_call

-- a fault found is the first; without one, the rows after decide
first_of : (rows more : List Row) {n : ℕ} → some n ≡ first_fault rows → first_fault (rows ++ more) ≡ some n
first_of [] more e = absurd (let z : ◌≡◌ {A = ℕ} 0 1 = cc in omega arith)
first_of (when true m ∷ rows) more e = sym e
first_of (when false m ∷ rows) more e = first_of rows more e

behind : (rows more : List Row) → none ≡ first_fault rows → first_fault (rows ++ more) ≡ first_fault more
behind [] more e = refl
behind (when true m ∷ rows) more e = absurd (let z : ◌≡◌ {A = ℕ} 0 1 = cc in omega arith)
behind (when false m ∷ rows) more e = behind rows more e

module _ (f : Function) (args : List Operand) {kinds count : ℕ} (kinds-is : kinds ≡ length f.arg_types) (count-is : count ≡ length args) where
  abbrev late : List Row
  late = pick (is_exempt_call f.name args) [] (args_rows f.arg_types (map operand_kind args))

  abbrev early : List Row
  early = arity_rows f.variadic (length f.arg_types) (length args)

  pub call-arity : {n : ℕ} → some n ≡ first_fault (arity_rows f.variadic kinds count) → refused n ≡ judge_call f args
  call-arity e = sym (ap {B = Result Operand} (λ x. unless x (other_operand f.return_type)) (first_of early late (rw (← kinds-is, ← count-is) e)))

  module _ (fine : none ≡ first_fault (arity_rows f.variadic kinds count)) where
    later : judge_call f args ≡ put late (other_operand f.return_type)
    later = ap {B = Result Operand} (λ x. unless x (other_operand f.return_type)) (behind early late (rw (← kinds-is, ← count-is) fine))

    pub call-exempt : true ≡ is_exempt_call f.name args → ok (other_operand f.return_type) ≡ judge_call f args
    call-exempt e = sym (later ∙ rw (← e))

    module _ (e : false ≡ is_exempt_call f.name args) where
      tested : judge_call f args ≡ put (args_rows f.arg_types (map operand_kind args)) (other_operand f.return_type)
      tested = later ∙ rw (← e)

      pub call-undeclared : kinds ≡ 0 → (count ≡ 0 → ⊥) → refused 29 ≡ judge_call f args
      call-undeclared bare any = sym (tested ∙ go f.arg_types args (sym kinds-is ∙ bare) (λ z. any (count-is ∙ z)))
        where
          go : (ks : List Kind) (xs : List Operand) → length ks ≡ 0 → (length xs ≡ 0 → ⊥)
              → put (args_rows ks (map operand_kind xs)) (other_operand f.return_type) ≡ refused 29
          go [] [] z h = absurd (h refl)
          go [] (x ∷ xs) z h = refl
          go (k ∷ ks) xs z h = absurd (omega arith)

      pub call-match : {b : Bool} → (kinds ≡ 0 → ⊥) → b ≡ args_match f.arg_types (map operand_kind args)
          → judge_call f args ≡ pick b (ok (other_operand f.return_type)) (refused 30)
      call-match {b} any is = tested ∙ go f.arg_types b (λ z. any (kinds-is ∙ z)) is
        where
          go : (ks : List Kind) (b : Bool) → (length ks ≡ 0 → ⊥) → b ≡ args_match ks (map operand_kind args)
              → put (args_rows ks (map operand_kind args)) (other_operand f.return_type) ≡ pick b (ok (other_operand f.return_type)) (refused 30)
          go [] b h is = absurd (h refl)
          go (k ∷ ks) true h is = rw (← is)
          go (k ∷ ks) false h is = rw (← is)

-- the first of some arguments lies deepest
exempt-first : (name : Text) (stack : List Operand) (count : ℕ) → (count ≡ 0 → ⊥) → count ≤ length stack
    → is_exempt_operand name (get_or stack (count - 1) string_operand) ≡ is_exempt_call name (operands_of count stack)
exempt-first name stack count any h =
    let one : count ≡ (count - 1) + 1 = omega arith in
    sym (ap (λ (n : ℕ). is_exempt_call name (operands_of n stack)) one
    ∙ ap (is_exempt_call name) (operands-first stack (count - 1) (omega arith)))

-- ## A call as the code has it: its signature on the page, its arguments on the stack

module _ {page : List ℕ} {function : code.Function} (lies : FunctionLies page function)
    (stack : List Operand) (count : ℕ) (inside : count ≤ length stack) where
  abbrev called : Function
  called = function_on page function

  abbrev given : List Operand
  given = operands_of count stack

  size : count ≡ length given
  size = sym (operands-size stack count inside)

  pub judged-arity : {n : ℕ} → some n ≡ first_fault (arity_rows called.variadic function.kinds.count count)
      → refused n ≡ judge_call called given
  judged-arity e = call-arity called given (sym lies.kinds) size e

  module _ (fine : none ≡ first_fault (arity_rows called.variadic function.kinds.count count)) where
    -- the first argument was tested for the literal exception
    module _ (any : count ≡ 0 → ⊥) {first : Operand} {exempt : Bool}
        (is-first : first ≡ get_or stack (count - 1) string_operand)
        (is-exempt : exempt ≡ is_exempt_operand called.name first) where
      excepted : exempt ≡ is_exempt_call called.name given
      excepted = is-exempt ∙ ap (is_exempt_operand called.name) is-first ∙ exempt-first called.name stack count any inside

      pub judged-exempt : exempt ≡ true → ok (other_operand called.return_type) ≡ judge_call called given
      judged-exempt e = call-exempt called given (sym lies.kinds) size fine (sym e ∙ excepted)

      pub judged-undeclared : exempt ≡ false → function.kinds.count ≡ 0 → refused 29 ≡ judge_call called given
      judged-undeclared e bare = call-undeclared called given (sym lies.kinds) size fine (sym e ∙ excepted) bare any

      pub judged-match : {b : Bool} → exempt ≡ false → (function.kinds.count ≡ 0 → ⊥)
          → b ≡ args_match called.arg_types (map operand_kind given)
          → judge_call called given ≡ pick b (ok (other_operand called.return_type)) (refused 30)
      judged-match e declared is =
          call-match called given (sym lies.kinds) size fine (sym e ∙ excepted) declared is
