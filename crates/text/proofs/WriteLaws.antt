-- Writing operands' texts from the last operand down, for any two texts of the first operand and of the others: runs of
-- three pieces.
use Prim.Native.Nat.{ℕ, ◌+◌, ◌-◌, ◌≤◌}
use mathlib.Core.Path.{◌≡◌, sym, ap, ◌∙◌}
use mathlib.Core.List.{List, [], ◌∷◌, ◌++◌, append-nil}
use native.Mathlib.Nat.{add-zero}
use lib.ListN.{length, get_or}
use Rattle.base.specs.Splice.{Wrote, join}
use Rattle.base.proofs.SpliceLaws.{Run, start, splice-nil}
use Rattle.records.specs.Stack.{operands_of}
use Rattle.ast.specs.Expr.{Expr}
use Rattle.ast.specs.Tables.{Tables, stack_at, tree_at}
use Rattle.text.specs.Layout.{joined}
use Rattle.text.proofs.OperandLaws.{operands-none, operands-one, operands-more}

-- nothing to write
pub wrote_nothing : (o : List ℕ) (at : ℕ) {text : List ℕ} → text ≡ [] → Wrote o o at text at
wrote_nothing o at e = rw e (record { holds = sym (splice-nil o at); ends = sym (add-zero at) })

-- the same text by another name
pub wrote_as : {o p : List ℕ} {at : ℕ} {a b : List ℕ} {next : ℕ} → a ≡ b → Wrote o p at b next → Wrote o p at a next
wrote_as e w = rw e w

pub room_as : (a b : List ℕ) (at n : ℕ) → a ≡ b → at + length a ≤ n → at + length b ≤ n
room_as a b at n e h = rw e at h

two : (a b : List ℕ) → a ++ b ≡ join (a ∷ b ∷ [])
unfolding join
two a b = ap (λ (t : List ℕ). a ++ t) (sym (append-nil b))

pub run-two : {text : List ℕ} (a b : List ℕ) (o : List ℕ) (at : ℕ) → text ≡ a ++ b → at + length text ≤ length o → Run o o at text (a ∷ b ∷ []) at
run-two a b o at e h = start h (e ∙ two a b)

three : (a b c : List ℕ) → a ++ (b ++ c) ≡ join (a ∷ b ∷ c ∷ [])
unfolding join
three a b c = ap (λ (t : List ℕ). a ++ (b ++ t)) (sym (append-nil c))

pub run-three : {text : List ℕ} (a b c : List ℕ) (o : List ℕ) (at : ℕ) → text ≡ a ++ (b ++ c)
    → at + length text ≤ length o → Run o o at text (a ∷ b ∷ c ∷ []) at
run-three a b c o at e h = start h (e ∙ three a b c)

module _ (first other : Expr → List ℕ) {page starts firsts : List ℕ} {end : ℕ} (t : Tables page starts firsts end)
    (count : ℕ) (enough : count ≤ length (stack_at page end)) (separator : List ℕ) where
  pub text-none : count ≡ 0 → joined separator first other (operands_of count (stack_at page end)) ≡ []
  text-none = operands-none separator first other t count enough

  pub text-one : count ≡ 1 → joined separator first other (operands_of count (stack_at page end)) ≡ first (tree_at page (end - 1))
  text-one = operands-one separator first other t count enough

  pub run_more : (count ≡ 0 → ⊥) → (count ≡ 1 → ⊥) → (o : List ℕ) (at : ℕ)
      → at + length (joined separator first other (operands_of count (stack_at page end))) ≤ length o
      → Run o o at (joined separator first other (operands_of count (stack_at page end)))
      (joined separator first other (operands_of (count - 1) (stack_at page (get_or firsts (end - 1) 0))) ∷ separator ∷ other (tree_at page (end - 1)) ∷ []) at
  run_more n0 n1 o at h = run-three _ _ _ o at (operands-more separator first other t count enough n0 n1) h
