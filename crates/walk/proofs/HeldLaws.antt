-- What the stack and the array beside it hold of the trees on it: their operands, and the first record of each by its
-- depth.
use Prim.Native.Nat.{ℕ, suc, ◌-◌, ◌≤◌, ◌<◌}
use mathlib.Core.Path.{◌≡◌, sym, ap, ap₂, ◌∙◌}
use mathlib.Core.List.{List, ◌∷◌, map}
use native.Mathlib.Omega.{arith}
use lib.ListN.{length, get_or, set, drop, length-map, length-drop, length-set}
use lib.Seq.{get_or-set_same}
use Rattle.ast.specs.Expr.{Expr}
use Rattle.ast.specs.Operand.{Operand, operand_of}
use Rattle.ast.specs.Tables.{stack_at}
use Rattle.ast.proofs.StackLaws.{map-drop}
use Rattle.walk.proofs.BasesLaws.{Bases, bases-drop, bases-more, bases-above}

pub record Holds (page : List ℕ) (operands : List Operand) (bases : List ℕ) (count : ℕ) (stack : List Expr) : Type 0 where
  pub summaries : operands ≡ map operand_of stack
  pub firsts : Bases page count bases stack
  pub bases-size : length bases ≡ 256
  pub depth-range : length operands ≤ count

module _ {page : List ℕ} {operands : List Operand} {bases : List ℕ} {count : ℕ} {stack : List Expr}
    (holds : Holds page operands bases count stack) where
  pub stack-length : length stack ≡ length operands
  stack-length = sym (length-map stack operand_of) ∙ ap length (sym holds.summaries)

  -- an operand put on the stack, in place of the topmost n
  module _ (n first : ℕ) (x : Operand) (tree : Expr) (is : operand_of tree ≡ x) (few : count < 256) (low : first ≤ suc count)
      (below : stack_at page first ≡ drop n stack) where
    abbrev depth : ℕ
    depth = length operands - n

    deep : length (drop n stack) ≡ depth
    deep = length-drop n stack ∙ ap (λ (k : ℕ). k - n) stack-length

    written : get_or (set bases depth first) (length (drop n stack)) 0 ≡ first
    written =
        ap (λ (k : ℕ). get_or (set bases depth first) k 0) deep
        ∙ get_or-set_same bases depth first 0 (rw holds.bases-size (omega (arith, holds.depth-range, few)))

    pub holds-next : Holds page (x ∷ drop n operands) (set bases depth first) (suc count) (tree ∷ drop n stack)
    holds-next = record {
      summaries = ap₂ (λ (y : Operand) (ys : List Operand). y ∷ ys) (sym is) (ap (drop n) holds.summaries ∙ sym (map-drop operand_of n stack));
      firsts = (
        omega (arith, written, low),
        ap (stack_at page) written ∙ below,
        bases-above page (suc count) bases depth first (drop n stack) (omega (arith, deep))
            (bases-more page count bases (drop n stack) (bases-drop page count bases n stack holds.firsts)),
      );
      bases-size = length-set bases depth first ∙ holds.bases-size;
      depth-range = omega (arith, length-drop n operands, holds.depth-range);
    }
