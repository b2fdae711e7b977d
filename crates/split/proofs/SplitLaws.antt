-- The tree that record i ends, on one line or as the pieces of its layout: what the recursion for split text goes by.
use Prim.Native.Nat.{ℕ, ◌+◌, ◌-◌, ◌≤◌, ◌<◌, min}
use native.Mathlib.Omega.{arith}
use mathlib.Core.Path.{◌≡◌, sym, ap, ◌∙◌}
use mathlib.Core.Bool.{Bool, true}
use mathlib.Core.List.{List, [], ◌∷◌, ◌++◌, append-nil}
use lib.ListN.{length, length-append}
use Rattle.base.specs.Splice.{join}
use Rattle.base.proofs.SpliceLaws.{Run, start}
use Rattle.records.specs.Stack.{operands_of}
use Rattle.ast.specs.Tables.{stack_at, tree_at}
use Rattle.text.specs.Display.{display}
use Rattle.text.specs.Layout.{Layout, indent_if, front_at, between_at, rear_at, inner_indents, inner_level, pretty_indented, joined}
use Rattle.text.specs.LaidOut.{LaidOut}
use Rattle.text.specs.Measured.{Measured}
use Rattle.text.proofs.NodeLaws.{pretty_indented-line, pretty_indented-pieces}
use Rattle.text.proofs.LengthLaws.{len-node}
use Rattle.text.proofs.WriteLaws.{run-three}
use Rattle.split.specs.Operands.{operands_at}

-- the canonical length, measured up to 101, tells whether a line holds it
pub fits_line : (n r : ℕ) → r ≡ min n 101 → r ≤ 100 → n ≤ 100
fits_line n r e h = omega arith

pub over-line : (n r : ℕ) → r ≡ min n 101 → 100 < r → 100 < n
over-line n r e h = omega arith

-- ## On one line

module _ (page : List ℕ) (i : ℕ) (indents : Bool) (level : ℕ)
    (h : length (display (tree_at page i)) ≤ 100) where
  pub len-line : (cap line lead r : ℕ) → line ≡ min (length (display (tree_at page i))) 101
      → lead ≡ min (length (indent_if indents level)) cap → r ≡ min (lead + line) cap
      → r ≡ min (length (pretty_indented indents level (tree_at page i))) cap
  len-line cap line lead r e p q = omega (
    arith,
    h,
    ap length (pretty_indented-line page i indents level h)
        ∙ length-append (indent_if indents level) (display (tree_at page i)),
  )

  pub run-line : (o : List ℕ) (at : ℕ) → at + length (pretty_indented indents level (tree_at page i)) ≤ length o
      → Run o o at (pretty_indented indents level (tree_at page i)) (indent_if indents level ∷ display (tree_at page i) ∷ []) at
  unfolding join
  run-line o at room = start room
      (pretty_indented-line page i indents level h
      ∙ ap (λ (s : List ℕ). indent_if indents level ++ s) (sym (append-nil (display (tree_at page i)))))

-- ## By pieces

module _ {page : List ℕ} {i : ℕ} {own : Layout} {end count : ℕ} (s : LaidOut page i own end count)
    (indents : Bool) (level : ℕ) (h : 100 < length (display (tree_at page i))) where
  pub len-split : (gap cap x y z : ℕ) → x ≡ min (length (front_at indents level own)) cap
      → gap ≡ min (length (between_at level own)) (cap - x)
      → Measured
      (λ separator. joined separator (pretty_indented (inner_indents indents own) (inner_level level own))
      (pretty_indented true (inner_level level own)) (operands_of count (stack_at page end))) gap (cap - x) y
      → z ≡ min (length (rear_at level own)) (cap - x - y)
      → x + y + z ≡ min (length (pretty_indented indents level (tree_at page i))) cap
  len-split gap cap x y z a b c d =
      len-node (pretty_indented (inner_indents indents own) (inner_level level own))
      (pretty_indented true (inner_level level own)) _ (front_at indents level own) (between_at level own)
      (rear_at level own)
      (pretty_indented-pieces s indents level h) gap cap x y z a b c d

  pub run-split : (o : List ℕ) (at : ℕ) → at + length (pretty_indented indents level (tree_at page i)) ≤ length o
      → Run o o at (pretty_indented indents level (tree_at page i))
      (front_at indents level own ∷ operands_at own indents level count page end ∷ rear_at level own ∷ []) at
  run-split o at room = run-three (front_at indents level own) (operands_at own indents level count page end)
      (rear_at level own) o at (pretty_indented-pieces s indents level h) room
