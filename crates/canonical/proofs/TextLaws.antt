-- The tree that record i ends, as its pieces: what the recursion for canonical text goes by.
use Prim.Native.Nat.{ℕ, ◌+◌, ◌-◌, ◌≤◌, min}
use mathlib.Core.Path.{◌≡◌}
use native.Mathlib.Omega.{arith}
use mathlib.Core.List.{List, [], ◌∷◌, ◌++◌}
use lib.ListN.{length, length-append}
use Rattle.page.specs.Bytes.{bytes}
use Rattle.base.proofs.SpliceLaws.{Run}
use Rattle.records.specs.Stack.{operands_of}
use Rattle.ast.specs.Tables.{stack_at, tree_at}
use Rattle.text.specs.Display.{display}
use Rattle.text.specs.Layout.{Layout, front, between, rear, joined}
use Rattle.text.specs.LaidOut.{LaidOut}
use Rattle.text.specs.Measured.{Measured}
use Rattle.text.proofs.NodeLaws.{display-pieces}
use Rattle.text.proofs.LengthLaws.{len-node}
use Rattle.text.proofs.WriteLaws.{run-three}

pub run-node : {page : List ℕ} {i : ℕ} {own : Layout} {end count : ℕ} → LaidOut page i own end count
    → (o : List ℕ) (at : ℕ) → at + length (display (tree_at page i)) ≤ length o
    → Run o o at (display (tree_at page i)) (front own ∷ joined (between own) display display (operands_of count (stack_at page end)) ∷ rear own ∷ []) at
run-node s o at h = run-three _ _ _ o at (display-pieces s) h

pub len-tree : {page : List ℕ} {i : ℕ} {own : Layout} {end count : ℕ} → LaidOut page i own end count → (gap cap x y z : ℕ) → x ≡ min (length (front own)) cap
    → gap ≡ min (length (between own)) (cap - x)
    → Measured (λ separator. joined separator display display (operands_of count (stack_at page end))) gap (cap - x) y
    → z ≡ min (length (rear own)) (cap - x - y)
    → x + y + z ≡ min (length (display (tree_at page i))) cap
len-tree {own = own} s = len-node display display _ (front own) (between own) (rear own) (display-pieces s)

-- a word between two spaces
pub spaced : (o : List ℕ) → length (bytes " " ++ o ++ bytes " ") ≡ length o + 2
spaced o = omega (arith, length-append (bytes " " ++ o) (bytes " "))
