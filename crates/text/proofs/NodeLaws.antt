-- The text of the tree that a record ends, from its layout and its operands on the stack: what the recursive functions
-- go by.
use Prim.Native.Nat.{ℕ, ◌≤◌, ◌<◌}
use mathlib.Core.Path.{◌≡◌, ap₂, ◌∙◌}
use mathlib.Core.Bool.{Bool, true}
use mathlib.Core.List.{List, ◌++◌}
use lib.ListN.{length}
use Rattle.records.specs.Stack.{operands_of}
use Rattle.ast.specs.Expr.{Expr}
use Rattle.ast.specs.Tables.{stack_at, tree_at}
use Rattle.text.specs.Display.{display}
use Rattle.text.specs.Pretty.{max_characters_per_line}
use Rattle.text.specs.Layout.{Layout, front, between, rear, indent_if, front_at, between_at, rear_at, inner_indents, inner_level, pretty_indented, joined}
use Rattle.text.specs.LaidOut.{LaidOut}
use Rattle.text.proofs.DisplayLaws.{by-pieces}
use Rattle.text.proofs.PrettyLaws.{short, long}
use Rattle.text.proofs.SoundLaws.{tree-sound}

module _ {page : List ℕ} {i : ℕ} {own : Layout} {end count : ℕ} (s : LaidOut page i own end count) where
  pub display-pieces : display (tree_at page i) ≡ front own ++ (joined (between own) display display (operands_of count (stack_at page end)) ++ rear own)
  display-pieces =
      by-pieces (tree_at page i)
      ∙ ap₂ (λ (o : Layout) (es : List Expr). front o ++ (joined (between o) display display es ++ rear o)) s.layout s.operands

  -- a node longer than a line
  pub pretty_indented-pieces : (indents : Bool) (level : ℕ) → max_characters_per_line < length (display (tree_at page i))
      → pretty_indented indents level (tree_at page i)
      ≡ front_at indents level own
      ++ (joined (between_at level own) (pretty_indented (inner_indents indents own) (inner_level level own))
      (pretty_indented true (inner_level level own)) (operands_of count (stack_at page end)) ++ rear_at level own)
  pretty_indented-pieces indents level h =
      long (tree_at page i) (tree-sound page i) level h indents
      ∙ ap₂
      (λ (o : Layout) (es : List Expr).
      front_at indents level o
      ++ (joined (between_at level o) (pretty_indented (inner_indents indents o) (inner_level level o))
      (pretty_indented true (inner_level level o)) es ++ rear_at level o))
      s.layout
      s.operands

-- one that fits a line
pub pretty_indented-line : (page : List ℕ) (i : ℕ) (indents : Bool) (level : ℕ)
    → length (display (tree_at page i)) ≤ max_characters_per_line → pretty_indented indents level (tree_at page i) ≡ indent_if indents level ++ display (tree_at page i)
pretty_indented-line page i indents level h = short (tree_at page i) (tree-sound page i) level h indents
