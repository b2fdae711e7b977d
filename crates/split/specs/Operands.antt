-- The split texts of a node's operands, with what the node writes between each two.
use Rattle.std.specs.Prelude.{ℕ, Bool, true, List}
use Rattle.records.specs.Stack.{operands_of}
use Rattle.ast.specs.Tables.{stack_at}
use Rattle.text.specs.Layout.{Layout, between_at, inner_indents, inner_level, pretty_indented, joined}
use Rattle.view.specs.View.{layout_at}
use Rattle.view.specs.declared.Node.{Node}

-- by the node's layout, `indents` and level
abbrev pub operands_at : Layout → Bool → ℕ → ℕ → List ℕ → ℕ → List ℕ
operands_at own indents level count page end =
    joined (between_at level own) (pretty_indented (inner_indents indents own) (inner_level level own))
    (pretty_indented true (inner_level level own)) (operands_of count (stack_at page end))

abbrev pub Operands : List ℕ → Node → Bool → ℕ → ℕ → ℕ → List ℕ
Operands page node indents level count end = operands_at (layout_at page node) indents level count page end
