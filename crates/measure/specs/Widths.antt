-- A table of how wide the nodes of a page are: the lengths of their texts up to 101, one byte more than a line has
-- (parser/mod.rs, `MAX_CHARACTERS_PER_LINE`); 0 where a node was not measured.
use Rattle.std.specs.Prelude.{ℕ, min, ◌≡◌, List, length, get_or}
use Rattle.ast.specs.Tables.{tree_at}
use Rattle.text.specs.Display.{display}

pub record Widths (page widths : List ℕ) : Type 0 where
  pub size : length widths ≡ 256
  pub right : (i : ℕ) → (get_or widths i 0 ≡ 0 → ⊥) → get_or widths i 0 ≡ min (length (display (tree_at page i))) 101
