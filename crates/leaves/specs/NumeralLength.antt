-- The length of a literal's text and of its text as a fill: the words for infinity are equally long.
use Rattle.std.specs.Prelude.{ℕ, ◌≡◌, length}
use Rattle.records.specs.Answers.{literal_of}
use Rattle.records.specs.declared.literal.Literal.{Literal}
use Rattle.leaves.specs.Numeral.{display_literal, display_fill}

pub record NumeralLength (l : Literal) (r : ℕ) : Type 0 where
  pub literal : r ≡ length (display_literal (literal_of l))
  pub fill : r ≡ length (display_fill (literal_of l))
