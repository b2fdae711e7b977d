-- Tokens with labels or a fill in brackets, from the token's bytes: `labelled` and `filled` of Display with the token
-- as it lies in the code.
use Rattle.std.specs.Prelude.{ℕ, Bool, List, [], ◌∷◌, ◌++◌}
use Rattle.std.proofs.Math.Option.{Option, none, some}
use Rattle.base.specs.Splice.{join}
use Rattle.page.specs.Bytes.{bytes, pick}
use Rattle.records.specs.Field.{Labels}
use Rattle.records.specs.Literal.{Literal, plus, whole}
use Rattle.leaves.specs.Numeral.{display_fill}
use Rattle.label.specs.Label.{display_labels}
use Rattle.text.specs.Display.{filled}

unfoldable pub labelled_bytes : List ℕ → Labels → List ℕ
labelled_bytes w ls = join (w ∷ bytes " (" ∷ display_labels ls ∷ bytes ")" ∷ [])

unfoldable pub filled_bytes : List ℕ → Literal → List ℕ
filled_bytes w l = join (w ∷ bytes " (" ∷ display_fill l ∷ bytes ")" ∷ [])

-- the digits of a fill; 0 stands where there is none
abbrev pub fill_digits : Option Literal → Literal
fill_digits none = plus (whole 0)
fill_digits (some l) = l

-- both fills, equal by value or not
unfoldable pub both_fills : Bool → Literal → Literal → List ℕ
both_fills same l r = pick same (filled " fill" r) (filled " fill_left" l ++ filled " fill_right" r)
