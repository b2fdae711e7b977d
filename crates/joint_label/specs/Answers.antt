-- What the answers of this crate mean: a part of the page by its ends is the definition's part by its start and its
-- size.
use Rattle.std.specs.Prelude.{ℕ, ◌-◌, List, [], ◌∷◌, ◌≡◌, length, Option, Some, None}
use Rattle.page.specs.Read.{Read, Reader, and_then, ◌>>=◌, return}
use Rattle.page.specs.Number.{read_choice}
use Rattle.page.specs.Answers.{Lies}
use Rattle.page.specs.declared.text.Span.{Span}
use Rattle.records.specs.Field.{Labels, read_flag}
use Rattle.records.specs.Modifier.{read_label_modifier}
use Rattle.ast.specs.CheckAst.{on_labels}
use Rattle.ast.specs.Part.{Part, empty_part, Placed, read_placed, first_in, placed_forms, part_in}

abbrev pub span_part : Span → Part
span_part s = record { start = s.start; size = s.end - s.start }

-- the part itself, not its bytes alone: the same bytes may stand in the on list
pub record IsPart (page : List ℕ) (part : Part) (span : Span) : Type 0 where
  pub is : span_part span ≡ part
  pub lies : Lies page span

-- the same of a label that was looked for: the part is empty where there is none
abbrev pub PartFound : List ℕ → Part → Option Span → Type 0
PartFound page part None = part ≡ empty_part
PartFound page part (Some span) = IsPart page part span

-- the part of the label that some bytes begin with
abbrev pub part_at : ℕ → List ℕ → Part
part_at size s = part_in size (and_then (read_placed s) (λ p. return (p ∷ [])))

-- the part of the first label that is also in the on list, of labels that were read
abbrev pub first_part : List ℕ → Labels → Read (List Placed) → Part
first_part page on read = part_in (length page) (and_then read (λ placed. return (first_in on placed)))

-- what follows kind, code and presence in `read_joint`
abbrev pub read_grouped : Reader (List Placed)
read_grouped = read_flag >>= λ bool. read_label_modifier >>= λ matching. read_choice placed_forms >>= λ placed. return (first_in (on_labels matching) placed)
