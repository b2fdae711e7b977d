-- The three lines of the program show_records, as the texts that are put (its head; oracle/src/show.rs, `lines`).
use Rattle.std.specs.Prelude.{ℕ, List, [], ◌∷◌, ◌++◌}
use Rattle.page.specs.Bytes.{bytes}
use Rattle.page.specs.Read.{FieldFault, fault_number}
use Rattle.leaves.specs.Decimal.{decimal}
use Rattle.reader.specs.declared.Record.{Record}
use Rattle.record_lines.specs.Line.{spaced}
use Rattle.record_lines.specs.Numbers.{record_numbers}

-- the position after the record, and its numbers
abbrev pub record_line : List ℕ → Record → ℕ → List (List ℕ)
record_line page r next = decimal next ∷ spaced (record_numbers page r) ++ (bytes "\n" ∷ [])

abbrev pub fault_line : FieldFault → ℕ → List (List ℕ)
fault_line f index = bytes "fault" ∷ spaced (fault_number f ∷ []) ++ (bytes " at" ∷ spaced (index ∷ []) ++ (bytes "\n" ∷ []))

abbrev pub end_line : ℕ → List (List ℕ)
end_line index = bytes "end" ∷ spaced (index ∷ []) ++ (bytes "\n" ∷ [])
