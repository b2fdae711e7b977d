-- What the program `sheet` writes for a page (document 01, 'Text').
use Rattle.std.specs.Prelude.{ℕ, List, ◌++◌, take, replicate}
use Rattle.page.specs.Bytes.{bytes}
use Rattle.records.specs.Outcome.{Outcome, answer, refusal}
use Rattle.leaves.specs.Decimal.{decimal}
use Rattle.outcomes.specs.Calls.{Called, split_text}

-- the buffer that the program lends
abbrev pub program_buffer : List ℕ
program_buffer = replicate 65536 0

abbrev pub refused_line : ℕ → ℕ → List ℕ
refused_line n i = bytes "refused " ++ decimal n ++ bytes " at " ++ decimal i ++ bytes "\n"

-- what the program writes: the split text, or `refused N at R`, and a line feed
abbrev pub program_line : Outcome → List ℕ → List ℕ
program_line (answer k n) buffer = take n buffer ++ bytes "\n"
program_line (refusal n i) buffer = refused_line n i

unfoldable pub program_output : List ℕ → List ℕ
program_output page = let called : Called = split_text page program_buffer in program_line called.outcome called.buffer
