-- What holds of a block of the input whatever the system reads.
use Rattle.std.specs.Prelude.{ℕ, ◌≤◌, List, ◌≡◌, length, drop, Option, Some, None, Result, Ok, Err}
use Rattle.input.specs.declared.BadBlock.{BadBlock}

-- a block lies in the buffer, and the bytes after it are as they were; at the end of the input all are
abbrev pub BlockRead : List ℕ → List ℕ → Result (Option ℕ) BadBlock → Type 0
BlockRead before after (Ok (Some size)) = (size ≤ length before) × (drop size after ≡ drop size before)
BlockRead before after (Ok None) = after ≡ before
BlockRead before after (Err bad) = length after ≡ length before
