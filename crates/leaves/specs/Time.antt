-- Texts of @ times and offsets (ast.rs, `AtModifier`, `Offset`).
use Rattle.std.specs.Prelude.{ℕ, List, ◌++◌}
use Rattle.page.specs.Bytes.{bytes}
use Rattle.records.specs.Time.{Offset, pos, neg, AtModifier, start, end, after, before}
use Rattle.leaves.specs.Decimal.{expansion}
use Rattle.leaves.specs.Duration.{display_duration}

-- seconds with three decimals (`{:.3}`). Up to 10^15 ms the float that the Rust prints is near enough for all three to
-- be right
unfoldable pub display_time : ℕ → List ℕ
display_time ms = bytes "@ " ++ expansion 3 ms

-- a time before 1970 prints as 1970, as the Rust does
unfoldable pub display_at : AtModifier → List ℕ
display_at start = bytes "@ start()"
display_at end = bytes "@ end()"
display_at (after n) = display_time n
display_at (before n) = display_time 0

unfoldable pub display_offset : Offset → List ℕ
display_offset (pos n) = display_duration n
display_offset (neg n) = bytes "-" ++ display_duration n
