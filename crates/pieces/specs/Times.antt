-- The two parts of `display_times`, each with what stands before it.
use Rattle.std.specs.Prelude.{ℕ, List, ◌++◌}
use Rattle.page.specs.Bytes.{bytes}
use Rattle.records.specs.Time.{AtModifier, Offset}
use Rattle.leaves.specs.Time.{display_at, display_offset}

abbrev pub spaced_at : AtModifier → List ℕ
spaced_at a = bytes " " ++ display_at a

abbrev pub spaced_offset : Offset → List ℕ
spaced_offset o = bytes " offset " ++ display_offset o
