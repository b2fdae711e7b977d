-- The length of joined texts up to a cap, for every separator that is as long as was said, up to the cap.
use Rattle.std.specs.Prelude.{ℕ, ◌≤◌, min, ◌≡◌, List, length}

pub record Measured (text : List ℕ → List ℕ) (gap cap r : ℕ) : Type 0 where
  pub bound : r ≤ cap
  pub is : (separator : List ℕ) → min (length separator) cap ≡ min gap cap → r ≡ min (length (text separator)) cap
