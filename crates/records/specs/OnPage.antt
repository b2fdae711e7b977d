-- What holds of values that were read.
use Rattle.std.specs.Prelude.{ℕ, List, Some, None, Result, Ok, Err, ◌≡◌}
use Rattle.std.specs.Prelude.{Option as Given}
use Rattle.page.specs.declared.fault.Fault.{Fault}

module _ {C : Type 0} where
  -- nothing is asked of it
  abbrev pub anything : List ℕ → C → Type 0
  anything page x = Unit {0}

  -- of a value, if there is one
  abbrev pub OptionStored : (C → Type 0) → Given C → Type 0
  OptionStored P None = Unit {0}
  OptionStored P (Some x) = P x

-- what was read, wrapped
module _ {C D : Type 0} where
  abbrev pub Wrapped : (C → D → Type 0) → Result (C × ℕ) Fault → Result (D × ℕ) Fault → Type 0
  Wrapped form (Ok f) (Ok g) = form f.0 g.0 × (f.1 ≡ g.1)
  Wrapped form (Ok f) (Err d) = ⊥
  Wrapped form (Err e) (Ok g) = ⊥
  Wrapped form (Err e) (Err d) = e ≡ d
