-- Durations (duration.rs, `display_duration`): seven counts, years down to milliseconds. The units are those of
-- Prometheus 3.5, 'Querying basics', 'Float literals and time durations': "1w equals 7d", "1y equals 365d (ignoring
-- leap days)".
use Rattle.std.specs.Prelude.{ℕ, zero, suc, ◌*◌, ◌-◌, ◌/◌, ◌%◌, Bool, true, false, ◌&&◌, not, List, [], ◌∷◌, ◌++◌, eqb, get_or}
use Prim.Native.String.{String}
use Rattle.page.specs.Bytes.{pick, bytes}
use Rattle.leaves.specs.Decimal.{decimal}

pub record TimeUnit : Type 0 where
  pub name : String
  -- its length in milliseconds
  pub millis : ℕ
  -- whether it counts only if it divides the rest
  pub exact : Bool

abbrev pub time_unit : String → ℕ → Bool → TimeUnit
time_unit n m e = record { name = n; millis = m; exact = e }

abbrev pub units : List TimeUnit
units =
    time_unit "y" 31536000000 true
    ∷ time_unit "w" 604800000 true
    ∷ time_unit "d" 86400000 false
    ∷ time_unit "h" 3600000 false
    ∷ time_unit "m" 60000 false
    ∷ time_unit "s" 1000 false
    ∷ time_unit "ms" 1 false
    ∷ []

-- the unit at a place of the list
unfoldable pub unit_at : ℕ → TimeUnit
unit_at i = get_or units i (time_unit "" 1 false)

unfoldable pub unit_name : ℕ → List ℕ
unit_name i = bytes (unit_at i).name

-- how often a unit, exact or not, goes into so many milliseconds
unfoldable pub count_of : Bool → ℕ → ℕ → ℕ
count_of exact millis ms = pick (exact && not (eqb (ms % millis) 0)) 0 (ms / millis)

-- the counts of the units, in order, each of what those before it leave
unfoldable pub counts_of : List TimeUnit → ℕ → List ℕ
counts_of [] ms = []
counts_of (u ∷ us) ms =
    let count = count_of u.exact u.millis ms in
    count ∷ counts_of us (ms - count * u.millis)

unfoldable pub duration_counts : ℕ → List ℕ
duration_counts = counts_of units

-- each count that is not 0, with its unit
unfoldable pub display_count : ℕ → String → List ℕ
display_count zero name = []
display_count (suc n) name = decimal (suc n) ++ bytes name

unfoldable pub display_counts : List TimeUnit → List ℕ → List ℕ
display_counts [] ns = []
display_counts (u ∷ us) [] = []
display_counts (u ∷ us) (n ∷ ns) = display_count n u.name ++ display_counts us ns

unfoldable pub display_duration : ℕ → List ℕ
display_duration zero = bytes "0s"
display_duration (suc ms) = display_counts units (duration_counts (suc ms))
