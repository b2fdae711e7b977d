-- How the three tables stand to each other (document 02, No. 13: "The older has holt_winters, the newer
-- double_exponential_smoothing, same kinds"; "Where a document disagrees with the repository's table on a name or a
-- kind, the document decides here and the difference is recorded"), by computed tests. Together they fix every row of
-- both: 77 names, all but holt_winters the repository's with its signatures, and which of its 91 are missing.
use Prim.Native.String.{String}
use Rattle.std.specs.Prelude.{◌≡◌, refl, Bool, true, false, ◌&&◌, not, List, [], ◌∷◌, T, eqb, length}
use Rattle.std.proofs.Math.Option.{Option, none, some}
use Rattle.page.specs.Bytes.{pick, all, bytes, equal}
use Rattle.page.specs.Text.{Text}
use Rattle.records.specs.Signature.{Function}
use Rattle.functions.specs.Functions.{functions}
use Rattle.functions.specs.Lookup.{lookup, equal_signature}
use Rattle.generations.specs.Older.{older_functions}
use Rattle.generations.specs.Newer.{newer_functions}

abbrev pub holt_winters : Text
holt_winters = bytes "holt_winters"

abbrev pub double_exponential_smoothing : Text
double_exponential_smoothing = bytes "double_exponential_smoothing"

-- a table without the functions of a name
abbrev pub without : Text → List Function → List Function
without name [] = []
without name (f ∷ fs) = let more = without name fs in pick (equal f.name name) more (f ∷ more)

-- both are there, with one signature
abbrev pub is_alike : Option Function → Option Function → Bool
is_alike none g = false
is_alike (some f) none = false
is_alike (some f) (some g) = equal_signature f g

-- the table has a function of this name with this signature
abbrev pub is_row_of : List Function → Function → Bool
is_row_of table f = is_alike (some f) (lookup table f.name)

abbrev is_missing : Option Function → Bool
is_missing none = true
is_missing (some f) = false

abbrev lacks : List Function → String → Bool
lacks table name = is_missing (lookup table (bytes name))

-- each row of the two but holt_winters is a row of the repository's
pub older-rows : T (all (is_row_of functions) (without holt_winters older_functions))
unfolding functions lookup older_functions
older-rows = tt

pub newer-rows : T (all (is_row_of functions) (without holt_winters newer_functions))
unfolding functions lookup newer_functions
newer-rows = tt

-- the two differ in one name
pub one_name : without holt_winters older_functions ≡ without double_exponential_smoothing newer_functions
unfolding older_functions newer_functions
one_name = refl

-- which has one signature
one_signature : T (is_alike (lookup older_functions holt_winters) (lookup newer_functions double_exponential_smoothing))
unfolding lookup older_functions newer_functions
one_signature = tt

-- so many functions have both, and the repository
counted : T (eqb (length older_functions) 77 && eqb (length newer_functions) 77 && eqb (length functions) 91)
unfolding functions older_functions newer_functions
counted = tt

-- names of the repository that neither document has
abbrev undocumented : List String
undocumented =
    "end" ∷ "first_over_time" ∷ "histogram_quantiles" ∷ "integral" ∷ "max_of" ∷ "min_of" ∷ "range" ∷ "start"
    ∷ "start_timestamp" ∷ "step" ∷ "ts_of_first_over_time" ∷ "ts_of_last_over_time" ∷ "ts_of_max_over_time"
    ∷ "ts_of_min_over_time" ∷ []

lacking : T (
    all (lacks older_functions) undocumented && all (lacks newer_functions) undocumented
    && all (λ name. not (lacks functions name)) undocumented && lacks functions "holt_winters"
    )
unfolding functions lookup older_functions newer_functions
lacking = tt

-- and each of the two lacks the other's
pub older-lacks : lookup older_functions double_exponential_smoothing ≡ none
unfolding lookup older_functions
older-lacks = refl

pub newer-lacks : lookup newer_functions holt_winters ≡ none
unfolding lookup newer_functions
newer-lacks = refl
