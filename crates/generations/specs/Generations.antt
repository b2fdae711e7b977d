-- Which server generations accept a page (document 02, No. 13: "Asked with a page, say which generations accept it,
-- each by No. 2's check with its own table: neither, one (and which) or both").
use Rattle.std.specs.Prelude.{ℕ, Bool, true, false, List}
use Rattle.records.specs.Outcome.{Outcome, answer, refusal}
use Rattle.functions.specs.Lookup.{check_table_of}
use Rattle.generations.specs.Newer.{newer_functions}
use Rattle.generations.specs.Older.{older_functions}
use Rattle.generations.specs.declared.Generations.{Generations}
use Rattle.generations.specs.declared.Generations.TheVariants.{Neither, Older, Newer, Both}

-- whatever its kind
abbrev pub accepts : Outcome → Bool
accepts (answer k n) = true
accepts (refusal n i) = false

-- by the older, and by the newer
abbrev pub accepted_by : Bool → Bool → Generations
accepted_by true true = Both
accepted_by true false = Older
accepted_by false true = Newer
accepted_by false false = Neither

abbrev pub generations : List ℕ → Generations
generations page = accepted_by (accepts (check_table_of older_functions page)) (accepts (check_table_of newer_functions page))

-- as a number, for C (house format)
abbrev pub generations_number : Generations → ℕ
generations_number Neither = 0
generations_number Older = 1
generations_number Newer = 2
generations_number Both = 3
