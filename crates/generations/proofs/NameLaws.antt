-- Which names decide: of a page that calls neither holt_winters nor double_exponential_smoothing both generations say
-- the same (`uncalled-same`), and one of these is called where one alone accepts (`older-calls`, `newer-calls`). What
-- the repository's table accepts of theirs: `newer-table`, `older-table`. Instances of the laws on any two tables, by
-- the computed tests of `Apart`. Assumes nothing.
use Prim.Native.Nat.{ℕ}
use mathlib.Core.Path.{◌≡◌, sym, subst}
use mathlib.Core.List.{List}
use Rattle.functions.specs.Functions.{functions}
use Rattle.functions.specs.Lookup.{check_table_of}
use Rattle.generations.specs.Older.{older_functions}
use Rattle.generations.specs.Newer.{newer_functions}
use Rattle.generations.specs.Generations.{generations}
use Rattle.generations.specs.Apart.{holt_winters, double_exponential_smoothing}
use Rattle.generations.specs.Apart.{older-rows, newer-rows, one_name, older-lacks, newer-lacks}
use Rattle.generations.specs.declared.Generations.{Generations}
use Rattle.generations.specs.declared.Generations.TheVariants.{Older, Newer, Both}
use Rattle.generations.proofs.GenerationsLaws.{Accepts, Tells, generations-tells}
use Rattle.generations.proofs.ApartLaws.{Calls, Apart, accepts-known, uncalled-alike, apart-calls, rows-accept}

older-apart : Apart older_functions newer_functions holt_winters double_exponential_smoothing
older-apart = record { alike = one_name; lacks = older-lacks }

newer-apart : Apart newer_functions older_functions double_exponential_smoothing holt_winters
newer-apart = record { alike = sym one_name; lacks = newer-lacks }

module _ (page : List ℕ) where
  tells : (g : Generations) → generations page ≡ g → Tells page g
  tells g e = subst (Tells page) e (generations-tells page)

  -- of a page that calls neither name both checks say the same, also why it is refused
  pub uncalled-same : (Calls page holt_winters → ⊥) → (Calls page double_exponential_smoothing → ⊥)
      → check_table_of older_functions page ≡ check_table_of newer_functions page
  uncalled-same =
      uncalled-alike older_functions newer_functions holt_winters double_exponential_smoothing older-apart page

  -- a page that the older alone accepts calls holt_winters
  pub older-calls : generations page ≡ Older → Calls page holt_winters
  older-calls e =
      apart-calls older_functions newer_functions holt_winters double_exponential_smoothing older-apart page
      (tells Older e).0 (tells Older e).1

  -- one that the newer alone accepts calls double_exponential_smoothing
  pub newer-calls : generations page ≡ Newer → Calls page double_exponential_smoothing
  newer-calls e =
      apart-calls newer_functions older_functions double_exponential_smoothing holt_winters newer-apart page
      (tells Newer e).1 (tells Newer e).0

  -- and one that both accept calls neither
  pub both-calls : generations page ≡ Both → (Calls page holt_winters → ⊥) × (Calls page double_exponential_smoothing → ⊥)
  both-calls e = (
    accepts-known newer_functions page (tells Both e).1 holt_winters newer-lacks,
    accepts-known older_functions page (tells Both e).0 double_exponential_smoothing older-lacks,
  )

  -- what the newer accepts, the check with the repository's table accepts
  pub newer-table : Accepts (check_table_of newer_functions page)
      → check_table_of functions page ≡ check_table_of newer_functions page
  newer-table passes =
      rows-accept newer_functions functions holt_winters newer-rows page passes
      (accepts-known newer_functions page passes holt_winters newer-lacks)

  -- and what the older accepts, where no holt_winters is called
  pub older-table : Accepts (check_table_of older_functions page) → (Calls page holt_winters → ⊥)
      → check_table_of functions page ≡ check_table_of older_functions page
  older-table passes apart = rows-accept older_functions functions holt_winters older-rows page passes apart
