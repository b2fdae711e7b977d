-- `functions::table::find_function` meets its contract: the arrays hold the table of the definition, by computation.
-- Assumes nothing.
use mathlib.Core.Path.{refl, ◌∙◌}
use Rattle.functions.specs.Functions.{functions}
use Rattle.functions.proofs.TableLaws.{formed-place}
use Rattle.functions.proofs.table.find_function.Goals as goal

pub returns : goal.returns
unfolding functions
returns c =
    c.find.ensures ∙ formed-place {table = functions} (record { is-table = tt; holds = refl }) _
