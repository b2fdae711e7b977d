-- `generations::check_newer` meets its contract: its arrays hold the functions of Prometheus 3.0 by computation.
-- Assumes nothing.
use mathlib.Core.Path.{refl}
use Rattle.functions.proofs.CheckTableLaws.{table_of-contract}
use Rattle.generations.specs.Newer.{newer_functions}
use Rattle.generations.proofs.check_newer.Goals as goal

pub returns : goal.returns
unfolding newer_functions
returns c =
    table_of-contract newer_functions c.args.page.now _
    (c.check_with.ensures newer_functions (record { is-table = tt; holds = refl }))
