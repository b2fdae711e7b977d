-- `generations::check_older` meets its contract: its arrays hold the functions of Prometheus 2.55 by computation.
-- Assumes nothing.
use mathlib.Core.Path.{refl}
use Rattle.functions.proofs.CheckTableLaws.{table_of-contract}
use Rattle.generations.specs.Older.{older_functions}
use Rattle.generations.proofs.check_older.Goals as goal

pub returns : goal.returns
unfolding older_functions
returns c =
    table_of-contract older_functions c.args.page.now _
    (c.check_with.ensures older_functions (record { is-table = tt; holds = refl }))
