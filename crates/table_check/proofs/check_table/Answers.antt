-- `table_check::check_table` meets its contract: the repository's arrays hold its function table by computation, and
-- demand 3 is a law of the definition (`table-demand3`). Assumes nothing.
use mathlib.Core.Path.{refl, sym, subst}
use Rattle.functions.specs.Functions.{functions}
use Rattle.functions.specs.TableContract.{TableDemand3}
use Rattle.functions.proofs.CheckTableLaws.{table-demand3}
use Rattle.table_check.proofs.check_table.Goals as goal

pub returns : goal.returns
unfolding functions
returns c =
    let is = c.check_with.ensures functions (record { is-table = tt; holds = refl }) in
    record {
      is_check_table = is;
      demand3 = subst (TableDemand3 c.args.page.now) (sym is) (table-demand3 c.args.page.now);
    }
