-- `generations::generations_of` meets its contract: where the walk accepts, the table's first fault among its records
-- decides for each table, as in the check with that table; where it refuses, so do both checks. Assumes nothing.
use mathlib.Core.Path.{refl, ◌∙◌}
use Rattle.table_check.proofs.OutcomeLaws.{accepts-standing, accepted-with}
use Rattle.generations.specs.Older.{older_functions}
use Rattle.generations.specs.Newer.{newer_functions}
use Rattle.generations.proofs.GenerationsLaws.{ok-accepts, refused-neither, outcomes-generations}
use Rattle.generations.proofs.generations_of.Goals as goal

pub outcome_with-older-requires : goal.outcome_with-older-requires
outcome_with-older-requires c =
    accepts-standing (rw c.in-Ok.is at c.walk.ensures.says)

pub outcome_with-newer-requires : goal.outcome_with-newer-requires
outcome_with-newer-requires c =
    accepts-standing (rw c.in-Ok.is at c.walk.ensures.says)

pub returns-in-Ok : goal.returns-in-Ok
unfolding older_functions newer_functions
returns-in-Ok c =
    let says = rw c.in-Ok.is at c.walk.ensures.says in
    outcomes-generations c.args.page.now
    (accepted-with says c.outcome_with-older.ensures older_functions (record { is-table = tt; holds = refl }))
    (accepted-with says c.outcome_with-newer.ensures newer_functions (record { is-table = tt; holds = refl }))
    (c.is_ok.ensures.value ∙ ok-accepts c.outcome_with-older.result)
    (c.is_ok-in-Ok.ensures.value ∙ ok-accepts c.outcome_with-newer.result)
    c.accepting.ensures

pub returns-in-Err : goal.returns-in-Err
returns-in-Err c =
    refused-neither (rw c.in-Err.is at c.walk.ensures.says)
