-- `sandzguli::face::sandzguli_check_older` meets its contract: the numbers of the check with a table are known, so that
-- its word fits. Assumes nothing.
use mathlib.Core.Path.{ap, ◌∙◌, subst, sym}
use Rattle.generations.proofs.GenerationsLaws.{older-kinded}
use Rattle.generations.specs.Older.{older_functions}
use Rattle.sandzguli.specs.Words.{outcome_word, FitsWord}
use Rattle.sandzguli.proofs.WordLaws.{check_table_of-fits}
use Rattle.sandzguli.proofs.face.sandzguli_check_older.Goals as goal

pub outcome_word-requires : goal.outcome_word-requires
outcome_word-requires c =
    subst FitsWord (sym c.check_older.ensures.is_check_table)
    (check_table_of-fits older_functions older-kinded c.args.page.now)

pub returns : goal.returns
returns c =
    c.outcome_word.ensures ∙ ap outcome_word c.check_older.ensures.is_check_table
