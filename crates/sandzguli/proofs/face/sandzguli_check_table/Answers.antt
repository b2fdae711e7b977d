-- `sandzguli::face::sandzguli_check_table` meets its contract:
-- the numbers of the check with the table are known, so its
-- word fits. Assumes nothing.
use mathlib.Core.Path.{ap, ◌∙◌, subst, sym}
use Rattle.sandzguli.specs.Words.{outcome_word, FitsWord}
use Rattle.sandzguli.proofs.WordLaws.{check_table-fits}
use Rattle.sandzguli.proofs.face.sandzguli_check_table.Goals as goal

pub outcome_word-requires : goal.outcome_word-requires
outcome_word-requires c =
    subst FitsWord (sym c.check_table.ensures.is_check_table) (check_table-fits c.args.page.now)

pub returns : goal.returns
returns c =
    c.outcome_word.ensures ∙ ap outcome_word c.check_table.ensures.is_check_table
