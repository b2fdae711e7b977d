-- `sandzguli::face::sandzguli_check_operators` meets its contract: the numbers of the check that follows the operators
-- document are known, so its word fits. Assumes nothing.
use mathlib.Core.Path.{ap, ◌∙◌, subst, sym}
use Rattle.sandzguli.specs.Words.{outcome_word, FitsWord}
use Rattle.sandzguli.proofs.WordLaws.{check_operators-fits}
use Rattle.sandzguli.proofs.face.sandzguli_check_operators.Goals as goal

pub outcome_word-requires : goal.outcome_word-requires
outcome_word-requires c =
    subst FitsWord (sym c.check_operators.ensures.is_check_operators)
    (check_operators-fits c.args.page.now)

pub returns : goal.returns
returns c =
    c.outcome_word.ensures ∙ ap outcome_word c.check_operators.ensures.is_check_operators
