-- `sandzguli::face::sandzguli_check` meets its contract: every outcome of the check is in the table, so its word fits.
-- Assumes nothing.
use mathlib.Core.Path.{ap, ◌∙◌, subst, sym}
use Rattle.sandzguli.specs.Words.{outcome_word, FitsWord}
use Rattle.sandzguli.proofs.WordLaws.{check-fits}
use Rattle.sandzguli.proofs.face.sandzguli_check.Goals as goal

pub outcome_word-requires : goal.outcome_word-requires
outcome_word-requires c =
    subst FitsWord (sym c.check.ensures.is_check) (check-fits c.args.page.now)

pub returns : goal.returns
returns c =
    c.outcome_word.ensures ∙ ap outcome_word c.check.ensures.is_check
