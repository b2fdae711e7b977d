-- `sandzguli::face::sandzguli_copy` meets its contract: every outcome is in the table, so its word fits. Assumes
-- nothing.
use mathlib.Core.Path.{ap, ◌∙◌, subst, sym}
use Rattle.sandzguli.specs.Words.{outcome_word, FitsWord}
use Rattle.sandzguli.proofs.WordLaws.{demand1-fits}
use Rattle.outcomes.specs.Calls.{copy}
use Rattle.outcomes.proofs.CallsLaws.{copy-demand1}
use Rattle.sandzguli.proofs.face.sandzguli_copy.Goals as goal

pub outcome_word-requires : goal.outcome_word-requires
outcome_word-requires c =
    let page = c.args.page.now in
    subst FitsWord (sym c.copy.ensures.answers)
    (demand1-fits page copy (copy-demand1 page) c.args.out.now)

pub returns : goal.returns
returns c =
    record {
      answers = c.outcome_word.ensures ∙ ap outcome_word c.copy.ensures.answers;
      leaves = c.copy.ensures.leaves;
    }
