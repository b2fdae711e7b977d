-- `sandzguli::face::sandzguli_canonical` meets its contract: every outcome is in the table, so its word fits. Assumes
-- nothing.
use mathlib.Core.Path.{ap, ◌∙◌, subst, sym}
use Rattle.sandzguli.specs.Words.{outcome_word, FitsWord}
use Rattle.sandzguli.proofs.WordLaws.{demand1-fits}
use Rattle.outcomes.specs.Calls.{canonical_text}
use Rattle.outcomes.proofs.CallsLaws.{canonical_text-demand1}
use Rattle.sandzguli.proofs.face.sandzguli_canonical.Goals as goal

pub outcome_word-requires : goal.outcome_word-requires
outcome_word-requires c =
    let page = c.args.page.now in
    subst FitsWord (sym c.canonical.ensures.answers)
    (demand1-fits page canonical_text (canonical_text-demand1 page) c.args.out.now)

pub returns : goal.returns
returns c =
    record {
      answers = c.outcome_word.ensures ∙ ap outcome_word c.canonical.ensures.answers;
      leaves = c.canonical.ensures.leaves;
    }
