-- `sandzguli::face::sandzguli_signature` meets its contract: it is refused with 37 or 5 only, so its word fits.
-- Assumes nothing.
use mathlib.Core.Path.{ap, ◌∙◌, subst, sym}
use Rattle.sandzguli.specs.Words.{outcome_word, FitsWord}
use Rattle.sandzguli.proofs.WordLaws.{signature-fits}
use Rattle.sandzguli.proofs.face.sandzguli_signature.Goals as goal

pub outcome_word-requires : goal.outcome_word-requires
outcome_word-requires c =
    subst FitsWord (sym c.signature.ensures.answers)
    (signature-fits c.args.name.now c.args.out.now)

pub returns : goal.returns
returns c =
    record {
      answers = c.outcome_word.ensures ∙ ap outcome_word c.signature.ensures.answers;
      leaves = c.signature.ensures.leaves;
    }
