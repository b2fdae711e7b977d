-- `sandzguli::face::sandzguli_generations` meets its contract: the answer's number. Assumes nothing.
use mathlib.Core.Path.{ap, ◌∙◌}
use Rattle.generations.specs.Generations.{generations_number}
use Rattle.sandzguli.proofs.face.sandzguli_generations.Goals as goal

pub returns : goal.returns
returns c =
    c.generations_word.ensures ∙ ap generations_number c.generations_of.ensures
