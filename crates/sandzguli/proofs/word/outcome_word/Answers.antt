-- `sandzguli::word::outcome_word` meets its contract: a refusal's number and record are small. Assumes nothing.
use native.Mathlib.Omega.{arith}
use Rattle.records.specs.Outcome.{refusal}
use Rattle.records.specs.Answers.{kind_of}
use Rattle.rules.specs.Answers.{refusal_number}
use Rattle.sandzguli.specs.Words.{FitsWord}
use Rattle.sandzguli.proofs.WordLaws.{kind_number-small}
use Rattle.sandzguli.proofs.word.outcome_word.Goals as goal
use Rattle.sandzguli.proofs.word.outcome_word.Goals.{In-Err}

-- a refusal's number and its record are small
inside : (c : In-Err)
    → FitsWord (refusal (refusal_number c.in-Err.refused.refusal) c.in-Err.refused.index)
inside c = rw c.in-Err.is at c.requires

pub overflow_add-result : goal.overflow_add-result
overflow_add-result c =
    omega (arith, kind_number-small (kind_of c.in-Ok.accepted.kind), c.kind_number.ensures)

pub overflow_mul-result-in-Err : goal.overflow_mul-result-in-Err
overflow_mul-result-in-Err c =
    omega (arith, (inside (goal.at.overflow_mul-result-in-Err c).In-Err).0, c.refusal_number.ensures)

pub overflow_add-result-in-Err : goal.overflow_add-result-in-Err
overflow_add-result-in-Err c =
    omega (arith, (inside (goal.at.overflow_add-result-in-Err c).In-Err).0, c.refusal_number.ensures)

pub overflow_add-result-in-Err-2 : goal.overflow_add-result-in-Err-2
overflow_add-result-in-Err-2 c =
    omega (
      arith,
      (inside (goal.at.overflow_add-result-in-Err-2 c).In-Err).0,
      (inside (goal.at.overflow_add-result-in-Err-2 c).In-Err).1,
      c.refusal_number.ensures,
    )

pub returns-in-Ok : goal.returns-in-Ok
returns-in-Ok c =
    rw (c.in-Ok.is, c.kind_number.ensures)

pub returns-in-Err : goal.returns-in-Err
returns-in-Err c =
    rw (c.in-Err.is, c.refusal_number.ensures)
