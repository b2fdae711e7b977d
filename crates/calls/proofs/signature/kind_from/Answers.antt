-- `calls::signature::kind_from` meets its contract: the number says which kind. Assumes nothing.
use native.Mathlib.Omega.{arith}
use Rattle.records.specs.Kind.{vector, scalar, matrix}
use Rattle.calls.proofs.SignatureLaws.{is-kind, is-string}
use Rattle.calls.proofs.signature.kind_from.Goals as goal

pub returns-in-0 : goal.returns-in-0
returns-in-0 c =
    rw c.in-0.is (is-kind vector)

pub returns-in-1 : goal.returns-in-1
returns-in-1 c =
    rw c.in-1.is (is-kind scalar)

pub returns-in-2 : goal.returns-in-2
returns-in-2 c =
    rw c.in-2.is (is-kind matrix)

pub returns-in_default : goal.returns-in_default
returns-in_default c =
    is-string _ (omega arith)
