-- `indented::indent_len` meets its contract. Assumes nothing.
use Rattle.indented.proofs.IndentLaws.{indented-len}
use native.Mathlib.Omega.{arith}
use Rattle.indented.proofs.indent_len.Goals as goal

pub overflow_mul-level : goal.overflow_mul-level
overflow_mul-level c =
    omega (arith, c.requires)

pub returns-then-indents : goal.returns-then-indents
returns-then-indents c =
    indented-len _ _ _ _ c.if-indents.true c.capped_add.ensures

pub returns : goal.returns
returns c =
    rw c.if-indents.false (omega arith)
