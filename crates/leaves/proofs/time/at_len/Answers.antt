-- `leaves::time::at_len` meets its contract, form by form. Assumes nothing.
use native.Mathlib.Omega.{arith}
use Rattle.leaves.proofs.TimeLaws.{display_at-start, display_at-end, at-len-after, at-len-before}
use Rattle.leaves.proofs.time.at_len.Goals as goal

pub overflow_add-result : goal.overflow_add-result
overflow_add-result c =
    omega (arith, c.decimal_len.ensures)

pub returns-in-Start : goal.returns-in-Start
returns-in-Start c =
    rw (display_at-start _ c.in-Start.is) (omega arith)

pub returns-in-End : goal.returns-in-End
returns-in-End c =
    rw (display_at-end _ c.in-End.is) (omega arith)

pub returns-in-After : goal.returns-in-After
returns-in-After c =
    at-len-after _ _ _ c.in-After.is c.decimal_len.ensures

pub returns-in-Before : goal.returns-in-Before
returns-in-Before c =
    at-len-before _ _ c.in-Before.is
