-- `view::fields_start` meets its contract: a start is a number of 16 bits. Assumes nothing.
use native.Mathlib.Omega.{arith}
use Rattle.view.proofs.fields_start.Goals as goal

pub overflow_cast-start : goal.overflow_cast-start
overflow_cast-start c =
    omega (arith, c.type_inv.starts c.args.i)

pub overflow_add-result : goal.overflow_add-result
overflow_add-result c =
    omega (arith, c.type_inv.starts c.args.i)
