-- `measure::width` meets its contract: what the table has is right. Assumes nothing.
use native.Mathlib.Omega.{arith}
use Rattle.measure.proofs.width.Goals as goal

pub bounds-widths-i : goal.bounds-widths-i
bounds-widths-i c =
    omega (arith, c.requires.tables.few, c.requires.known.size)

pub overflow_cast-known : goal.overflow_cast-known
overflow_cast-known c =
    omega (arith, c.type_inv.widths c.args.i)

pub returns-then-known-ne0 : goal.returns-then-known-ne0
returns-then-known-ne0 c =
    c.requires.known.right c.args.i c.if-known-ne0.true
