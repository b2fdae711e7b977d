-- `copy::whole::end_of` meets its contract, by the table of starts. Assumes nothing.
use Prim.Native.Nat.{◌+◌}
use native.Mathlib.Omega.{arith}
use Rattle.copy.proofs.StartsLaws.{starts-few, starts-next, starts-last}
use Rattle.copy.proofs.whole.end_of.Goals as goal

pub overflow_add-next : goal.overflow_add-next
overflow_add-next c =
    omega (arith, starts-few c.requires.0)

pub offset_bounds-starts-next : goal.offset_bounds-starts-next
offset_bounds-starts-next c =
    omega (arith, starts-few c.requires.0)

pub bounds-starts-next : goal.bounds-starts-next
bounds-starts-next c =
    omega (arith, starts-few c.requires.0, c.requires.0.size)

pub overflow_cast-result : goal.overflow_cast-result
overflow_cast-result c =
    omega (arith, c.type_inv.starts (c.args.i + 1))

pub returns-then-next-n : goal.returns-then-next-n
returns-then-next-n c =
    starts-next c.requires.0 c.args.i c.if-next-n.true

pub returns-else-next-n : goal.returns-else-next-n
returns-else-next-n c =
    starts-last c.requires.0 c.args.i c.requires.1 c.if-next-n.false
