use native.Mathlib.Omega.{arith}
use mathlib.Core.Path.{refl, ap}
use lib.ListN.{length}
use Rattle.base.proofs.SpliceLaws.{begin, first, room, step, finish, cut-last}
use Rattle.leaves.proofs.DecimalLaws.{decimal-last, decimal-more}
use Rattle.leaves.proofs.decimal.+put_decimal.Goals as goal

pub put_byte-requires : goal.put_byte-requires
put_byte-requires t c =
    omega (arith, ap length (decimal-last _ c.if-n-lt10.true), c.requires)

pub returns-then-n-lt10 : goal.returns-then-n-lt10
returns-then-n-lt10 t c =
    rw (decimal-last _ c.if-n-lt10.true) c.put_byte.ensures

pub put_decimal-next-requires : goal.put_decimal-next-requires
put_decimal-next-requires t c =
    (omega (arith, c.decreases), first _ _ c.requires (decimal-more _ c.if-n-lt10.false))

pub put_byte-requires-2 : goal.put_byte-requires-2
put_byte-requires-2 t c =
    room (step (begin _ _ _ c.requires) (decimal-more _ c.if-n-lt10.false)
    c.put_decimal-next.ensures) (cut-last _)

pub returns : goal.returns
returns t c =
    finish (step (step (begin _ _ _ c.requires) (decimal-more _ c.if-n-lt10.false)
    c.put_decimal-next.ensures) (cut-last _) c.put_byte-2.ensures) refl
