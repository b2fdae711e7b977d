use native.Mathlib.Omega.{arith}
use mathlib.Core.Path.{refl}
use Rattle.base.proofs.SpliceLaws.{begin, first, room, step, finish, cut-last}
use Rattle.leaves.proofs.DecimalLaws.{expansion-none, expansion-some}
use Rattle.leaves.proofs.decimal.+put_expansion.Goals as goal

pub put_decimal-point-requires : goal.put_decimal-point-requires
put_decimal-point-requires t c =
    first _ _ c.requires (expansion-none _ _ c.if-places-eq0.true)

pub put_byte-requires : goal.put_byte-requires
put_byte-requires t c =
    room (step (begin _ _ _ c.requires) (expansion-none _ _ c.if-places-eq0.true)
    c.put_decimal-point.ensures) (cut-last _)

pub returns-then-places-eq0 : goal.returns-then-places-eq0
returns-then-places-eq0 t c =
    finish (step (step (begin _ _ _ c.requires) (expansion-none _ _ c.if-places-eq0.true)
    c.put_decimal-point.ensures) (cut-last _) c.put_byte.ensures) refl

pub put_expansion-next-requires : goal.put_expansion-next-requires
put_expansion-next-requires t c = (
  omega (arith, c.decreases, c.if-places-eq0.false),
  first _ _ c.requires (expansion-some _ _ c.if-places-eq0.false),
)

pub put_byte-requires-2 : goal.put_byte-requires-2
put_byte-requires-2 t c =
    room (step (begin _ _ _ c.requires) (expansion-some _ _ c.if-places-eq0.false)
    c.put_expansion-next.ensures) (cut-last _)

pub returns : goal.returns
returns t c =
    finish (step (step (begin _ _ _ c.requires) (expansion-some _ _ c.if-places-eq0.false)
    c.put_expansion-next.ensures) (cut-last _) c.put_byte-2.ensures) refl
