-- `label::sort::arrange` meets its contract: each, from the last on, is put among those behind it. Assumes nothing.
use native.Mathlib.Omega.{arith}
use Rattle.label.proofs.SortLaws.{arrange-start, arrange-on, arrange-end, behind-print, own_print}
use Rattle.label.proofs.sort.arrange.Goals as goal

pub loop-i-init : goal.loop-i-init
loop-i-init c =
    arrange-start _ _

pub place-requires : goal.place-requires
place-requires c = (
  own_print _ c.requires c.loop-i.invariant c.loop-i-test.true,
  omega (arith, c.loop-i.invariant.size, c.loop-i.invariant.upto, c.loop-i-test.true),
  behind-print c.loop-i.invariant c.loop-i-test.true,
)

pub loop-i-preserved : goal.loop-i-preserved
loop-i-preserved c =
    arrange-on _ c.requires c.loop-i.invariant (omega (arith, c.loop-i-test.true))
    c.place.ensures c.place.auto.order

pub returns : goal.returns
returns c =
    arrange-end c.loop-i.invariant (omega (arith, c.loop-i-test.false))
