-- `label::sort::place` meets its contract: the next one moves down, or the item is put here. Assumes nothing.
use native.Mathlib.Omega.{arith}
use Rattle.label.proofs.SortLaws.{place-start, next-print, place-on, place_here, place-last}
use Rattle.label.proofs.sort.place.Goals as goal

pub loop-j-init : goal.loop-j-init
loop-j-init c =
    place-start _ _ _ _ c.requires.1 c.requires.2

pub printed_at_most-requires : goal.printed_at_most-requires
printed_at_most-requires c =
    (c.requires.0, next-print _ c.loop-j.invariant c.loop-j-test.true)

pub returns-then-printed_at_most : goal.returns-then-printed_at_most
returns-then-printed_at_most c =
    place_here _ _ c.loop-j.invariant c.loop-j-test.true c.printed_at_most.ensures c.if-printed_at_most.true

pub loop-j-smaller : goal.loop-j-smaller
loop-j-smaller c =
    omega (arith, c.loop-j.invariant.size, c.loop-j-test.true)

pub loop-j-preserved : goal.loop-j-preserved
loop-j-preserved c =
    place-on _ _ c.loop-j.invariant c.loop-j-test.true c.printed_at_most.ensures c.if-printed_at_most.false

pub returns : goal.returns
returns c =
    place-last c.loop-j.invariant c.loop-j-test.false
