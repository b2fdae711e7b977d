-- `label::matcher::collect` meets its contract: each matcher read is stored behind those before it. Assumes nothing.
use Prim.Native.Nat.{◌+◌, ◌-◌, ◌<◌}
use mathlib.Core.Path.{◌≡◌, subst}
use native.Mathlib.Omega.{arith}
use lib.ListN.{drop}
use Rattle.page.proofs.ListLaws.{first_read, others-read}
use Rattle.records.specs.Matcher.{read_matcher}
use Rattle.label.specs.Printed.{Collected}
use Rattle.label.proofs.CollectLaws.{read-allowed, collect-start, collect-room, collect-on}
use Rattle.label.proofs.CollectLaws.{collect-end}
use Rattle.label.proofs.matcher.collect.Goals as goal

pub loop-i-init : goal.loop-i-init
loop-i-init c =
    let all : c.args.count - 0 ≡ c.args.count = omega arith in
    rw all (collect-start _ _ _ _ c.requires.room, c.requires.stored)

pub stored_matcher-next-requires : goal.stored_matcher-next-requires
stored_matcher-next-requires c =
    first_read read_matcher _ (drop c.loop-i.at c.args.page.now) c.loop-i.invariant.1 (omega (arith, c.loop-i-test.true))

pub printed-requires : goal.printed-requires
printed-requires c =
    let allowed = read-allowed (drop c.loop-i.at c.args.page.now) c.stored_matcher-next.ensures.reads in
    record { matcher = (c.stored_matcher-next.ensures.lies, allowed); limit = c.requires.limit }

pub bounds-order-i : goal.bounds-order-i
bounds-order-i c =
    collect-room c.loop-i.invariant.0 (omega (arith, c.loop-i-test.true)) c.stored_matcher-next.ensures.reads

pub loop-i-preserved : goal.loop-i-preserved
loop-i-preserved c =
    let e : c.args.count - (c.loop-i.i + 1) ≡ c.args.count - c.loop-i.i - 1 = omega arith in
    let left : 0 < c.args.count - c.loop-i.i = omega (arith, c.loop-i-test.true) in
    rw e (
      collect-on c.loop-i.invariant.0 left c.stored_matcher-next.ensures.reads _ c.printed.ensures,
      others-read read_matcher _ (drop c.loop-i.at c.args.page.now)
          c.loop-i.invariant.1 left c.stored_matcher-next.ensures.reads,
    )

pub returns : goal.returns
returns c =
    let all : c.loop-i.i ≡ c.args.count = omega (arith, c.loop-i-test.false, c.loop-i.auto.i-end) in
    subst (Collected _ _ c.loop-i.order) all
    (collect-end c.loop-i.invariant.0 (omega (arith, c.loop-i-test.false)))
