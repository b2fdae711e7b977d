-- `label::matcher::more_matchers_len` meets its contract: one matcher more is summed up, to the cap. Assumes nothing.
use Prim.Native.Nat.{◌+◌, ◌-◌, ◌<◌}
use mathlib.Core.Path.{◌≡◌}
use native.Mathlib.Omega.{arith}
use lib.ListN.{drop}
use Rattle.page.proofs.ListLaws.{first_read, others-read}
use Rattle.records.specs.Matcher.{read_matcher}
use Rattle.label.proofs.JoinLaws.{matchers-none, matchers-sum-on}
use Rattle.label.proofs.matcher.more_matchers_len.Goals as goal

pub loop-init : goal.loop-init
loop-init c =
    let all : c.args.count - 0 ≡ c.args.count = omega arith in
    rw all (omega arith, omega arith, c.requires)

pub returns-then-cap-total : goal.returns-then-cap-total
returns-then-cap-total c =
    omega (arith, c.loop.invariant)

pub stored_matcher-next-requires : goal.stored_matcher-next-requires
stored_matcher-next-requires c =
    first_read read_matcher _ (drop c.loop.at c.args.page.now) c.loop.invariant.2 (omega (arith, c.loop-test.true))

pub matcher_len-one-requires : goal.matcher_len-one-requires
matcher_len-one-requires c =
    c.stored_matcher-next.ensures.lies

pub loop-preserved : goal.loop-preserved
loop-preserved c =
    let e : c.args.count - (c.loop.counter + 1) ≡ c.args.count - c.loop.counter - 1 = omega arith in
    let left : 0 < c.args.count - c.loop.counter = omega (arith, c.loop-test.true) in
    rw e (
      matchers-sum-on _ _ _ _ _ _ _ _ left c.stored_matcher-next.ensures.reads
          c.loop.invariant.0 c.matcher_len-one.ensures c.capped_add.ensures c.capped_add-total.ensures,
      omega (arith, c.capped_add-total.ensures),
      others-read read_matcher _ (drop c.loop.at c.args.page.now) c.loop.invariant.2 left
          c.stored_matcher-next.ensures.reads,
    )

pub returns : goal.returns
returns c =
    omega (
      arith,
      c.loop.invariant,
      matchers-none (c.args.count - c.loop.counter) (drop c.loop.at c.args.page.now)
          (omega (arith, c.loop-test.false)),
    )
