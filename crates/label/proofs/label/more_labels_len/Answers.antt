-- `label::label::more_labels_len` meets its contract: one label more is summed up, to the cap. Assumes nothing.
use Prim.Native.Nat.{◌+◌, ◌-◌, ◌<◌}
use mathlib.Core.Path.{◌≡◌, ap}
use native.Mathlib.Omega.{arith}
use lib.ListN.{length, drop}
use Rattle.page.specs.Text.{read_any_text}
use Rattle.page.proofs.ListLaws.{first_read, others-read}
use Rattle.label.proofs.LabelLaws.{display_more_labels-none, labels-sum-on}
use Rattle.label.proofs.label.more_labels_len.Goals as goal

pub loop-init : goal.loop-init
loop-init c =
    let all : c.args.count - 0 ≡ c.args.count = omega arith in
    rw all (omega arith, omega arith, c.requires)

pub returns-then-cap-total : goal.returns-then-cap-total
returns-then-cap-total c =
    omega (arith, c.loop.invariant)

pub stored_text-span-requires : goal.stored_text-span-requires
stored_text-span-requires c =
    first_read read_any_text _ (drop c.loop.from c.args.page.now) c.loop.invariant.2 (omega (arith, c.loop-test.true))

pub text_at-requires : goal.text_at-requires
text_at-requires c =
    c.stored_text-span.ensures.lies

pub loop-preserved : goal.loop-preserved
loop-preserved c =
    let e : c.args.count - (c.loop.counter + 1) ≡ c.args.count - c.loop.counter - 1 = omega arith in
    let left : 0 < c.args.count - c.loop.counter = omega (arith, c.loop-test.true) in
    rw e (
      labels-sum-on _ _ _ _ _ _ _ _ _ left c.stored_text-span.ensures.reads c.loop.invariant.0
          c.text_at.ensures c.label_len-label.ensures c.capped_add.ensures c.capped_add-total.ensures,
      omega (arith, c.capped_add-total.ensures),
      others-read read_any_text _ (drop c.loop.from c.args.page.now) c.loop.invariant.2 left
          c.stored_text-span.ensures.reads,
    )

pub returns : goal.returns
returns c =
    omega (
      arith,
      c.loop.invariant,
      ap length
          (display_more_labels-none (c.args.count - c.loop.counter) (drop c.loop.from c.args.page.now)
          (omega (arith, c.loop-test.false))),
    )
