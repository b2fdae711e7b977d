-- `label::label::put_more_labels` meets its contract: a separator and a label at a time. Assumes nothing.
use Prim.Native.Nat.{◌+◌, ◌-◌, ◌<◌}
use mathlib.Core.Path.{◌≡◌}
use native.Mathlib.Omega.{arith}
use lib.ListN.{drop}
use Rattle.base.proofs.SpliceLaws.{begin, room, step, finish}
use Rattle.page.specs.Text.{read_any_text}
use Rattle.page.proofs.ListLaws.{first_read, others-read}
use Rattle.leaves.proofs.PartLaws.{part-fits, part-wrote}
use Rattle.label.specs.Label.{display_label}
use Rattle.label.proofs.LabelLaws.{display_more_labels-separator, label_then-label, display_more_labels-none}
use Rattle.label.proofs.label.put_more_labels.Goals as goal

pub loop-init : goal.loop-init
loop-init c =
    let all : c.args.count - 0 ≡ c.args.count = omega arith in
    rw all (begin _ _ _ c.requires.room, c.requires.stored)

pub stored_text-span-requires : goal.stored_text-span-requires
stored_text-span-requires c =
    first_read read_any_text _ (drop c.loop.from c.args.page.now) c.loop.invariant.1 (omega (arith, c.loop-test.true))

pub put_bytes-behind-requires : goal.put_bytes-behind-requires
put_bytes-behind-requires c =
    room c.loop.invariant.0
    (display_more_labels-separator _ _ (omega (arith, c.loop-test.true)) c.stored_text-span.ensures.reads)

pub text_at-requires : goal.text_at-requires
text_at-requires c =
    c.stored_text-span.ensures.lies

pub put_label-pos-requires : goal.put_label-pos-requires
put_label-pos-requires c =
    let left : 0 < c.args.count - c.loop.counter = omega (arith, c.loop-test.true) in
    part-fits display_label c.text_at.ensures _ _
    (room (step c.loop.invariant.0
    (display_more_labels-separator _ _ left c.stored_text-span.ensures.reads)
    c.put_bytes-behind.ensures)
    (label_then-label _ _ left c.stored_text-span.ensures.reads))

pub loop-preserved : goal.loop-preserved
loop-preserved c =
    let e : c.args.count - (c.loop.counter + 1) ≡ c.args.count - c.loop.counter - 1 = omega arith in
    let left : 0 < c.args.count - c.loop.counter = omega (arith, c.loop-test.true) in
    rw e (
      step (step c.loop.invariant.0
          (display_more_labels-separator _ _ left c.stored_text-span.ensures.reads)
          c.put_bytes-behind.ensures)
          (label_then-label _ _ left c.stored_text-span.ensures.reads)
          (part-wrote display_label c.text_at.ensures c.put_label-pos.ensures),
      others-read read_any_text _ (drop c.loop.from c.args.page.now) c.loop.invariant.1 left
          c.stored_text-span.ensures.reads,
    )

pub returns : goal.returns
returns c =
    finish c.loop.invariant.0 (display_more_labels-none _ _ (omega (arith, c.loop-test.false)))
