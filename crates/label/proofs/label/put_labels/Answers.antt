-- `label::label::put_labels` meets its contract: the first label, and those after it. Assumes nothing.
use mathlib.Core.Path.{refl}
use lib.ListN.{drop}
use Rattle.base.proofs.SpliceLaws.{begin, first, room, step, finish, cut-last}
use Rattle.page.specs.Text.{read_any_text}
use Rattle.page.proofs.ListLaws.{first_read, others-read}
use Rattle.leaves.proofs.PartLaws.{part-fits, part-wrote}
use Rattle.label.specs.Label.{display_label}
use Rattle.label.proofs.LabelLaws.{some_left, display_labels-first, display_labels-none}
use Rattle.label.proofs.label.put_labels.Goals as goal

pub returns-then-count-eq0 : goal.returns-then-count-eq0
returns-then-count-eq0 c =
    finish (begin _ _ _ c.requires.room) (display_labels-none _ _ c.if-count-eq0.true)

pub stored_text-span-requires : goal.stored_text-span-requires
stored_text-span-requires c =
    first_read read_any_text c.args.count (drop c.args.start c.args.page.now)
    c.requires.stored (some_left _ c.if-count-eq0.false)

pub text_at-requires : goal.text_at-requires
text_at-requires c =
    c.stored_text-span.ensures.lies

pub put_label-behind-requires : goal.put_label-behind-requires
put_label-behind-requires c =
    part-fits display_label c.text_at.ensures _ _
    (first _ _ c.requires.room
    (display_labels-first _ _ (some_left _ c.if-count-eq0.false) c.stored_text-span.ensures.reads))

pub put_more_labels-requires : goal.put_more_labels-requires
put_more_labels-requires c =
    record {
      stored = others-read read_any_text c.args.count (drop c.args.start c.args.page.now)
          c.requires.stored (some_left _ c.if-count-eq0.false) c.stored_text-span.ensures.reads;
      room = room (step (begin _ _ _ c.requires.room)
          (display_labels-first _ _ (some_left _ c.if-count-eq0.false) c.stored_text-span.ensures.reads)
          (part-wrote display_label c.text_at.ensures c.put_label-behind.ensures)) (cut-last _);
    }

pub returns : goal.returns
returns c =
    finish (step (step (begin _ _ _ c.requires.room)
    (display_labels-first _ _ (some_left _ c.if-count-eq0.false) c.stored_text-span.ensures.reads)
    (part-wrote display_label c.text_at.ensures c.put_label-behind.ensures)) (cut-last _)
    c.put_more_labels.ensures) refl
