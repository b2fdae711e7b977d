-- `label::label::labels_len` meets its contract: the first label, and those after it. Assumes nothing.
use native.Mathlib.Omega.{arith}
use lib.ListN.{drop}
use Rattle.page.specs.Text.{read_any_text}
use Rattle.page.proofs.ListLaws.{first_read, others-read}
use Rattle.label.proofs.LabelLaws.{some_left, display_labels-none, labels-first}
use Rattle.label.proofs.label.labels_len.Goals as goal

pub returns-then-count-eq0 : goal.returns-then-count-eq0
returns-then-count-eq0 c =
    rw (display_labels-none _ (drop c.args.start c.args.page.now)
    c.if-count-eq0.true) (omega arith)

pub stored_text-span-requires : goal.stored_text-span-requires
stored_text-span-requires c =
    first_read read_any_text c.args.count (drop c.args.start c.args.page.now)
    c.requires (some_left _ c.if-count-eq0.false)

pub text_at-requires : goal.text_at-requires
text_at-requires c =
    c.stored_text-span.ensures.lies

pub more_labels_len-requires : goal.more_labels_len-requires
more_labels_len-requires c =
    others-read read_any_text c.args.count (drop c.args.start c.args.page.now)
    c.requires (some_left _ c.if-count-eq0.false) c.stored_text-span.ensures.reads

pub returns : goal.returns
returns c =
    labels-first _ _ _ _ _ _ _ c.if-count-eq0.false c.stored_text-span.ensures.reads
    c.text_at.ensures c.label_len-first.ensures c.more_labels_len.ensures
    c.capped_add.ensures
