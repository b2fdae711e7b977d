-- `copy::operator::put_present` meets its contract: of the record's bytes the form of its cardinality alone changes.
-- Assumes nothing.
use mathlib.Core.Path.{sym, ◌∙◌}
use native.Mathlib.Omega.{arith}
use Rattle.copy.proofs.ChangedLaws.{changed-part}
use Rattle.copy.proofs.OperatorLaws.{present-length}
use Rattle.copy.proofs.SpanLaws.{part_length}
use Rattle.copy.proofs.operator.put_present.Goals as goal

pub put_changed-requires : goal.put_changed-requires
put_changed-requires c =
    let at-cut = c.cardinality_at-cut.ensures in
    let size = part_length c.args.page.now c.args.start c.args.next c.requires.1.span.inside in
    let copy = present-length c.requires.1 c.requires.2 in
    (omega (arith, size, at-cut.behind, at-cut.inside), omega (arith, size, copy, c.requires.0.room))

pub returns : goal.returns
returns c =
    let at-cut = c.cardinality_at-cut.ensures in
    rw (
      at-cut.copy ∙ sym (changed-part c.args.page.now c.args.start c.cardinality_at-cut.result c.args.next _
          at-cut.behind at-cut.inside c.requires.0.span.inside),
      ← c.set_cardinality-form.ensures,
    ) c.put_changed.ensures
