-- `label::printed::printed_at_most` meets its contract: the parts have the texts of what is printed. Assumes nothing.
use Rattle.label.proofs.PrintedLaws.{parts_text-printed}
use Rattle.label.proofs.printed.printed_at_most.Goals as goal

pub returns : goal.returns
returns c =
    let a = c.parts.ensures in
    let b = c.parts-2.ensures in
    let page = c.args.page.now in
    rw (
      ← parts_text-printed page c.args.a c.parts.result a.name a.value a.op,
      ← parts_text-printed page c.args.b c.parts-2.result b.name b.value b.op,
    ) c.is_at_most.ensures
