-- `page::text::is_selector_name` meets its contract, by whether there are bytes. Assumes nothing.
use Rattle.page.proofs.TextLaws.{empty-true, empty-false}
use Rattle.page.proofs.text.is_selector_name.Goals as goal

pub returns-then-text-eq0 : goal.returns-then-text-eq0
returns-then-text-eq0 c =
    rw (empty-true c.args.text.now c.if-text-eq0.true)

pub returns : goal.returns
returns c =
    rw (empty-false c.args.text.now c.if-text-eq0.false, c.is_metric_name.ensures)
