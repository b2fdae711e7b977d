-- `page::text::text_allowed` meets its contract. Assumes nothing.
use Rattle.page.proofs.text.text_allowed.Goals as goal

pub returns-in-Any : goal.returns-in-Any
returns-in-Any c =
    rw (c.in-Any.is, c.is_text.ensures)

pub returns-in-MetricName : goal.returns-in-MetricName
returns-in-MetricName c =
    rw (c.in-MetricName.is, c.is_selector_name.ensures)

pub returns-in-FunctionName : goal.returns-in-FunctionName
returns-in-FunctionName c =
    rw (c.in-FunctionName.is, c.is_label.ensures)
