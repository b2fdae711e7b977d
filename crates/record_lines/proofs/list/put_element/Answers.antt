-- `record_lines::list::put_element` meets its contract, by what it is. Assumes nothing.
use Rattle.record_lines.proofs.list.put_element.Goals as goal

pub returns-in-Label : goal.returns-in-Label
returns-in-Label c =
    rw c.in-Label.is c.put_span.ensures

pub returns-in-Matcher : goal.returns-in-Matcher
returns-in-Matcher c =
    rw c.in-Matcher.is c.put_matcher.ensures

pub returns-in-Kind : goal.returns-in-Kind
returns-in-Kind c =
    rw c.in-Kind.is c.put_spaced.ensures
