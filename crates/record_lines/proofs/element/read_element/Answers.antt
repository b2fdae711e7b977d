-- `record_lines::element::read_element` meets its contract, by what the list has. Assumes nothing.
use Rattle.record_lines.proofs.element.read_element.Goals as goal

pub returns-in-Labels : goal.returns-in-Labels
returns-in-Labels c =
    rw c.in-Labels.is c.read_label.ensures

pub returns-in-Matchers : goal.returns-in-Matchers
returns-in-Matchers c =
    rw c.in-Matchers.is c.read_matcher.ensures

pub returns-in-Kinds : goal.returns-in-Kinds
returns-in-Kinds c =
    rw c.in-Kinds.is c.read_kind.ensures
