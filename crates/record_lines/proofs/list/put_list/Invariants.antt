-- `record_lines::list::put_list` meets its contract. Invariant: the elements that are left give what all of them give.
-- Assumes nothing.
use Prim.Native.Nat.{◌-◌}
use lib.ListN.{drop}
use Rattle.base.specs.Splice.{join}
use Rattle.page.specs.Listed.{listed}
use Rattle.record_lines.specs.Answers.{read_element}
use Rattle.record_lines.proofs.LineLaws.{Showing}
use Rattle.record_lines.proofs.list.put_list.Given as goal

abbrev pub invariant-loop : goal.invariant-loop
invariant-loop l =
    let list = l.fn.list in
    let element = read_element l.elements l.page in
    Showing l.initial.line l.initial.pos (join (listed element list.count (drop list.start l.page))) l.line l.pos
    (join (listed element (list.count - l.counter) (drop l.from l.page)))
