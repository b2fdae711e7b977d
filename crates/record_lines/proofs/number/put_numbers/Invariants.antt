-- `record_lines::number::put_numbers` meets its contract. Invariant: the numbers that are left give what all of them
-- give. Assumes nothing.
use lib.ListN.{drop}
use Rattle.record_lines.proofs.LineLaws.{Showing}
use Rattle.record_lines.proofs.number.put_numbers.Given as goal

abbrev pub invariant-loop-number : goal.invariant-loop-number
invariant-loop-number l =
    Showing l.initial.line l.at l.numbers l.line l.end (drop l.number-index l.numbers)
