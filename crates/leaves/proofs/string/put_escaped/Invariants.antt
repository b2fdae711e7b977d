-- `leaves::string::put_escaped` meets its contract. The loop's invariant:
-- what is left of the text, escaped, is left to be written. Assumes nothing.
use lib.ListN.{drop}
use Rattle.base.proofs.SpliceLaws.{Writing}
use Rattle.leaves.specs.Escape.{escape}
use Rattle.leaves.proofs.string.put_escaped.Given as goal

abbrev pub invariant-loop-b : goal.invariant-loop-b
invariant-loop-b l =
    Writing l.initial.out l.out l.at (escape l.text) (escape (drop l.b-index l.text)) l.pos
