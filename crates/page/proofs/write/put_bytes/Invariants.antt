-- `page::write::put_bytes` meets its contract. The loop's invariant: what is left of the text is left to be written.
-- Assumes nothing.
use lib.ListN.{drop}
use Rattle.base.proofs.SpliceLaws.{Writing}
use Rattle.page.proofs.write.put_bytes.Given as goal

abbrev pub invariant-loop-b : goal.invariant-loop-b
invariant-loop-b l =
    Writing l.initial.out l.out l.at l.text (drop l.b-index l.text) l.pos
