-- `label::matcher::put_in_order` meets its contract: the first text, then a loop of comma and text. Invariant: the
-- texts from the index on are left to be written, each with its comma. Assumes nothing.
use lib.ListN.{drop}
use Rattle.base.proofs.SpliceLaws.{Writing}
use Rattle.label.specs.Printed.{printed_texts}
use Rattle.label.specs.Label.{more_by_commas}
use Rattle.label.proofs.matcher.put_in_order.Given as goal

abbrev pub invariant-loop-parts : goal.invariant-loop-parts
invariant-loop-parts l =
    Writing l.initial.out l.out l.initial.pos (more_by_commas (printed_texts l.page l.others))
    (more_by_commas (printed_texts l.page (drop l.parts-index l.others))) l.pos
