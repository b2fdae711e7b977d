-- `heads::head::put_modifier` meets its contract: the pieces of its text, one after the other. Assumes nothing.
use Rattle.base.proofs.SpliceLaws.{start, next, end}
use Rattle.records.specs.Answers.{bin_modifier_on}
use Rattle.heads.proofs.HeadLaws.{modifier-pieces}
use Rattle.heads.proofs.head.put_modifier.Goals as goal

pub returns : goal.returns
returns c =
    end (next (next (next (next (start c.requires.room
    (modifier-pieces (bin_modifier_on c.args.page.now c.args.modifier)))
    c.put_bool-after_bool.ensures) c.put_matching-matched.ensures)
    c.put_cardinality-grouped.ensures) c.put_fills.ensures)
