-- `leaves::numeral::put_fill` meets its contract. Assumes nothing.
use Rattle.leaves.specs.Numeral.{display_fill}
use Rattle.leaves.proofs.numeral.put_fill.Goals as goal

pub put_numeral-requires : goal.put_numeral-requires
unfolding display_fill
put_numeral-requires c =
    c.requires

pub returns : goal.returns
unfolding display_fill
returns c =
    c.put_numeral.ensures
