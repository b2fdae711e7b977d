-- `leaves::numeral::put_literal` meets its contract. Assumes nothing.
use Rattle.leaves.specs.Numeral.{display_literal}
use Rattle.leaves.proofs.numeral.put_literal.Goals as goal

pub put_numeral-requires : goal.put_numeral-requires
unfolding display_literal
put_numeral-requires c =
    c.requires

pub returns : goal.returns
unfolding display_literal
returns c =
    c.put_numeral.ensures
