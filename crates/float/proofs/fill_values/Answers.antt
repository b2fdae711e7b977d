-- `float::fill_values` meets its contract, field by field. Assumes nothing.
use Rattle.float.proofs.fill_values.Goals as goal

pub returns : goal.returns
returns c =
    rw (c.fill_value-left.ensures, c.fill_value-right.ensures)
