-- `float::same_fills` meets its contract. Assumes nothing.
use Rattle.float.proofs.same_fills.Goals as goal

pub returns : goal.returns
returns c =
    rw c.same_fraction.ensures
