-- `leaves::duration::count_of` meets its contract. Assumes nothing.
use Rattle.leaves.specs.Duration.{count_of}
use Rattle.leaves.proofs.duration.count_of.Goals as goal

pub returns-then-exact-rest : goal.returns-then-exact-rest
unfolding count_of
returns-then-exact-rest c =
    rw c.if-exact-rest.true

pub returns : goal.returns
unfolding count_of
returns c =
    rw c.if-exact-rest.false
