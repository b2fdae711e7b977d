-- `split::place::inner_place` meets its contract, indents and level by the contracts of `inner_indents` and
-- `inner_level`. Assumes nothing.
use mathlib.Core.Path.{refl}
use Rattle.split.proofs.place.inner_place.Goals as goal

pub returns : goal.returns
returns c =
    record {
      is = λ page starts n. rw
          (c.inner_indents-indents.ensures page starts n, c.inner_level-level.ensures.is page starts n) refl;
      most = c.inner_level-level.ensures.most;
    }
