-- `calls::signature::signature` meets its contract: the constants are a table of the form, by computation. Assumes
-- nothing.
use mathlib.Core.Path.{refl}
use Rattle.functions.specs.Functions.{functions}
use Rattle.calls.proofs.signature.signature.Goals as goal

pub returns : goal.returns
unfolding functions
returns c =
    c.signature_in.ensures functions (record { is-table = tt; holds = refl })
