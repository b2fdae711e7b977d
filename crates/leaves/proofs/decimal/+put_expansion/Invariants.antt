-- `leaves::decimal::put_expansion` meets its contract: the expansion of n / 10 with a place less, then the last digit;
-- with no places the number and the point. It calls itself with a place less: the measure is the places.
-- Assumes nothing.
use Rattle.leaves.proofs.decimal.+put_expansion.Given as goal

abbrev pub decreases-put_expansion : goal.decreases-put_expansion
decreases-put_expansion l =
    l.places
