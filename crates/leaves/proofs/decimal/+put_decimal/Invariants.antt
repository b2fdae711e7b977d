-- `leaves::decimal::put_decimal` meets its contract: the digits of n / 10, then the last one. It calls itself with n /
-- 10: the measure is n.
-- Assumes nothing.
use Rattle.leaves.proofs.decimal.+put_decimal.Given as goal

abbrev pub decreases-put_decimal : goal.decreases-put_decimal
decreases-put_decimal l =
    l.n
