-- `page::number::read_up_to` meets its contract: a law for each way out. The measure is the limit, which falls to
-- 1/128. Assumes nothing.
use Rattle.page.proofs.number.+read_up_to.Given as goal

abbrev pub decreases-read_up_to : goal.decreases-read_up_to
decreases-read_up_to l =
    l.limit
