-- `page::number::read_count` meets its contract. Assumes nothing.
use borrow.Author.Tests.{le-leb, lt-leb}
use Rattle.page.proofs.ExitLaws.{exit-is}
use Rattle.page.proofs.number.read_count.Goals as goal

pub returns-in_err-n : goal.returns-in_err-n
returns-in_err-n c = rw (exit-is _ _ c.from_residual.ensures) (simp (← c.in_err-n.ensures.reads))

pub returns-then-n-le-COUNT_LIMIT : goal.returns-then-n-le-COUNT_LIMIT
returns-then-n-le-COUNT_LIMIT c =
    simp (← c.in_ok-n.ensures.reads, le-leb _ _ c.if-n-le-COUNT_LIMIT.true)

pub returns-else-n-le-COUNT_LIMIT : goal.returns-else-n-le-COUNT_LIMIT
returns-else-n-le-COUNT_LIMIT c =
    simp (← c.in_ok-n.ensures.reads, lt-leb _ _ c.if-n-le-COUNT_LIMIT.false)
