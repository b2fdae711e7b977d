-- `table_check::reached::next_start` meets its contract: the next record stands where the last one ends, and the last
-- one can be read, since the table has it. The laws stand in `StandingLaws`. Assumes nothing.
use Rattle.table_check.proofs.StandingLaws.{next-first, next-behind, last-reads}
use Rattle.table_check.proofs.reached.next_start.Goals as goal

pub returns-then-count-eq0 : goal.returns-then-count-eq0
returns-then-count-eq0 c =
    rw c.if-count-eq0.true (next-first c.args.page.now c.requires.short)

pub returns-in-Ok : goal.returns-in-Ok
returns-in-Ok c =
    next-behind c.args.page.now c.requires.known c.if-count-eq0.false
    (rw (c.in-Ok.is, c.wide.ensures) at c.read_record.ensures.reads)
    c.within.ensures

pub returns-in-Err : goal.returns-in-Err
returns-in-Err c =
    last-reads c.args.page.now c.requires.known c.if-count-eq0.false
    (rw (c.in-Err.is, c.wide.ensures) at c.read_record.ensures.reads)
