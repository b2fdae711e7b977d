-- `table_check::reached::reached` meets its contract, by what the walk met: a page or a count above its limit, bytes
-- that are no record, or a record that can be read. The laws stand in `StandingLaws`. Assumes nothing.
use native.Mathlib.Omega.{arith}
use Rattle.table_check.proofs.StandingLaws.{reached-long, reached-limit, reached-bad, reached-one}
use Rattle.table_check.proofs.reached.reached.Goals as goal

pub returns-then-page-gt-PAGE_LIMIT : goal.returns-then-page-gt-PAGE_LIMIT
returns-then-page-gt-PAGE_LIMIT c =
    reached-long c.args.page.now c.requires.sized.0 c.requires.sized.1 c.requires.known
    c.if-page-gt-PAGE_LIMIT.true

pub returns-then-index-eq-RECORD_LIMIT : goal.returns-then-index-eq-RECORD_LIMIT
returns-then-index-eq-RECORD_LIMIT c =
    reached-limit c.args.page.now c.requires.sized.0 c.requires.sized.1 c.requires.known
    c.if-index-eq-RECORD_LIMIT.true

pub overflow_cast-starts : goal.overflow_cast-starts
overflow_cast-starts c =
    omega (arith, c.next_start-at.ensures.inside, c.if-page-gt-PAGE_LIMIT.false)

pub returns-in-Ok : goal.returns-in-Ok
returns-in-Ok c =
    reached-one c.args.page.now c.requires.sized.0 c.requires.sized.1 c.requires.known
    c.next_start-at.ensures c.if-index-eq-RECORD_LIMIT.false
    (rw c.in-Ok.is at c.read_record.ensures.reads)

pub returns-in-Err : goal.returns-in-Err
returns-in-Err c =
    reached-bad c.args.page.now c.requires.sized.0 c.requires.sized.1 c.requires.known
    c.next_start-at.ensures
    (rw c.in-Err.is at c.read_record.ensures.reads)
