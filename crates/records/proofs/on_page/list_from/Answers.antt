-- A step of the loop passes over one value; at its end none is left. Assumes nothing.
use Rattle.std.proofs.Common.{◌≡◌, ◌∙◌, ◌+◌, ◌-◌, arith}
use Rattle.page.proofs.ExitLaws.{exit-is}
use Rattle.page.proofs.ListLaws.{passed-more, read_length, all_read, one-refused}
use Rattle.records.proofs.on_page.list_from.Goals as goal

pub loop-preserved : goal.loop-preserved
loop-preserved g c =
    let fewer : c.args.count - (c.loop.counter + 1) ≡ c.args.count - c.loop.counter - 1 = omega arith in
    rw fewer (c.loop.invariant ∙ passed-more g.T.OnPage.reader _ _ (omega arith) c.in_ok-next.ensures.reads)

pub returns-in_err-next-clause-reads : goal.returns-in_err-next-clause-reads
returns-in_err-next-clause-reads g c =
    rw (exit-is _ _ c.from_residual.ensures)
    (one-refused g.T.OnPage.reader _ _ _ _ c.loop.invariant (omega arith) c.in_err-next.ensures.reads)

pub returns : goal.returns
returns g c =
    let read = all_read g.T.OnPage.reader _ _ _ _ c.loop.invariant (omega arith) in
    record { reads = read; stored = read_length g.T.OnPage.reader _ _ read }
