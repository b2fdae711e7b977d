use Rattle.table_check.proofs.AskedLaws.{faultless-next, fault-first}
use Rattle.table_check.proofs.asked.first_fault.Goals as goal

pub record_fault-requires : goal.record_fault-requires
record_fault-requires c =
    let stands = c.requires.entry c.loop-index.index c.loop-index-test.true in
    rw c.wide.ensures (record { value = stands.item; rest = stands.rest; reads = stands.reads })

pub returns-in-Err : goal.returns-in-Err
returns-in-Err c =
    fault-first c.requires c.loop-index-test.true c.args.table.now c.loop-index.invariant c.in-Err.refusal
    (rw (c.in-Err.is, c.wide.ensures) at c.record_fault.ensures)

pub loop-index-preserved : goal.loop-index-preserved
loop-index-preserved c =
    faultless-next c.requires c.loop-index-test.true c.args.table.now c.loop-index.invariant
    (rw (c.in-Ok.is, c.wide.ensures) at c.record_fault.ensures)
