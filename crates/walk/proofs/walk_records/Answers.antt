use mathlib.Core.Path.{refl, sym, ap, ◌∙◌}
use Rattle.float.specs.Exact.{RecordExact}
use Rattle.float.proofs.ExactLaws.{of-got, read_record-exact}
use Rattle.records.specs.Record.{read_record}
use lib.Dec.{eqb}
use lib.ListN.{drop}
use native.Mathlib.Omega.{arith}
use Rattle.rules.specs.Answers.{operand_meant}
use Rattle.rules.specs.Stack.{held}
use Rattle.ast.specs.Operand.{operand_kind}
use Rattle.page.specs.Answers.{fault_of}
use Rattle.page.proofs.ExitLaws.{exit-is}
use Rattle.walk.proofs.WalkedSoFar.{NextTurn, walked_start, too-long-refused, unfit, stepped}
use Rattle.walk.proofs.WalkedSoFar.{too_many, unreadable, ends-refused, ends-accepted}
use Rattle.walk.proofs.walk_records.Goals as goal
use Rattle.walk.proofs.walk_records.Goals.{In_ok-operand-in-Ok}

-- what the record that was judged leaves
step : (c : In_ok-operand-in-Ok) →
    NextTurn (eqb c.args.rule 42) c.args.page.now c.args.starts.now
    c.args.firsts.now
    c.loop-at.starts c.loop-at.firsts (held c.loop-at.stack)
    c.loop-at.bases c.loop-at.at c.loop-at.count
    c.operand_count-needed.result c.in-Ok.next
    (operand_meant c.in_ok-operand-in-Ok.operand)
step c =
    let read = rw c.in-Ok.is at c.read_record.ensures.reads in
    stepped c.loop-at.invariant c.loop-at-test.true c.if-count-eq-RECORD_LIMIT.false
    c.in-Ok.next read
    c.in_ok-operand-in-Ok.ensures
    c.operand_count-needed.result
    (c.operand_count-needed.ensures c.args.page.now)

pub returns-then-page-gt-PAGE_LIMIT : goal.returns-then-page-gt-PAGE_LIMIT
returns-then-page-gt-PAGE_LIMIT c =
    record {
      says = too-long-refused (eqb c.args.rule 42) c.if-page-gt-PAGE_LIMIT.true c.requires.0 c.requires.1;
      starts-kept = refl;
      firsts-kept = refl;
    }

pub loop-at-init : goal.loop-at-init
loop-at-init c =
    rw c.new-stack.ensures
    (walked_start (eqb c.args.rule 42) c.if-page-gt-PAGE_LIMIT.false refl c.requires.0 c.requires.1)

pub returns-then-count-eq-RECORD_LIMIT : goal.returns-then-count-eq-RECORD_LIMIT
returns-then-count-eq-RECORD_LIMIT c =
    let so_far = c.loop-at.invariant in
    record {
      says = too_many so_far c.loop-at-test.true c.if-count-eq-RECORD_LIMIT.true;
      starts-kept = so_far.starts-kept;
      firsts-kept = so_far.firsts-kept;
    }

pub returns-in-Err : goal.returns-in-Err
returns-in-Err c =
    let so_far = c.loop-at.invariant in
    record {
      says = unreadable so_far c.loop-at-test.true c.if-count-eq-RECORD_LIMIT.false
          (fault_of c.in-Err.fault)
          (rw c.in-Err.is at c.read_record.ensures.reads)
          c.field_refusal.ensures;
      starts-kept = so_far.starts-kept;
      firsts-kept = so_far.firsts-kept;
    }

pub judge_next-requires : goal.judge_next-requires
judge_next-requires c =
    let read = rw c.in-Ok.is at c.read_record.ensures.reads in
    let also = rw c.in-Ok.is at c.read_record.ensures.lies in record {
      lies = also;
      exact = of-got RecordExact (read_record (drop c.loop-at.at c.args.page.now)) read
          (read_record-exact (drop c.loop-at.at c.args.page.now));
      takes = c.operand_count-needed.ensures c.args.page.now;
    }

pub returns-in_err-operand-in-Ok : goal.returns-in_err-operand-in-Ok
returns-in_err-operand-in-Ok c =
    let so_far = c.loop-at.invariant in
    let read = rw c.in-Ok.is at c.read_record.ensures.reads in
    rw (exit-is _ _ c.from_residual.ensures)
    (record {
      says = unfit so_far c.loop-at-test.true c.if-count-eq-RECORD_LIMIT.false c.in-Ok.next read
          c.in_err-operand-in-Ok.ensures;
      starts-kept = so_far.starts-kept;
      firsts-kept = so_far.firsts-kept;
    })

pub overflow_sub-depth : goal.overflow_sub-depth
overflow_sub-depth c =
    omega (arith, c.len.ensures, (step (goal.at.overflow_sub-depth c).In_ok-operand-in-Ok).there)

pub slice_bounds-first_record-end : goal.slice_bounds-first_record-end
slice_bounds-first_record-end c =
    omega (arith, c.loop-at.invariant.holds.bases-size)

pub first_record-first-requires : goal.first_record-first-requires
first_record-first-requires c = (
  c.loop-at.invariant.holds.bases-size,
  omega (
    arith,
    c.len.ensures,
    c.loop-at.invariant.holds.depth-range,
    c.loop-at.invariant.progress.count-range,
    c.if-count-eq-RECORD_LIMIT.false,
  ),
  omega (arith, c.loop-at.invariant.progress.count-range, c.if-count-eq-RECORD_LIMIT.false),
)

pub bounds-bases-depth : goal.bounds-bases-depth
bounds-bases-depth c =
    omega (
      arith,
      c.len.ensures,
      c.loop-at.invariant.holds.depth-range,
      c.loop-at.invariant.progress.count-range,
      c.if-count-eq-RECORD_LIMIT.false,
    )

pub replace-requires : goal.replace-requires
replace-requires c =
    record {
      enough = (step (goal.at.replace-requires c).In_ok-operand-in-Ok).there;
      room = (step (goal.at.replace-requires c).In_ok-operand-in-Ok).room;
    }

pub overflow_cast-starts : goal.overflow_cast-starts
overflow_cast-starts c =
    omega (arith, c.loop-at.invariant.progress.at-range, c.if-page-gt-PAGE_LIMIT.false)

pub offset_bounds-starts-count : goal.offset_bounds-starts-count
offset_bounds-starts-count c =
    omega (arith, c.loop-at.invariant.progress.count-range)

pub bounds-starts-count : goal.bounds-starts-count
bounds-starts-count c =
    omega (
      arith,
      c.loop-at.invariant.tables.starts-size,
      c.loop-at.invariant.progress.count-range,
      c.if-count-eq-RECORD_LIMIT.false,
    )

pub bounds-firsts-count : goal.bounds-firsts-count
bounds-firsts-count c =
    omega (
      arith,
      c.loop-at.invariant.tables.firsts-size,
      c.loop-at.invariant.progress.count-range,
      c.if-count-eq-RECORD_LIMIT.false,
    )

pub overflow_add-count : goal.overflow_add-count
overflow_add-count c =
    omega (arith, c.loop-at.invariant.progress.count-range)

pub loop-at-smaller : goal.loop-at-smaller
loop-at-smaller c =
    omega (arith, c.loop-at.invariant.progress.count-range, c.if-count-eq-RECORD_LIMIT.false)

pub loop-at-preserved : goal.loop-at-preserved
loop-at-preserved c =
    rw (c.replace.ensures, c.first_record-first.ensures, c.len.ensures)
    ((step (goal.at.loop-at-preserved c).In_ok-operand-in-Ok).walked-again c.within-at.result c.within-at.ensures)

pub returns-then-len-ne1 : goal.returns-then-len-ne1
returns-then-len-ne1 c =
    let so_far = c.loop-at.invariant in
    record {
      says = ends-refused so_far c.loop-at-test.false (rw (← c.len-2.ensures) c.if-len-ne1.true);
      starts-kept = so_far.starts-kept;
      firsts-kept = so_far.firsts-kept;
    }

pub returns : goal.returns
returns c =
    let so_far = c.loop-at.invariant in
    record {
      says = ends-accepted so_far c.loop-at-test.false (sym c.len-2.ensures ∙ c.if-len-ne1.false)
          (c.kind_of.ensures ∙ ap operand_kind c.operand.ensures);
      starts-kept = so_far.starts-kept;
      firsts-kept = so_far.firsts-kept;
    }
