-- `page::utf8::end_of_two` meets its contract: the first byte that is due, then the others. Assumes nothing.
use Rattle.page.proofs.Utf8Laws.{first-inside, ends_more, ends-not}
use Rattle.page.specs.Utf8.{from}
use native.Mathlib.Omega.{arith}
use Rattle.page.proofs.utf8.end_of_two.Goals as goal

pub overflow_add-at : goal.overflow_add-at
overflow_add-at c =
    let start = c.args in
    omega (
      arith,
      first-inside (from start.low start.high) start.text.now start.at _
          c.holds_at.ensures c.if-holds_at.true,
    )

pub returns-then-holds_at : goal.returns-then-holds_at
returns-then-holds_at c =
    let start = c.args in
    ends_more (from start.low start.high) start.text.now start.at _
    c.holds_at.ensures _ c.end_of_one.result
    c.if-holds_at.true c.end_of_one.ensures

pub returns-else-holds_at : goal.returns-else-holds_at
returns-else-holds_at c =
    let start = c.args in
    ends-not (from start.low start.high) start.text.now start.at _ c.holds_at.ensures _
    c.if-holds_at.false
