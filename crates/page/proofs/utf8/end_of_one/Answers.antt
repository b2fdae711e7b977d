-- `page::utf8::end_of_one` meets its contract. Assumes nothing.
use Rattle.page.proofs.Utf8Laws.{first-inside, ends_last, ends-not}
use Rattle.page.specs.Utf8.{tail}
use native.Mathlib.Omega.{arith}
use Rattle.page.proofs.utf8.end_of_one.Goals as goal

pub overflow_add-result : goal.overflow_add-result
overflow_add-result c =
    let start = c.args in
    omega (arith, first-inside tail start.text.now start.at _ c.holds_at.ensures c.if-holds_at.true)

pub returns-then-holds_at : goal.returns-then-holds_at
returns-then-holds_at c =
    let start = c.args in
    ends_last tail start.text.now start.at _ c.holds_at.ensures c.if-holds_at.true

pub returns-else-holds_at : goal.returns-else-holds_at
returns-else-holds_at c =
    let start = c.args in
    ends-not tail start.text.now start.at _ c.holds_at.ensures _ c.if-holds_at.false
