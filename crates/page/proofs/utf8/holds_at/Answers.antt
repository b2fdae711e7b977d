-- `page::utf8::holds_at` meets its contract. Assumes nothing.
use Rattle.page.proofs.Utf8Laws.{first-none, first_byte}
use Rattle.page.specs.Utf8.{from}
use native.Mathlib.Omega.{arith}
use Rattle.page.proofs.utf8.holds_at.Goals as goal

pub returns-then-text-at : goal.returns-then-text-at
returns-then-text-at c =
    let start = c.args in
    first-none (from start.low start.high) start.text.now start.at c.if-text-at.true

pub returns : goal.returns
returns c =
    let start = c.args in
    first_byte (from start.low start.high) start.text.now start.at (omega arith)
