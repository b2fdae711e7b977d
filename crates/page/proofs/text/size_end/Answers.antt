-- `page::text::size_end` meets its contract. Assumes nothing.
use Rattle.page.proofs.EverydayLaws.{size-one, size-two}
use native.Mathlib.Omega.{arith}
use Rattle.page.proofs.text.size_end.Goals as goal

pub returns-then-page-at-lt128 : goal.returns-then-page-at-lt128
returns-then-page-at-lt128 c =
    let start = c.args in
    size-one start.page.now start.at (omega arith) c.if-page-at-lt128.true

pub returns-then-page-at-eq1 : goal.returns-then-page-at-eq1
returns-then-page-at-eq1 c =
    let start = c.args in
    size-two start.page.now start.at (omega arith) c.if-page-at-lt128.false
    (omega (arith, c.type_inv.page start.at)) c.if-page-at-eq1.true
