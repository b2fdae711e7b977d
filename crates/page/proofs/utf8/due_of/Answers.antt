-- `page::utf8::due_of` meets its contract: its tests are the rows of the grammar, in their order. Assumes nothing.
use Rattle.page.specs.Utf8.{from, following}
use Rattle.page.proofs.Utf8Laws.{inside, outside, row-takes}
use mathlib.Core.Path.{refl, sym, ap}
use native.Mathlib.Omega.{arith}
use Rattle.page.proofs.utf8.due_of.Goals as goal

pub returns-then-b-le127 : goal.returns-then-b-le127
returns-then-b-le127 c =
    let b = c.args.b in
    sym (row-takes 0 refl tt b (inside (from 0x00 0x7f) b (omega arith)))

pub returns-then-b : goal.returns-then-b
returns-then-b c =
    sym (row-takes 1 refl tt c.args.b c.if-b.true)

pub returns-then-b-eq224 : goal.returns-then-b-eq224
returns-then-b-eq224 c =
    sym (ap following c.if-b-eq224.true)

pub returns-then-b-2 : goal.returns-then-b-2
returns-then-b-2 c =
    sym (row-takes 3 refl tt c.args.b c.if-b-2.true)

pub returns-then-b-eq237 : goal.returns-then-b-eq237
returns-then-b-eq237 c =
    sym (ap following c.if-b-eq237.true)

pub returns-then-b-3 : goal.returns-then-b-3
returns-then-b-3 c =
    sym (row-takes 5 refl tt c.args.b c.if-b-3.true)

pub returns-then-b-eq240 : goal.returns-then-b-eq240
returns-then-b-eq240 c =
    sym (ap following c.if-b-eq240.true)

pub returns-then-b-4 : goal.returns-then-b-4
returns-then-b-4 c =
    sym (row-takes 7 refl tt c.args.b c.if-b-4.true)

pub returns-then-b-eq244 : goal.returns-then-b-eq244
returns-then-b-eq244 c =
    sym (ap following c.if-b-eq244.true)

pub returns : goal.returns
returns c =
    let b = c.args.b in
    rw (
      outside (from 0x00 0x7f) b (λ l. c.if-b-le127.false),
      c.if-b.false,
      outside (from 0xe0 0xe0) b (λ l. omega (arith, c.if-b-eq224.false)),
      c.if-b-2.false,
      outside (from 0xed 0xed) b (λ l. omega (arith, c.if-b-eq237.false)),
      c.if-b-3.false,
      outside (from 0xf0 0xf0) b (λ l. omega (arith, c.if-b-eq240.false)),
      c.if-b-4.false,
      outside (from 0xf4 0xf4) b (λ l. omega (arith, c.if-b-eq244.false)),
    )
