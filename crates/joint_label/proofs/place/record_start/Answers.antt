use mathlib.Core.Path.{◌≡◌, sym, ap, ◌∙◌}
use native.Mathlib.Omega.{arith}
use Prim.Native.Nat.{ℕ, ◌+◌, ◌-◌}
use lib.ListN.{drop}
use Rattle.ast.specs.Part.{from_record}
use Rattle.joint_label.proofs.PlacedLaws.{from_next, from-refused, from-none, past_end}
use Rattle.joint_label.proofs.place.record_start.Goals as goal

pub loop-preserved : goal.loop-preserved
loop-preserved c =
    let e = rw c.in-Ok.is at c.read_record.ensures.reads in
    let less : c.args.index - c.loop.counter - 1 ≡ c.args.index - (c.loop.counter + 1) = omega arith in
    c.loop.invariant
    ∙ from_next (c.args.index - c.loop.counter) (drop c.loop.at c.args.page.now) (omega (arith, c.loop-test.true)) e
    ∙ ap (λ (n : ℕ). from_record n (drop c.in-Ok.next c.args.page.now)) less

pub returns-in_default : goal.returns-in_default
returns-in_default c =
    let e = rw c.in_default.is at c.read_record.ensures.reads in
    past_end c.args.page.now
    ∙ sym (c.loop.invariant
    ∙ from-refused (c.args.index - c.loop.counter) (drop c.loop.at c.args.page.now) (omega (arith, c.loop-test.true)) e)

pub returns : goal.returns
returns c =
    sym (c.loop.invariant
    ∙ from-none (c.args.index - c.loop.counter) (drop c.loop.at c.args.page.now) (omega (arith, c.loop-test.false)))
