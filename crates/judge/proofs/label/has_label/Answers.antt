use mathlib.Core.Path.{◌≡◌, sym, ap, ◌∙◌}
use native.Mathlib.Omega.{arith}
use Prim.Native.Nat.{ℕ, ◌+◌, ◌-◌}
use lib.ListN.{drop}
use Rattle.page.specs.Bytes.{equal}
use Rattle.page.specs.Text.{read_any_text}
use Rattle.page.specs.Listed.{listed}
use Rattle.page.proofs.ListLaws.{any_found, any_next, any-refused, any_none}
use Rattle.ast.specs.CheckAst.{has_label}
use Rattle.judge.proofs.label.has_label.Goals as goal

pub returns-in_default : goal.returns-in_default
returns-in_default c =
    let e = rw c.in_default.is at c.read_text.ensures.reads in
    any-refused read_any_text (equal c.args.text.now) (c.args.count - c.loop.counter)
    (drop c.loop.at c.args.page.now) c.loop.invariant e

pub returns-then-same_text : goal.returns-then-same_text
returns-then-same_text c =
    let e = rw c.in-Ok.is at c.read_text.ensures.reads in
    let same = c.same_text.ensures ∙ ap (equal c.args.text.now) c.text_at.ensures in
    any_found read_any_text (equal c.args.text.now) (c.args.count - c.loop.counter)
    (drop c.loop.at c.args.page.now) c.loop.invariant (omega (arith, c.loop-test.true)) e
    (sym same ∙ c.if-same_text.true)

pub loop-preserved : goal.loop-preserved
loop-preserved c =
    let e = rw c.in-Ok.is at c.read_text.ensures.reads in
    let same = c.same_text.ensures ∙ ap (equal c.args.text.now) c.text_at.ensures in
    let less : c.args.count - c.loop.counter - 1 ≡ c.args.count - (c.loop.counter + 1) = omega arith in
    any_next read_any_text (equal c.args.text.now) (c.args.count - c.loop.counter)
    (drop c.loop.at c.args.page.now) c.loop.invariant (omega (arith, c.loop-test.true)) e
    (sym same ∙ c.if-same_text.false)
    ∙ ap (λ (n : ℕ). has_label (listed read_any_text n (drop c.in-Ok.next c.args.page.now)) c.args.text.now) less

pub returns : goal.returns
returns c =
    any_none read_any_text (equal c.args.text.now) (c.args.count - c.loop.counter)
    (drop c.loop.at c.args.page.now) c.loop.invariant (omega (arith, c.loop-test.false))
