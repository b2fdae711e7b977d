use mathlib.Core.Path.{◌≡◌, sym, ap, ◌∙◌}
use native.Mathlib.Omega.{arith}
use Prim.Native.Nat.{ℕ, ◌+◌, ◌-◌}
use lib.ListN.{length, drop, drop_of_length-le}
use Rattle.records.specs.Answers.{labels_on}
use Rattle.ast.specs.CheckAst.{has_label}
use Rattle.judge.specs.Label.{from_joint}
use Rattle.judge.proofs.LabelLaws.{joint-found, joint-next, joint-refused, joint-none}
use Rattle.judge.proofs.label.first_joint.Goals as goal

pub returns-in_default : goal.returns-in_default
returns-in_default c =
    let page = c.args.page.now in
    let e = rw c.in_default.is at c.read_text.ensures.reads in
    drop_of_length-le page {i = length page} (omega arith)
    ∙ joint-refused (labels_on page c.args.on c.args.ons) (c.args.count - c.loop.counter)
    (drop c.loop.at page) c.loop.invariant e

pub returns-then-has_label : goal.returns-then-has_label
returns-then-has_label c =
    let page = c.args.page.now in
    let on = labels_on page c.args.on c.args.ons in
    let e = rw c.in-Ok.is at c.read_text.ensures.reads in
    let has = c.has_label.ensures ∙ ap (has_label on) c.text_at.ensures in
    joint-found on (c.args.count - c.loop.counter) (drop c.loop.at page) c.loop.invariant
    (omega (arith, c.loop-test.true)) e (sym has ∙ c.if-has_label.true)

pub loop-preserved : goal.loop-preserved
loop-preserved c =
    let page = c.args.page.now in
    let on = labels_on page c.args.on c.args.ons in
    let e = rw c.in-Ok.is at c.read_text.ensures.reads in
    let has = c.has_label.ensures ∙ ap (has_label on) c.text_at.ensures in
    let less : c.args.count - c.loop.counter - 1 ≡ c.args.count - (c.loop.counter + 1) = omega arith in
    joint-next on (c.args.count - c.loop.counter) (drop c.loop.at page) c.loop.invariant
    (omega (arith, c.loop-test.true)) e (sym has ∙ c.if-has_label.false)
    ∙ ap (λ (n : ℕ). from_joint on n (drop c.in-Ok.next page)) less

pub returns : goal.returns
returns c =
    let page = c.args.page.now in
    drop_of_length-le page {i = length page} (omega arith)
    ∙ joint-none (labels_on page c.args.on c.args.ons) (c.args.count - c.loop.counter)
    (drop c.loop.at page) c.loop.invariant (omega (arith, c.loop-test.false))
