-- A step of the loop negates once, and one time less is left.
use Rattle.std.proofs.Common.{arith, ◌≡◌, ◌∙◌, ◌-◌, ℕ, ap, drop}
use Rattle.std.specs.Fn.{iterate}
use Rattle.copy.specs.RecordCopy.{unaries, negated_form}
use Rattle.copy.proofs.UnaryLaws.{form_after-counted, iterate-step}
use Rattle.copy.proofs.number.form_after.Goals as goal

pub loop-init : goal.loop-init
loop-init c =
    let none_done : unaries (drop c.args.at c.args.page.now)
    ≡ c.unaries_at-end.result - 0 = omega (arith, c.unaries_at-end.ensures) in
    form_after-counted c.args.form (drop c.args.at c.args.page.now)
    ∙ ap (λ (k : ℕ). iterate negated_form k c.args.form) none_done

pub loop-preserved : goal.loop-preserved
loop-preserved c =
    rw c.negated_form-negated.ensures (c.loop.invariant ∙ iterate-step _ _ _ _ c.loop-test.true)
