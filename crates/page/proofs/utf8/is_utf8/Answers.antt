use Rattle.page.proofs.Utf8Laws.{ends-all}
use mathlib.Core.Path.{refl, sym, ◌∙◌}
use Rattle.page.proofs.utf8.is_utf8.Goals as goal

pub loop-i-init : goal.loop-i-init
loop-i-init c =
    refl

pub returns-in_default : goal.returns-in_default
returns-in_default c =
    sym (c.loop-i.invariant ∙ (rw c.in_default.is at c.next_end.ensures))

pub loop-i-preserved : goal.loop-i-preserved
loop-i-preserved c =
    c.loop-i.invariant ∙ c.in-Some.ensures.2

pub returns : goal.returns
returns c =
    ends-all c.args.text.now c.loop-i.i _ c.loop-i.invariant c.loop-i-test.false
