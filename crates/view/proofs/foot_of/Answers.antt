use mathlib.Core.Path.{sym, ◌∙◌}
use Rattle.view.proofs.ChainedLaws.{chained-start, chained-here, chained-part}
use Rattle.view.proofs.foot_of.Goals as goal

pub loop-j-init : goal.loop-j-init
loop-j-init c =
    chained-start c.requires

pub kind_at-requires : goal.kind_at-requires
kind_at-requires c =
    chained-here c.requires c.loop-j.invariant

pub loop-j-preserved : goal.loop-j-preserved
loop-j-preserved c =
    (chained-part c.requires c.loop-j.invariant c.kind_at.ensures (sym c.is_attached.ensures ∙ c.loop-j-test.true)).1
