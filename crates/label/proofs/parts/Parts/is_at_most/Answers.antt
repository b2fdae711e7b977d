-- `label::parts::Parts::is_at_most` meets its contract: the walk goes from one place of the symbols to the next. Assumes
-- nothing.
use Rattle.label.proofs.MatcherLaws.{matcher-order}
use Rattle.label.proofs.WalkLaws.{ahead-longer, ahead-differs, ahead-on, ahead-ends}
use Rattle.label.proofs.parts.Parts.is_at_most.Goals as goal

pub loop-j-init : goal.loop-j-init
loop-j-init c =
    matcher-order _ _ _ _ _ _ _ _ c.args.self.now.label c.args.other.now.label

pub returns-then-m-j : goal.returns-then-m-j
returns-then-m-j c =
    ahead-longer _ _ _ _ _ _ c.symbol_count-n.ensures c.symbol_count-m.ensures
    c.loop-j.invariant c.loop-j-test.true c.if-m-j.true

pub returns-then-x-y : goal.returns-then-x-y
returns-then-x-y c =
    ahead-differs _ _ _ _ _ _ _ _ c.symbol_count-n.ensures c.symbol_count-m.ensures
    c.loop-j.invariant c.loop-j-test.true c.if-m-j.false
    c.symbol-x.ensures c.symbol-y.ensures c.if-x-y.true

pub loop-j-preserved : goal.loop-j-preserved
loop-j-preserved c =
    ahead-on _ _ _ _ _ _ _ _ c.symbol_count-n.ensures c.symbol_count-m.ensures
    c.loop-j.invariant c.loop-j-test.true c.if-m-j.false
    c.symbol-x.ensures c.symbol-y.ensures c.if-x-y.false

pub returns : goal.returns
returns c =
    ahead-ends _ _ _ _ _ c.symbol_count-n.ensures c.loop-j.invariant c.loop-j-test.false
