-- `label::order::name_count` meets its contract. Assumes nothing.
use Rattle.label.proofs.MatcherLaws.{bare-count, quoted-count}
use Rattle.label.proofs.order.name_count.Goals as goal

pub returns-then-bare : goal.returns-then-bare
returns-then-bare c =
    bare-count _ _ c.if-bare.true

pub returns : goal.returns
returns c =
    quoted-count _ _ c.if-bare.false
