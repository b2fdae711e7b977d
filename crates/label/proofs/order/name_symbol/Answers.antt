-- `label::order::name_symbol` meets its contract. Assumes nothing.
use Rattle.label.proofs.MatcherLaws.{bare-inside, quoted-inside, bare-symbol, quoted-symbol}
use Rattle.label.proofs.order.name_symbol.Goals as goal

pub bounds-name-j : goal.bounds-name-j
bounds-name-j c =
    bare-inside _ _ _ c.if-bare.true c.requires

pub returns-then-bare : goal.returns-then-bare
returns-then-bare c =
    bare-symbol _ _ _ _ c.if-bare.true c.requires c.symbol.ensures

pub quoted_symbol-requires : goal.quoted_symbol-requires
quoted_symbol-requires c =
    quoted-inside _ _ _ c.if-bare.false c.requires

pub returns : goal.returns
returns c =
    quoted-symbol _ _ _ _ c.if-bare.false c.quoted_symbol.ensures
