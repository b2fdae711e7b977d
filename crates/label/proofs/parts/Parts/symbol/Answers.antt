-- `label::parts::Parts::symbol` meets its contract: the segment that symbol j lies in. Assumes nothing.
use Rattle.label.proofs.MatcherLaws.{segment-name, segment-op, segment-value, value_room, op-symbol}
use Rattle.label.proofs.parts.Parts.symbol.Goals as goal

pub returns-then-j-n : goal.returns-then-j-n
returns-then-j-n c =
    segment-name _ _ _ _ _ _ _ c.name_count-n.ensures c.if-j-n.true
    c.name_symbol.ensures

pub returns-then-k-o : goal.returns-then-k-o
returns-then-k-o c =
    let o = c.operator_count-o.ensures in
    let here = c.if-k-o.true in
    segment-op _ _ _ _ _ _ _ _ c.name_count-n.ensures c.if-j-n.false o here
    (op-symbol _ _ _ _ _ o here c.operator_byte.ensures c.symbol.ensures)

pub quoted_symbol-requires : goal.quoted_symbol-requires
quoted_symbol-requires c =
    value_room _ _ _ _ _ _ _ c.name_count-n.ensures c.operator_count-o.ensures
    c.if-j-n.false c.if-k-o.false c.requires

pub returns : goal.returns
returns c =
    segment-value _ _ _ _ _ _ _ _ c.name_count-n.ensures c.if-j-n.false
    c.operator_count-o.ensures c.if-k-o.false c.quoted_symbol.ensures
