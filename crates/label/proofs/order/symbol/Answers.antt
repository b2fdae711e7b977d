-- `label::order::symbol` meets its contract. Assumes nothing.
use Rattle.label.proofs.SymbolLaws.{symbol-stands, symbol-escapes}
use Rattle.label.proofs.order.symbol.Goals as goal

pub returns-in-None : goal.returns-in-None
returns-in-None c =
    symbol-stands _ (rw c.in-None.is at c.escape_letter.ensures)

pub returns-in-Some : goal.returns-in-Some
returns-in-Some c =
    symbol-escapes _ _ (rw c.in-Some.is at c.escape_letter.ensures)
