-- `label::order::quoted_symbol` meets its contract: a quote, the text's own symbols, a quote. Assumes nothing.
use native.Mathlib.Omega.{arith}
use mathlib.Core.Path.{sym, ◌∙◌}
use Rattle.label.proofs.SymbolLaws.{symbol-first, symbol-inside, symbol-last}
use Rattle.label.proofs.order.quoted_symbol.Goals as goal

pub returns-then-j-eq0 : goal.returns-then-j-eq0
returns-then-j-eq0 c =
    sym (rw c.if-j-eq0.true (symbol-first _))

pub returns-then-j-text : goal.returns-then-j-text
returns-then-j-text c =
    c.symbol.ensures ∙ sym (symbol-inside _ _ (omega arith) c.if-j-text.true)

pub returns : goal.returns
returns c =
    sym (symbol-last _ _ c.if-j-text.false c.requires)
