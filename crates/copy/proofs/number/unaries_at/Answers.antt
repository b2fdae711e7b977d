-- `copy::number::unaries_at` meets its contract: all bytes before the first other one are counted. Assumes nothing.
use Rattle.std.proofs.Common.{rules, ◌∙◌, ap, nat_eq}
use borrow.Author.Tests.{tests}
use mathlib.Core.Bool.{not}
use Rattle.std.proofs.lemmas.Iterator.{YieldsList-from_slice}
use Rattle.std.proofs.lemmas.Iterator.Search.{position_from_yields_List}
use Rattle.copy.specs.RecordCopy.{unaries}
use Rattle.copy.proofs.UnaryLaws.{unaries-counted}
use Rattle.copy.proofs.number.unaries_at.Goals as goal

pub returns : goal.returns
returns c =
    let found = position_from_yields_List (λ b. not (nat_eq b 7)) _ _ c.position.result c.position.ensures.ran
    (YieldsList-from_slice c.bytes_from-rest.result.now (cc)) (λ x b q k. search (rules, tests)) in
    c.unwrap_or.ensures ∙ unaries-counted _ _ found ∙ ap unaries c.bytes_from-rest.ensures
