-- `page::name::all_in` meets its contract: `all` tests each byte by the class. Assumes nothing.
use Rattle.std.proofs.lemmas.Iterator.{YieldsList-from_slice}
use Rattle.std.proofs.lemmas.Iterator.Search.{all_from_yields_List}
use mathlib.Core.Path.{◌∙◌}
use borrow.Author.Rules.{rules}
use Rattle.page.specs.Answers.{in_class}
use Rattle.page.proofs.TextLaws.{all-is}
use Rattle.page.proofs.name.all_in.Goals as goal

pub returns : goal.returns
returns c =
    all_from_yields_List (in_class c.args.class) _ _ _ c.all.ensures.ran (YieldsList-from_slice c.args.text.now cc) (λ x b q k. search rules)
    ∙ all-is (in_class c.args.class) c.args.text.now
