-- `functions::carried::begins_at` meets its contract: std's test of a beginning is this one. Assumes nothing.
use mathlib.Core.Path.{◌∙◌}
use lib.ListN.{drop, length-drop}
use lib.Seq.{take-length}
use Rattle.functions.proofs.BeginsLaws.{begins-std}
use Rattle.functions.proofs.carried.begins_at.Goals as goal

pub returns : goal.returns
returns c =
    let rest = drop c.args.at c.args.page.now in
    rw (← length-drop c.args.at c.args.page.now, take-length rest) at c.starts_with.ensures.value
    ∙ begins-std c.args.text.now rest
