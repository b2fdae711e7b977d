-- `judge::label::has_labels` meets its contract: a list is not empty where its first element can be read. Assumes
-- nothing.
use mathlib.Core.Path.{sym, ap, ◌∙◌}
use mathlib.Core.Bool.{not}
use mathlib.Core.List.{List}
use native.Mathlib.Omega.{arith}
use lib.ListN.{drop}
use Rattle.page.specs.Text.{Text, read_any_text}
use Rattle.page.specs.Answers.{span_on}
use Rattle.page.specs.Bytes.{is_empty}
use Rattle.page.proofs.ListLaws.{listed-none}
use Rattle.judge.proofs.ReadLaws.{is_ok-listed}
use Rattle.judge.proofs.label.has_labels.Goals as goal

pub returns-then-count-eq0 : goal.returns-then-count-eq0
returns-then-count-eq0 c =
    sym (ap (λ (l : List Text). not (is_empty l))
    (listed-none read_any_text c.args.count (drop c.args.start c.args.page.now) (omega arith)))

pub returns : goal.returns
returns c =
    c.is_ok.ensures.value
    ∙ is_ok-listed (span_on c.args.page.now) c.args.page.now read_any_text c.args.count (drop c.args.start c.args.page.now)
    c.read_text.result c.if-count-eq0.false c.read_text.ensures.reads
