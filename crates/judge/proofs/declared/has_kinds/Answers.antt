-- `judge::declared::has_kinds` meets its contract: a list is not empty where its first element can be read. Assumes
-- nothing.
use mathlib.Core.Path.{sym, ap, ◌∙◌}
use mathlib.Core.Bool.{not}
use mathlib.Core.List.{List}
use native.Mathlib.Omega.{arith}
use lib.ListN.{drop}
use Rattle.records.specs.Field.{read_kind}
use Rattle.records.specs.Kind.{Kind}
use Rattle.records.specs.Answers.{kind_of}
use Rattle.page.specs.Bytes.{is_empty}
use Rattle.page.proofs.ListLaws.{listed-none}
use Rattle.judge.proofs.ReadLaws.{is_ok-listed}
use Rattle.judge.proofs.declared.has_kinds.Goals as goal

pub returns-then-count-eq0 : goal.returns-then-count-eq0
returns-then-count-eq0 c =
    sym (ap (λ (l : List Kind). not (is_empty l))
    (listed-none read_kind c.args.count (drop c.args.start c.args.page.now) (omega arith)))

pub returns : goal.returns
returns c =
    c.is_ok.ensures.value
    ∙ is_ok-listed kind_of c.args.page.now read_kind c.args.count (drop c.args.start c.args.page.now)
    c.read_kind.result c.if-count-eq0.false c.read_kind.ensures
