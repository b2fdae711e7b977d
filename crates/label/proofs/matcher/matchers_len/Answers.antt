-- `label::matcher::matchers_len` meets its contract: the first matcher, and those after it. Assumes nothing.
use native.Mathlib.Omega.{arith}
use lib.ListN.{drop}
use Rattle.page.proofs.ListLaws.{first_read, others-read}
use Rattle.records.specs.Matcher.{read_matcher}
use Rattle.label.proofs.JoinLaws.{matchers-none, matchers-first, matchers-empty}
use Rattle.label.proofs.LabelLaws.{some_left}
use Rattle.label.proofs.matcher.matchers_len.Goals as goal

pub returns-then-count-eq0 : goal.returns-then-count-eq0
returns-then-count-eq0 c =
    omega (
      arith,
      matchers-empty c.args.count (drop c.args.start c.args.page.now)
          (matchers-none c.args.count (drop c.args.start c.args.page.now)
          (omega (arith, c.if-count-eq0.true))),
    )

pub stored_matcher-next-requires : goal.stored_matcher-next-requires
stored_matcher-next-requires c =
    first_read read_matcher c.args.count (drop c.args.start c.args.page.now)
    c.requires (some_left _ c.if-count-eq0.false)

pub matcher_len-first-requires : goal.matcher_len-first-requires
matcher_len-first-requires c =
    c.stored_matcher-next.ensures.lies

pub more_matchers_len-requires : goal.more_matchers_len-requires
more_matchers_len-requires c =
    others-read read_matcher c.args.count (drop c.args.start c.args.page.now)
    c.requires (some_left _ c.if-count-eq0.false) c.stored_matcher-next.ensures.reads

pub returns : goal.returns
returns c =
    matchers-first _ _ _ _ _ _ (some_left _ c.if-count-eq0.false) c.stored_matcher-next.ensures.reads
    c.matcher_len-first.ensures c.more_matchers_len.ensures c.capped_add.ensures
