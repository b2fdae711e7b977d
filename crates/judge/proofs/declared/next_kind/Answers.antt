-- `judge::declared::next_kind` meets its contract: the kinds after the first, or the first again where there is none.
-- Assumes nothing.
use mathlib.Core.Path.{sym, ◌∙◌}
use native.Mathlib.Omega.{arith}
use Prim.Native.Nat.{◌<◌}
use lib.ListN.{drop}
use Rattle.records.specs.Answers.{kind_of}
use Rattle.judge.proofs.ReadLaws.{ok-got, none-refused}
use Rattle.judge.proofs.DeclaredLaws.{next_more, next_last, next-refused, next-none}
use Rattle.judge.proofs.declared.next_kind.Goals as goal

pub returns-then-count-eq0 : goal.returns-then-count-eq0
returns-then-count-eq0 c =
    next-none c.args.count (drop c.args.start c.args.page.now) (omega arith)

pub returns-in_err-kind : goal.returns-in_err-kind
returns-in_err-kind c =
    let page = c.args.page.now in
    let e = none-refused kind_of page c.read_kind.result c.ok.ensures.value c.in_err-kind.was c.read_kind.ensures in
    rw c.from_residual.ensures (next-refused c.args.count (drop c.args.start page) e.1)

pub returns-then-has_kinds : goal.returns-then-has_kinds
returns-then-has_kinds c =
    let page = c.args.page.now in
    let e = ok-got kind_of page c.read_kind.result c.ok.ensures.value c.in_ok-kind.was c.read_kind.ensures in
    let some : 0 < c.args.count = omega arith in
    next_more c.args.count (drop c.args.start page) some e (sym c.if-has_kinds.true ∙ c.has_kinds.ensures)

pub returns : goal.returns
returns c =
    let page = c.args.page.now in
    let e = ok-got kind_of page c.read_kind.result c.ok.ensures.value c.in_ok-kind.was c.read_kind.ensures in
    let some : 0 < c.args.count = omega arith in
    next_last c.args.count (drop c.args.start page) some e (sym c.if-has_kinds.false ∙ c.has_kinds.ensures)
