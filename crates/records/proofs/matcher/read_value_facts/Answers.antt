-- `records::matcher::read_value_facts` meets its contract: by the operator, the value or the flag after it decides.
-- Assumes nothing.
use lib.ListN.{drop}
use mathlib.Core.Path.{◌≡◌, sym, ◌∙◌}
use native.Mathlib.Omega.{arith}
use Rattle.records.proofs.SpanLaws.{span-test}
use Rattle.records.proofs.MatcherFactsLaws.{pattern-facts, value-refused}
use Rattle.records.proofs.matcher.read_value_facts.Goals as goal

pub returns-then-op-ge2 : goal.returns-then-op-ge2
returns-then-op-ge2 c =
    let lies = rw c.in-Ok.is at c.read_text.ensures.lies in
    let reads = rw c.in-Ok.is at c.read_text.ensures.reads in
    let e = rw lies.1 at reads in
    c.read_pattern_facts.ensures
    ∙ sym (pattern-facts c.args.named _ (drop c.args.at c.args.page.now) _ c.args.op c.requires c.if-op-ge2.true e)

pub returns-then-op-eq0 : goal.returns-then-op-eq0
returns-then-op-eq0 c =
    let lies = rw c.in-Ok.is at c.read_text.ensures.lies in
    let reads = rw c.in-Ok.is at c.read_text.ensures.reads in
    simp (c.if-op-eq0.true, ← reads, ← span-test _ _ lies.0)

pub returns-else-op-eq0 : goal.returns-else-op-eq0
returns-else-op-eq0 c =
    let lies = rw c.in-Ok.is at c.read_text.ensures.lies in
    let reads = rw c.in-Ok.is at c.read_text.ensures.reads in
    let one : c.args.op ≡ 1 = omega arith in
    simp (one, ← reads, ← span-test _ _ lies.0)

pub returns-in-Err : goal.returns-in-Err
returns-in-Err c =
    let reads = rw c.in-Err.is at c.read_text.ensures.reads in
    sym (value-refused c.args.named (drop c.args.at c.args.page.now) c.args.op c.requires reads)
