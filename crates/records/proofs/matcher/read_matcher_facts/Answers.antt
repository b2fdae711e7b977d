-- `records::matcher::read_matcher_facts` meets its contract: the number, the name, and what follows it. Assumes
-- nothing.
use lib.ListN.{drop}
use mathlib.Core.Bool.{Bool}
use mathlib.Core.Path.{ap, ◌∙◌}
use Rattle.page.specs.Read.{reader_at}
use Rattle.records.specs.MatcherFacts.{fact_forms}
use Rattle.records.proofs.MatcherFactsLaws.{facts-read, facts-cut}
use Rattle.records.proofs.matcher.read_matcher_facts.Goals as goal

pub returns-in-Ok-read_text : goal.returns-in-Ok-read_text
returns-in-Ok-read_text c =
    let op = rw c.in-Ok.is at c.read_number.ensures.reads in
    let name = rw c.in-Ok-read_text.is at c.read_text.ensures.reads in
    c.read_value_facts.ensures
    ∙ ap (λ (b : Bool). reader_at (fact_forms b) c.in-Ok.op (drop c.in-Ok-read_text.next c.args.page.now)) c.is_metric_label.ensures
    ∙ facts-read c.in-Ok.op _ (drop c.args.at c.args.page.now) _ _ c.if-op-gt3.false op name

pub returns-in-Err-read_text : goal.returns-in-Err-read_text
returns-in-Err-read_text c =
    let op = rw c.in-Ok.is at c.read_number.ensures.reads in
    let name = rw c.in-Err-read_text.is at c.read_text.ensures.reads in
    facts-cut c.in-Ok.op (drop c.args.at c.args.page.now) _ c.if-op-gt3.false op name
