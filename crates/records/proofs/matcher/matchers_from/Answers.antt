use mathlib.Core.Path.{◌≡◌}
use Prim.Native.Nat.{◌-◌, ◌+◌}
use native.Mathlib.Omega.{arith}
use lib.ListN.{drop}
use Rattle.page.proofs.ListLaws.{read_length, all_read, one-refused}
use Rattle.records.specs.Matcher.{read_matcher}
use Rattle.records.proofs.MatcherFactsLaws.{facts-more, facts-all, read_matcher_facts-refused}
use Rattle.records.proofs.matcher.matchers_from.Goals as goal

pub loop-preserved : goal.loop-preserved
loop-preserved c =
    let less : c.args.count - (c.loop.counter + 1) ≡ c.args.count - c.loop.counter - 1 = omega arith in
    rw less (facts-more _ _ _ _ _ _ _ c.loop.invariant (omega arith) (rw c.in-Got.is at c.read_matcher_facts.ensures))

pub returns-in-Bad-clause-reads : goal.returns-in-Bad-clause-reads
returns-in-Bad-clause-reads c =
    let e = rw c.in-Bad.is at c.read_matcher_facts.ensures in
    (one-refused read_matcher _ _ _ _ c.loop.invariant.passes (omega arith)
    (read_matcher_facts-refused (drop c.loop.at c.args.page.now) e))

pub returns : goal.returns
returns c =
    let start = drop c.args.start c.args.page.now in
    let e = all_read read_matcher c.args.count start _ _ c.loop.invariant.passes (omega arith) in record {
      reads = e;
      facts = (
        facts-all c.args.count start _ _ _ c.loop.invariant (omega arith),
        read_length read_matcher c.args.count start e,
      );
    }
