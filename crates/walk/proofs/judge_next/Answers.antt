-- `walk::judge_next` meets its contract: 2 where the stack is too short. Assumes nothing.
use lib.Dec.{eqb}
use native.Mathlib.Omega.{arith}
use Rattle.reader.specs.Answers.{record_on}
use Rattle.rules.specs.Stack.{held}
use Rattle.judge.proofs.RecordLaws.{judgement-short}
use Rattle.walk.proofs.judge_next.Goals as goal

pub returns-then-len-needed : goal.returns-then-len-needed
returns-then-len-needed c =
    judgement-short (eqb c.args.rule 42) (record_on c.args.page.now c.args.item) (held c.args.stack.now)
    (omega (arith, c.len.ensures, c.if-len-needed.true, c.requires.takes))

pub judge_record-requires : goal.judge_record-requires
judge_record-requires c =
    record {
      lies = c.requires.lies;
      exact = c.requires.exact;
      fits = omega (arith, c.len.ensures, c.if-len-needed.false, c.requires.takes);
    }
