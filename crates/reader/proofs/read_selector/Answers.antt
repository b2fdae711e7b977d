-- `reader::read_selector` meets its contract, field by field. Assumes nothing.
use Rattle.reader.proofs.read_selector.Goals as goal

pub returns-clause-lies : goal.returns-clause-lies
returns-clause-lies c =
    record {
      name = c.in_ok-name.ensures.lies.0;
      facts = c.in_ok-matchers.ensures.facts.0;
      stored = c.in_ok-matchers.ensures.facts.1;
    }
