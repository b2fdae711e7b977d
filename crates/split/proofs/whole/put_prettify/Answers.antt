-- `split::whole::put_prettify` meets its contract: a whole query stands at level 0, its first line indented. Assumes
-- nothing.
use Rattle.view.proofs.ViewLaws.{unmarked}
use Rattle.text.specs.Layout.{pretty_indented}
use native.Mathlib.Omega.{arith}
use Rattle.split.proofs.whole.put_prettify.Goals as goal

pub write_split-requires : goal.write_split-requires
unfolding pretty_indented
write_split-requires c =
    record {
      tables = c.requires.tables;
      known = c.requires.known;
      numberless = unmarked _ _;
      level = omega (arith, c.requires.tables.few);
      room = omega (arith, c.requires.room);
    }

pub returns : goal.returns
unfolding pretty_indented
returns c =
    c.write_split.ensures
