-- `split::whole::prettify_len` meets its contract: a whole query stands at level 0, its first line indented. Assumes
-- nothing.
use Rattle.view.proofs.ViewLaws.{unmarked}
use Rattle.text.specs.Layout.{pretty_indented}
use native.Mathlib.Omega.{arith}
use Rattle.split.proofs.whole.prettify_len.Goals as goal

pub split_len-requires : goal.split_len-requires
split_len-requires c =
    record {
      tables = c.requires.tables;
      known = c.requires.known;
      numberless = unmarked _ _;
      level = omega (arith, c.requires.tables.few);
    }

pub returns : goal.returns
unfolding pretty_indented
returns c =
    c.split_len.ensures
