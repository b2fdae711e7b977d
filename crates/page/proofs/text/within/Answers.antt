-- `page::text::within` meets its contract: past the end nothing is left, as at the end. Assumes nothing.
use mathlib.Core.Path.{sym, ◌∙◌}
use native.Mathlib.Nat.{le_refl}
use native.Mathlib.Omega.{arith}
use lib.ListN.{drop_of_length-le}
use Rattle.page.proofs.text.within.Goals as goal

pub returns : goal.returns
returns c =
    record {
      same = drop_of_length-le c.args.page.now (le_refl _)
          ∙ sym (drop_of_length-le c.args.page.now {i = c.args.at} (omega arith));
      inside = omega arith;
    }
