-- `program::put_sheet` meets its contract: the array has the length that `put_line` asks. Assumes nothing.
use mathlib.Core.Path.{◌≡◌}
use lib.ListN.{length}
use Rattle.program.proofs.SheetLaws.{output-within}
use borrow.Author.Rules.{rules}
use Rattle.program.proofs.put_sheet.Goals as goal

pub returns : goal.returns
returns c =
    let size : 65537 ≡ length c.args.out.now = search rules in
    record {
      wrote = c.put_line.ensures;
      fits = output-within c.args.page.now c.args.out.now size c.put_line.ensures;
    }
