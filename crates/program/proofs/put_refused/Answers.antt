-- `program::put_refused` meets its contract: the pieces of its line, one after the other. Assumes nothing.
use mathlib.Core.List.{[], ◌∷◌}
use Rattle.base.proofs.SpliceLaws.{Run, start, fits, next, end}
use Rattle.page.specs.Bytes.{bytes}
use Rattle.leaves.specs.Decimal.{decimal}
use Rattle.outcomes.specs.Output.{refused_line}
use Rattle.program.proofs.SheetLaws.{refused_line-pieces}
use Rattle.program.proofs.put_refused.Goals as goal
use Rattle.program.proofs.put_refused.Goals.{Start}

-- before the first write
begun : (s : Start)
    → Run s.args.out.now s.args.out.now s.args.at (refused_line s.args.number s.args.index)
    (bytes "refused " ∷ decimal s.args.number ∷ bytes " at " ∷ decimal s.args.index ∷ bytes "\n" ∷ [])
    s.args.at
begun s = start s.requires (refused_line-pieces s.args.number s.args.index)

pub put_bytes-first-requires : goal.put_bytes-first-requires
put_bytes-first-requires c =
    fits (begun (goal.at.put_bytes-first-requires c).Start)

pub put_decimal-word-requires : goal.put_decimal-word-requires
put_decimal-word-requires c =
    fits (next (begun (goal.at.put_decimal-word-requires c).Start) c.put_bytes-first.ensures)

pub put_bytes-second-requires : goal.put_bytes-second-requires
put_bytes-second-requires c =
    fits (next (next (begun (goal.at.put_bytes-second-requires c).Start) c.put_bytes-first.ensures)
    c.put_decimal-word.ensures)

pub put_decimal-end-requires : goal.put_decimal-end-requires
put_decimal-end-requires c =
    fits (next
    (next (next (begun (goal.at.put_decimal-end-requires c).Start) c.put_bytes-first.ensures)
    c.put_decimal-word.ensures)
    c.put_bytes-second.ensures)

pub put_byte-requires : goal.put_byte-requires
put_byte-requires c =
    fits (next (next
    (next (next (begun (goal.at.put_byte-requires c).Start) c.put_bytes-first.ensures) c.put_decimal-word.ensures)
    c.put_bytes-second.ensures) c.put_decimal-end.ensures)

pub returns : goal.returns
returns c =
    end (next (next (next
    (next (next (begun (goal.at.returns c).Start) c.put_bytes-first.ensures) c.put_decimal-word.ensures)
    c.put_bytes-second.ensures) c.put_decimal-end.ensures)
    c.put_byte.ensures)
