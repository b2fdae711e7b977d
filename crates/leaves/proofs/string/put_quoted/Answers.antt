-- `leaves::string::put_quoted` meets its contract: the pieces of its text, one after the other. Assumes nothing.
use mathlib.Core.Path.{refl}
use mathlib.Core.List.{[], ◌∷◌}
use Rattle.base.specs.Splice.{join}
use Rattle.base.proofs.SpliceLaws.{start, fits, next, end, Run}
use Rattle.leaves.specs.Escape.{escape, quote}
use Rattle.leaves.proofs.string.put_quoted.Goals as goal
use Rattle.leaves.proofs.string.put_quoted.Goals.{Start}

-- before the first write
begun : (s : Start)
    → Run s.args.out.now s.args.out.now s.args.at (quote s.args.text.now)
    ((34 ∷ []) ∷ escape s.args.text.now ∷ (34 ∷ []) ∷ []) s.args.at
unfolding join quote
begun s = start s.requires (refl)

pub put_byte-inside-requires : goal.put_byte-inside-requires
put_byte-inside-requires c =
    fits (begun (goal.at.put_byte-inside-requires c).Start)

pub put_escaped-behind-requires : goal.put_escaped-behind-requires
put_escaped-behind-requires c =
    fits (next (begun (goal.at.put_escaped-behind-requires c).Start) c.put_byte-inside.ensures)

pub put_byte-requires : goal.put_byte-requires
put_byte-requires c =
    fits (next (next (begun (goal.at.put_byte-requires c).Start) c.put_byte-inside.ensures)
    c.put_escaped-behind.ensures)

pub returns : goal.returns
returns c =
    end (next (next (next (begun (goal.at.returns c).Start) c.put_byte-inside.ensures) c.put_escaped-behind.ensures)
    c.put_byte.ensures)
