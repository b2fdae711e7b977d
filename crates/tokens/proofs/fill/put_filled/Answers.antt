-- `tokens::fill::put_filled` meets its contract: the pieces of its text, one after the other. Assumes nothing.
use mathlib.Core.Path.{refl}
use mathlib.Core.List.{[], ◌∷◌}
use Rattle.page.specs.Bytes.{bytes}
use Rattle.base.specs.Splice.{join}
use Rattle.base.proofs.SpliceLaws.{start, fits, next, end, Run}
use Rattle.records.specs.Answers.{literal_of}
use Rattle.leaves.specs.Numeral.{display_fill}
use Rattle.tokens.specs.Labelled.{filled_bytes}
use Rattle.tokens.proofs.fill.put_filled.Goals as goal
use Rattle.tokens.proofs.fill.put_filled.Goals.{Start}

-- before the first write
begun : (s : Start)
    → Run s.args.out.now s.args.out.now s.args.at
    (filled_bytes s.args.token.now (literal_of s.args.literal))
    (s.args.token.now ∷ bytes " (" ∷ display_fill (literal_of s.args.literal) ∷ bytes ")" ∷ []) s.args.at
unfolding join filled_bytes
begun s = start s.requires (refl)

pub put_bytes-bracket-requires : goal.put_bytes-bracket-requires
put_bytes-bracket-requires c =
    fits (begun (goal.at.put_bytes-bracket-requires c).Start)

pub put_bytes-number-requires : goal.put_bytes-number-requires
put_bytes-number-requires c =
    fits (next (begun (goal.at.put_bytes-number-requires c).Start) c.put_bytes-bracket.ensures)

pub put_fill-closing-requires : goal.put_fill-closing-requires
put_fill-closing-requires c =
    fits (next (next (begun (goal.at.put_fill-closing-requires c).Start) c.put_bytes-bracket.ensures)
    c.put_bytes-number.ensures)

pub put_byte-requires : goal.put_byte-requires
put_byte-requires c =
    fits (next
    (next (next (begun (goal.at.put_byte-requires c).Start) c.put_bytes-bracket.ensures) c.put_bytes-number.ensures)
    c.put_fill-closing.ensures)

pub returns : goal.returns
returns c =
    end (next (next
    (next (next (begun (goal.at.returns c).Start) c.put_bytes-bracket.ensures) c.put_bytes-number.ensures)
    c.put_fill-closing.ensures) c.put_byte.ensures)
