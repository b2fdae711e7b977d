-- `tokens::labelled::put_labelled` meets its contract: the pieces of its text, one after the other. Assumes nothing.
use mathlib.Core.Path.{refl}
use mathlib.Core.List.{[], ◌∷◌}
use Rattle.page.specs.Bytes.{bytes}
use Rattle.base.specs.Splice.{join}
use Rattle.base.proofs.SpliceLaws.{start, fits, next, end, Run}
use Rattle.records.specs.Answers.{labels_on}
use Rattle.label.specs.Label.{display_labels}
use Rattle.tokens.specs.Labelled.{labelled_bytes}
use Rattle.tokens.proofs.labelled.put_labelled.Goals as goal
use Rattle.tokens.proofs.labelled.put_labelled.Goals.{Start}

-- before the first write
begun : (s : Start)
    → Run s.args.out.now s.args.out.now s.args.at
    (labelled_bytes s.args.token.now (labels_on s.args.page.now s.args.start s.args.count))
    (s.args.token.now ∷ bytes " ("
    ∷ display_labels (labels_on s.args.page.now s.args.start s.args.count) ∷ bytes ")" ∷ [])
    s.args.at
unfolding join labelled_bytes
begun s = start s.requires.room refl

pub put_bytes-bracket-requires : goal.put_bytes-bracket-requires
put_bytes-bracket-requires c =
    fits (begun (goal.at.put_bytes-bracket-requires c).Start)

pub put_bytes-labels-requires : goal.put_bytes-labels-requires
put_bytes-labels-requires c =
    fits (next (begun (goal.at.put_bytes-labels-requires c).Start) c.put_bytes-bracket.ensures)

pub put_labels-closing-requires : goal.put_labels-closing-requires
put_labels-closing-requires c =
    record {
      stored = c.requires.stored;
      room = fits
          (next (next (begun (goal.at.put_labels-closing-requires c).Start) c.put_bytes-bracket.ensures)
          c.put_bytes-labels.ensures);
    }

pub put_byte-requires : goal.put_byte-requires
put_byte-requires c =
    fits (next
    (next (next (begun (goal.at.put_byte-requires c).Start) c.put_bytes-bracket.ensures) c.put_bytes-labels.ensures)
    c.put_labels-closing.ensures)

pub returns : goal.returns
returns c =
    end (next (next
    (next (next (begun (goal.at.returns c).Start) c.put_bytes-bracket.ensures) c.put_bytes-labels.ensures)
    c.put_labels-closing.ensures) c.put_byte.ensures)
