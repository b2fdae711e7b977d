-- `label::matcher::put_matcher` meets its contract: name, operator and value, one after the other. Assumes nothing.
use Rattle.base.proofs.SpliceLaws.{start, fits, next, end}
use Rattle.leaves.proofs.PartLaws.{part-fits, part-wrote}
use Rattle.leaves.specs.Escape.{quote}
use Rattle.label.specs.Label.{display_label}
use Rattle.label.proofs.PrintedLaws.{printed_text-pieces}
use Rattle.label.proofs.matcher.put_matcher.Goals as goal

pub text_at-requires : goal.text_at-requires
text_at-requires c =
    rw c.name.ensures c.requires.0.name

pub put_name-behind-requires : goal.put_name-behind-requires
put_name-behind-requires c = (
  rw (c.text_at.ensures, c.name.ensures) c.requires.0.label,
  part-fits display_label (rw c.name.ensures at c.text_at.ensures) _ _
      (fits (start {o = c.args.out.now} c.requires.1 (printed_text-pieces _ _))),
)

pub put_operator-next-requires : goal.put_operator-next-requires
put_operator-next-requires c =
    fits (next (start c.requires.1 (printed_text-pieces _ _))
    (part-wrote display_label (rw c.name.ensures at c.text_at.ensures) c.put_name-behind.ensures))

pub text_at-requires-2 : goal.text_at-requires-2
text_at-requires-2 c =
    rw c.value.ensures c.requires.0.value

pub put_quoted-requires : goal.put_quoted-requires
put_quoted-requires c =
    part-fits quote (rw c.value.ensures at c.text_at-2.ensures) _ _
    (fits (next (next (start c.requires.1 (printed_text-pieces _ _))
    (part-wrote display_label (rw c.name.ensures at c.text_at.ensures) c.put_name-behind.ensures))
    c.put_operator-next.ensures))

pub returns : goal.returns
returns c =
    end (next (next (next (start c.requires.1 (printed_text-pieces _ _))
    (part-wrote display_label (rw c.name.ensures at c.text_at.ensures) c.put_name-behind.ensures))
    c.put_operator-next.ensures)
    (part-wrote quote (rw c.value.ensures at c.text_at-2.ensures) c.put_quoted.ensures))
