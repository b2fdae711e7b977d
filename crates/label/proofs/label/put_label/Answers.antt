-- `label::label::put_label` meets its contract: the label as it is, or quoted. Assumes nothing.
use Rattle.label.proofs.LabelLaws.{display_label-bare, display_label-quoted}
use Rattle.label.proofs.label.put_label.Goals as goal

pub put_bytes-requires : goal.put_bytes-requires
put_bytes-requires c =
    rw (display_label-bare _ _ c.is_label.ensures c.if-is_label.true) at c.requires

pub returns-then-is_label : goal.returns-then-is_label
returns-then-is_label c =
    rw (display_label-bare _ _ c.is_label.ensures c.if-is_label.true)
    c.put_bytes.ensures

pub put_quoted-requires : goal.put_quoted-requires
put_quoted-requires c =
    rw (display_label-quoted _ _ c.is_label.ensures c.if-is_label.false) at c.requires

pub returns : goal.returns
returns c =
    rw (display_label-quoted _ _ c.is_label.ensures c.if-is_label.false)
    c.put_quoted.ensures
