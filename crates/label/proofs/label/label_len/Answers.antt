-- `label::label::label_len` meets its contract: the label as it is, or quoted. Assumes nothing.
use native.Mathlib.Omega.{arith}
use Rattle.label.proofs.LabelLaws.{display_label-bare, display_label-quoted}
use Rattle.label.proofs.label.label_len.Goals as goal

pub returns-then-is_label : goal.returns-then-is_label
returns-then-is_label c =
    rw (display_label-bare _ _ c.is_label.ensures c.if-is_label.true)
    (omega (arith, c.capped_add.ensures))

pub returns : goal.returns
returns c =
    rw (display_label-quoted _ _ c.is_label.ensures c.if-is_label.false)
    c.quoted_len.ensures
