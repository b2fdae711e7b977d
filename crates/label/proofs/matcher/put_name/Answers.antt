-- `label::matcher::put_name` meets its contract. Assumes nothing.
use Rattle.label.proofs.LabelLaws.{display_label-bare, display_label-quoted}
use Rattle.label.proofs.matcher.put_name.Goals as goal

pub put_bytes-requires : goal.put_bytes-requires
put_bytes-requires c =
    rw (display_label-bare _ _ c.requires.0 c.if-bare.true) at c.requires.1

pub returns-then-bare : goal.returns-then-bare
returns-then-bare c =
    rw (display_label-bare _ _ c.requires.0 c.if-bare.true) c.put_bytes.ensures

pub put_quoted-requires : goal.put_quoted-requires
put_quoted-requires c =
    rw (display_label-quoted _ _ c.requires.0 c.if-bare.false) at c.requires.1

pub returns : goal.returns
returns c =
    rw (display_label-quoted _ _ c.requires.0 c.if-bare.false) c.put_quoted.ensures
