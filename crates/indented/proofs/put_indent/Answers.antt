-- `indented::put_indent` meets its contract. Assumes nothing.
use Rattle.text.proofs.WriteLaws.{wrote_nothing}
use mathlib.Core.Path.{refl}
use Rattle.indented.proofs.put_indent.Goals as goal

pub put_spaces-requires : goal.put_spaces-requires
put_spaces-requires c =
    rw c.if-indents.true at c.requires

pub shape_of-out-then-indents : goal.shape_of-out-then-indents
shape_of-out-then-indents c =
    c.put_spaces.auto.out

pub returns-then-indents : goal.returns-then-indents
returns-then-indents c =
    rw c.if-indents.true c.put_spaces.ensures

pub returns : goal.returns
returns c =
    rw c.if-indents.false (wrote_nothing _ _ refl)
