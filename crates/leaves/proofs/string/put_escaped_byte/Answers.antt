-- `leaves::string::put_escaped_byte` meets its contract. Assumes nothing.
use mathlib.Core.Path.{refl}
use Rattle.base.proofs.SpliceLaws.{begin, step, finish, cut-last}
use Rattle.leaves.proofs.EscapeLaws.{escape_byte-letter}
use Rattle.leaves.proofs.string.put_escaped_byte.Goals as goal

pub returns-in-Some : goal.returns-in-Some
returns-in-Some c =
    finish
    (step (step (begin _ _ _ c.requires) (escape_byte-letter _ _ c.in-Some.ensures) c.put_byte-next.ensures)
    (cut-last _) c.put_byte-in-Some.ensures)
    refl
