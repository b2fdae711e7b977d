-- `leaves::string::escape_letter` meets its contract. Assumes nothing.
use borrow.Author.Tests.{ne_eqb}
use Rattle.leaves.specs.Escape.{escape_byte}
use Rattle.leaves.proofs.string.escape_letter.Goals as goal

pub returns-in-92 : goal.returns-in-92
unfolding escape_byte
returns-in-92 c =
    rw c.in-92.is

pub returns-in-34 : goal.returns-in-34
unfolding escape_byte
returns-in-34 c =
    rw c.in-34.is

pub returns-in-10 : goal.returns-in-10
unfolding escape_byte
returns-in-10 c =
    rw c.in-10.is

pub returns-in-13 : goal.returns-in-13
unfolding escape_byte
returns-in-13 c =
    rw c.in-13.is

pub returns-in-9 : goal.returns-in-9
unfolding escape_byte
returns-in-9 c =
    rw c.in-9.is

pub returns-in_default : goal.returns-in_default
unfolding escape_byte
returns-in_default c =
    let r = c.in_default.in_default-own.rest in
    simp (
      ne_eqb _ _ r.1,
      ne_eqb _ _ r.0.1,
      ne_eqb _ _ r.0.0.1,
      ne_eqb _ _ r.0.0.0.1,
      ne_eqb _ _ r.0.0.0.0.1,
    )
