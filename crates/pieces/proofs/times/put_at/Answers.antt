-- `pieces::times::put_at` meets its contract: a space and the time. Assumes nothing.
use Rattle.text.proofs.WriteLaws.{wrote_nothing, run-two}
use Rattle.leaves.specs.Time.{display_at}
use Rattle.records.specs.Answers.{at_modifier_of}
use Rattle.page.specs.Bytes.{bytes}
use Rattle.base.proofs.SpliceLaws.{fits, next, end}
use mathlib.Core.Path.{refl}
use Rattle.pieces.proofs.times.put_at.Goals as goal

pub put_byte-next-requires : goal.put_byte-next-requires
put_byte-next-requires c =
    fits (run-two (bytes " ") (display_at (at_modifier_of c.in-Some.a))
    c.args.out.now c.args.at refl
    (rw c.in-Some.is at c.requires))

pub put_at-requires : goal.put_at-requires
put_at-requires c =
    fits (next (run-two (bytes " ") (display_at (at_modifier_of c.in-Some.a))
    c.args.out.now c.args.at refl (rw c.in-Some.is at c.requires))
    c.put_byte-next.ensures)

pub returns-in-None : goal.returns-in-None
returns-in-None c =
    rw c.in-None.is (wrote_nothing _ _ refl)

pub returns-in-Some : goal.returns-in-Some
returns-in-Some c =
    rw c.in-Some.is
    (end (next (next (run-two (bytes " ") (display_at (at_modifier_of c.in-Some.a))
    c.args.out.now c.args.at refl (rw c.in-Some.is at c.requires))
    c.put_byte-next.ensures) c.put_at.ensures))
