-- `pieces::times::put_offset` meets its contract: the word and the offset. Assumes nothing.
use Rattle.text.proofs.WriteLaws.{wrote_nothing, run-two}
use Rattle.leaves.specs.Time.{display_offset}
use Rattle.records.specs.Answers.{offset_of}
use Rattle.page.specs.Bytes.{bytes}
use Rattle.base.proofs.SpliceLaws.{fits, next, end}
use mathlib.Core.Path.{refl}
use Rattle.pieces.proofs.times.put_offset.Goals as goal

pub put_bytes-next-requires : goal.put_bytes-next-requires
put_bytes-next-requires c =
    fits (run-two (bytes " offset ") (display_offset (offset_of c.in-Some.o))
    c.args.out.now c.args.at refl (rw c.in-Some.is at c.requires))

pub put_offset-requires : goal.put_offset-requires
put_offset-requires c =
    fits (next (run-two (bytes " offset ") (display_offset (offset_of c.in-Some.o))
    c.args.out.now c.args.at refl (rw c.in-Some.is at c.requires))
    c.put_bytes-next.ensures)

pub returns-in-None : goal.returns-in-None
returns-in-None c =
    rw c.in-None.is (wrote_nothing _ _ refl)

pub returns-in-Some : goal.returns-in-Some
returns-in-Some c =
    rw c.in-Some.is
    (end (next (next (run-two (bytes " offset ") (display_offset (offset_of c.in-Some.o))
    c.args.out.now c.args.at refl (rw c.in-Some.is at c.requires))
    c.put_bytes-next.ensures) c.put_offset.ensures))
