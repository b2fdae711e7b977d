-- `pieces::times::put_range` meets its contract: the duration in brackets. Assumes nothing.
use Rattle.text.proofs.WriteLaws.{wrote_nothing, run-three}
use Rattle.leaves.specs.Duration.{display_duration}
use Rattle.page.specs.Bytes.{bytes}
use Rattle.base.proofs.SpliceLaws.{fits, next, end}
use mathlib.Core.List.{append_assoc}
use mathlib.Core.Path.{refl}
use Rattle.pieces.proofs.times.put_range.Goals as goal

pub put_byte-number-requires : goal.put_byte-number-requires
put_byte-number-requires c =
    fits (run-three (bytes "[") (display_duration c.in-Some.n) (bytes "]")
    c.args.out.now c.args.at
    (append_assoc (bytes "[") (display_duration c.in-Some.n) (bytes "]"))
    (rw c.in-Some.is at c.requires))

pub put_duration-closing-requires : goal.put_duration-closing-requires
put_duration-closing-requires c =
    fits (next (run-three (bytes "[") (display_duration c.in-Some.n) (bytes "]")
    c.args.out.now c.args.at
    (append_assoc (bytes "[") (display_duration c.in-Some.n) (bytes "]"))
    (rw c.in-Some.is at c.requires)) c.put_byte-number.ensures)

pub put_byte-requires : goal.put_byte-requires
put_byte-requires c =
    fits (next (next (run-three (bytes "[") (display_duration c.in-Some.n) (bytes "]")
    c.args.out.now c.args.at
    (append_assoc (bytes "[") (display_duration c.in-Some.n) (bytes "]"))
    (rw c.in-Some.is at c.requires)) c.put_byte-number.ensures)
    c.put_duration-closing.ensures)

pub returns-in-None : goal.returns-in-None
returns-in-None c =
    rw c.in-None.is (wrote_nothing _ _ refl)

pub returns-in-Some : goal.returns-in-Some
returns-in-Some c =
    rw c.in-Some.is
    (end (next (next (next (run-three (bytes "[") (display_duration c.in-Some.n) (bytes "]")
    c.args.out.now c.args.at
    (append_assoc (bytes "[") (display_duration c.in-Some.n) (bytes "]"))
    (rw c.in-Some.is at c.requires)) c.put_byte-number.ensures)
    c.put_duration-closing.ensures) c.put_byte.ensures))
