-- `program::put_line` meets its contract: what `split` did, then the line feed or the words. Assumes nothing.
use mathlib.Core.Path.{sym}
use native.Mathlib.Omega.{arith}
use lib.ListN.{take}
use lib.Seq.{length-take-le}
use Rattle.records.specs.Outcome.{answer, refusal}
use Rattle.records.specs.Answers.{kind_of}
use Rattle.outcomes.specs.Calls.{split_text, Does}
use Rattle.program.proofs.SheetLaws.{answer-room, answer-line, refused-room, refused-line}
use Rattle.program.proofs.put_line.Goals as goal
use Rattle.program.proofs.put_line.Goals.{After-refusal_number, In-Ok}

-- what `split` did, where the page is accepted
accepted : (c : In-Ok) →
    Does (split_text c.args.page.now (take 65536 c.args.out.now))
    (answer (kind_of c.in-Ok.accepted.kind) c.in-Ok.accepted.written) c.split.new.out
accepted c =
    rw c.in-Ok.is at c.split.ensures

-- where it is refused
refused : (c : After-refusal_number) →
    Does (split_text c.args.page.now (take 65536 c.args.out.now))
    (refusal c.refusal_number.result c.in-Err.refused.index)
    c.split.new.out
refused c =
    rw c.refusal_number.ensures (rw c.in-Err.is at c.split.ensures)

pub slice_bounds-split-end-2 : goal.slice_bounds-split-end-2
slice_bounds-split-end-2 c =
    sym (length-take-le 65536 c.args.out.now (omega (arith, c.requires)))

pub put_byte-requires : goal.put_byte-requires
put_byte-requires c =
    answer-room c.args.page.now c.args.out.now c.requires (accepted (goal.at.put_byte-requires c).In-Ok)

pub put_refused-requires : goal.put_refused-requires
put_refused-requires c =
    refused-room c.args.page.now c.args.out.now c.requires
    (refused (goal.at.put_refused-requires c).After-refusal_number)

pub returns-in-Ok : goal.returns-in-Ok
returns-in-Ok c =
    answer-line c.args.page.now c.args.out.now c.requires (accepted (goal.at.returns-in-Ok c).In-Ok)
    c.put_byte.ensures

pub returns-in-Err : goal.returns-in-Err
returns-in-Err c =
    refused-line c.args.page.now c.args.out.now c.requires
    (refused (goal.at.returns-in-Err c).After-refusal_number) c.put_refused.ensures
