-- `pieces::times::put_times` meets its contract: @, then offset. Assumes nothing.
use Rattle.pieces.specs.Times.{spaced_at, spaced_offset}
use Rattle.text.proofs.WriteLaws.{run-two}
use Rattle.page.specs.Answers.{option_of}
use Rattle.records.specs.Answers.{at_modifier_of, offset_of}
use Rattle.text.specs.Display.{optional}
use Rattle.base.proofs.SpliceLaws.{fits, next, end}
use mathlib.Core.Path.{refl}
use Rattle.pieces.proofs.times.put_times.Goals as goal

pub put_at-next-requires : goal.put_at-next-requires
put_at-next-requires c =
    fits (run-two (optional spaced_at (option_of at_modifier_of c.args.times.at))
    (optional spaced_offset (option_of offset_of c.args.times.offset)) c.args.out.now
    c.args.at refl c.requires)

pub put_offset-requires : goal.put_offset-requires
put_offset-requires c =
    fits (next (run-two (optional spaced_at (option_of at_modifier_of c.args.times.at))
    (optional spaced_offset (option_of offset_of c.args.times.offset)) c.args.out.now
    c.args.at refl c.requires) c.put_at-next.ensures)

pub returns : goal.returns
returns c =
    end (next (next (run-two (optional spaced_at (option_of at_modifier_of c.args.times.at))
    (optional spaced_offset (option_of offset_of c.args.times.offset)) c.args.out.now
    c.args.at refl c.requires) c.put_at-next.ensures)
    c.put_offset.ensures)
