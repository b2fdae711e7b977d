-- `pieces::times::times_len` meets its contract: @, then offset. Assumes nothing.
use Rattle.pieces.specs.Times.{spaced_at, spaced_offset}
use Rattle.page.specs.Answers.{option_of}
use Rattle.records.specs.Answers.{at_modifier_of, offset_of}
use Rattle.text.specs.Display.{optional}
use lib.ListN.{length-append}
use native.Mathlib.Omega.{arith}
use Rattle.pieces.proofs.times.times_len.Goals as goal

pub returns : goal.returns
returns c =
    omega (
      arith,
      c.at_len.ensures,
      c.offset_len.ensures,
      length-append (optional spaced_at (option_of at_modifier_of c.args.times.at))
          (optional spaced_offset (option_of offset_of c.args.times.offset)),
    )
