-- `pieces::times::subquery_len` meets its contract: two durations in brackets, then the times. Assumes nothing.
use Rattle.pieces.proofs.PieceLaws.{suffix_len}
use Rattle.text.specs.Answers.{times_of}
use Rattle.text.specs.Display.{optional, display_times}
use Rattle.leaves.specs.Duration.{display_duration}
use Rattle.page.specs.Answers.{itself, option_of}
use native.Mathlib.Omega.{arith}
use Rattle.pieces.proofs.times.subquery_len.Goals as goal

pub returns : goal.returns
returns c =
    omega (
      arith,
      c.duration_len.ensures.0,
      c.step_len.ensures.0,
      c.times_len.ensures.0,
      suffix_len (display_duration c.args.range)
          (optional display_duration (option_of itself c.args.step))
          (display_times (times_of c.args.times)),
    )
