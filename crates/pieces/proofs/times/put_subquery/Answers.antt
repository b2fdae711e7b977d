-- `pieces::times::put_subquery` meets its contract: two durations in brackets, then the times. Assumes nothing.
use Rattle.pieces.proofs.PieceLaws.{run-suffix}
use Rattle.text.specs.Answers.{times_of}
use Rattle.text.specs.Display.{optional, display_times}
use Rattle.leaves.specs.Duration.{display_duration}
use Rattle.page.specs.Answers.{itself, option_of}
use Rattle.base.proofs.SpliceLaws.{fits, next, end}
use Rattle.pieces.proofs.times.put_subquery.Goals as goal

pub put_duration-colon-requires : goal.put_duration-colon-requires
put_duration-colon-requires c =
    fits (next (run-suffix (display_duration c.args.range)
    (optional display_duration (option_of itself c.args.step))
    (display_times (times_of c.args.times)) c.args.out.now c.args.at
    c.requires) c.put_byte-number.ensures)

pub put_byte-second-requires : goal.put_byte-second-requires
put_byte-second-requires c =
    fits (next (next (run-suffix (display_duration c.args.range)
    (optional display_duration (option_of itself c.args.step))
    (display_times (times_of c.args.times)) c.args.out.now c.args.at
    c.requires) c.put_byte-number.ensures) c.put_duration-colon.ensures)

pub put_step-closing-requires : goal.put_step-closing-requires
put_step-closing-requires c =
    fits (next (next (next (run-suffix (display_duration c.args.range)
    (optional display_duration (option_of itself c.args.step))
    (display_times (times_of c.args.times)) c.args.out.now c.args.at
    c.requires) c.put_byte-number.ensures) c.put_duration-colon.ensures)
    c.put_byte-second.ensures)

pub put_byte-behind-requires : goal.put_byte-behind-requires
put_byte-behind-requires c =
    fits (next (next (next (next (run-suffix (display_duration c.args.range)
    (optional display_duration (option_of itself c.args.step))
    (display_times (times_of c.args.times)) c.args.out.now c.args.at
    c.requires) c.put_byte-number.ensures) c.put_duration-colon.ensures)
    c.put_byte-second.ensures) c.put_step-closing.ensures)

pub put_times-requires : goal.put_times-requires
put_times-requires c =
    fits (next (next (next (next (next (run-suffix (display_duration c.args.range)
    (optional display_duration (option_of itself c.args.step))
    (display_times (times_of c.args.times)) c.args.out.now c.args.at
    c.requires) c.put_byte-number.ensures) c.put_duration-colon.ensures)
    c.put_byte-second.ensures) c.put_step-closing.ensures)
    c.put_byte-behind.ensures)

pub returns : goal.returns
returns c =
    end (next (next (next (next (next (next (run-suffix (display_duration c.args.range)
    (optional display_duration (option_of itself c.args.step))
    (display_times (times_of c.args.times)) c.args.out.now c.args.at
    c.requires) c.put_byte-number.ensures) c.put_duration-colon.ensures)
    c.put_byte-second.ensures) c.put_step-closing.ensures)
    c.put_byte-behind.ensures) c.put_times.ensures)
