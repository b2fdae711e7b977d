-- `pieces::selector_len` meets its contract: name and braces, range, times. Assumes nothing.
use Rattle.pieces.proofs.PieceLaws.{sum-three}
use Rattle.text.specs.Answers.{times_of}
use Rattle.text.specs.Layout.{display_range}
use Rattle.text.specs.Display.{display_selector, display_times}
use Rattle.reader.specs.Answers.{selector_on}
use Rattle.page.specs.Answers.{itself, option_of}
use Rattle.pieces.proofs.selector_len.Goals as goal

pub returns : goal.returns
returns c =
    sum-three (display_selector (selector_on c.args.page.now c.args.selector))
    (display_range (option_of itself c.args.attached.range))
    (display_times (times_of c.args.attached.times)) _ _ _ _ _ c.selector_len.ensures
    c.range_len.ensures.0 c.times_len.ensures.0 c.capped_add.ensures
