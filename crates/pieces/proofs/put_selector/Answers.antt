-- `pieces::put_selector` meets its contract: name and braces, range, times. Assumes nothing.
use Rattle.text.proofs.WriteLaws.{run-three}
use Rattle.text.specs.Answers.{times_of}
use Rattle.text.specs.Layout.{display_range}
use Rattle.text.specs.Display.{display_selector, display_times}
use Rattle.reader.specs.Answers.{selector_on}
use Rattle.page.specs.Answers.{itself, option_of}
use Rattle.base.proofs.SpliceLaws.{fits, next, end}
use mathlib.Core.Path.{refl}
use Rattle.pieces.proofs.put_selector.Goals as goal

pub put_selector-bracket-requires : goal.put_selector-bracket-requires
put_selector-bracket-requires c =
    record {
      lies = c.requires.lies.name;
      stored = c.requires.lies.stored;
      limits = (c.requires.lies.few, c.requires.lies.short);
      room = fits (run-three (display_selector (selector_on c.args.page.now c.args.selector))
          (display_range (option_of itself c.args.attached.range))
          (display_times (times_of c.args.attached.times)) c.args.out.now c.args.at
          refl c.requires.room);
    }

pub put_range-next-requires : goal.put_range-next-requires
put_range-next-requires c =
    fits (next (run-three (display_selector (selector_on c.args.page.now c.args.selector))
    (display_range (option_of itself c.args.attached.range))
    (display_times (times_of c.args.attached.times)) c.args.out.now c.args.at
    refl c.requires.room) c.put_selector-bracket.ensures)

pub put_times-requires : goal.put_times-requires
put_times-requires c =
    fits (next (next (run-three
    (display_selector (selector_on c.args.page.now c.args.selector))
    (display_range (option_of itself c.args.attached.range))
    (display_times (times_of c.args.attached.times)) c.args.out.now c.args.at
    refl c.requires.room) c.put_selector-bracket.ensures) c.put_range-next.ensures)

pub returns : goal.returns
returns c =
    end (next (next (next (run-three
    (display_selector (selector_on c.args.page.now c.args.selector))
    (display_range (option_of itself c.args.attached.range))
    (display_times (times_of c.args.attached.times)) c.args.out.now c.args.at
    refl c.requires.room) c.put_selector-bracket.ensures) c.put_range-next.ensures)
    c.put_times.ensures)
