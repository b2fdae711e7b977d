-- `heads::selector::put_braces` meets its contract: nothing, or the matchers between braces. Assumes nothing.
use lib.ListN.{drop}
use Rattle.base.proofs.SpliceLaws.{begin, finish, start, fits, next, end}
use Rattle.heads.proofs.HeadLaws.{braces-none, braces-some}
use Rattle.heads.proofs.selector.put_braces.Goals as goal

pub returns-then-count-eq0 : goal.returns-then-count-eq0
returns-then-count-eq0 c =
    finish (begin _ _ _ c.requires.room)
    (braces-none c.args.count (drop c.args.start c.args.page.now)
    c.if-count-eq0.true)

pub put_byte-first-requires : goal.put_byte-first-requires
put_byte-first-requires c =
    fits (start {o = c.args.out.now} c.requires.room
    (braces-some c.args.count (drop c.args.start c.args.page.now)
    c.requires.stored c.if-count-eq0.false))

pub put_matchers-closing-requires : goal.put_matchers-closing-requires
put_matchers-closing-requires c =
    record {
      stored = c.requires.stored;
      limits = c.requires.limits;
      room = fits (next (start c.requires.room
          (braces-some c.args.count (drop c.args.start c.args.page.now)
          c.requires.stored c.if-count-eq0.false)) c.put_byte-first.ensures);
    }

pub put_byte-requires : goal.put_byte-requires
put_byte-requires c =
    fits (next (next (start c.requires.room
    (braces-some c.args.count (drop c.args.start c.args.page.now)
    c.requires.stored c.if-count-eq0.false)) c.put_byte-first.ensures)
    c.put_matchers-closing.ensures)

pub returns : goal.returns
returns c =
    end (next (next (next (start c.requires.room
    (braces-some c.args.count (drop c.args.start c.args.page.now)
    c.requires.stored c.if-count-eq0.false)) c.put_byte-first.ensures)
    c.put_matchers-closing.ensures) c.put_byte.ensures)
