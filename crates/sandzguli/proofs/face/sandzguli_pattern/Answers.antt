-- `sandzguli::face::sandzguli_pattern` meets its contract: 2 above the limit of a text, else what the pattern says.
-- Assumes nothing.
use lib.ListN.{length}
use borrow.Author.Tests.{le-leb, lt-leb}
use Rattle.page.specs.Limits.{text_limit}
use Rattle.sandzguli.proofs.face.sandzguli_pattern.Goals as goal

pub returns-then-pattern-gt-TEXT_LIMIT : goal.returns-then-pattern-gt-TEXT_LIMIT
returns-then-pattern-gt-TEXT_LIMIT c =
    simp (lt-leb (length c.args.pattern.now) text_limit c.if-pattern-gt-TEXT_LIMIT.true)

pub returns : goal.returns
returns c =
    simp (
      le-leb (length c.args.pattern.now) text_limit c.if-pattern-gt-TEXT_LIMIT.false,
      c.empty_text_word.ensures,
      c.matches_empty_text.ensures,
    )
