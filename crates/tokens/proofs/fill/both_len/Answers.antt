-- `tokens::fill::both_len` meets its contract: one fill, or each. Assumes nothing.
use native.Mathlib.Omega.{arith}
use mathlib.Core.Path.{ap}
use lib.ListN.{length}
use Rattle.base.proofs.SpliceLaws.{cut-length}
use Rattle.records.specs.Answers.{literal_of}
use Rattle.leaves.proofs.LengthLaws.{display_fill-short}
use Rattle.tokens.proofs.FillLaws.{length-filled_bytes, fill_word, left_word, right_word, both_one, both-each}
use Rattle.tokens.proofs.fill.both_len.Goals as goal

pub returns-then-same : goal.returns-then-same
returns-then-same c =
    omega (
      arith,
      c.filled_len.ensures,
      ap length
          (both_one _ (literal_of c.args.left) (literal_of c.args.right) c.if-same.true),
      length-filled_bytes fill_word (literal_of c.args.right),
    )

pub overflow_add-result : goal.overflow_add-result
overflow_add-result c =
    record {
      fits = omega (
        arith,
        c.filled_len-2.ensures,
        c.filled_len-3.ensures,
        display_fill-short (literal_of c.args.left) c.requires.0,
        display_fill-short (literal_of c.args.right) c.requires.1,
      );
    }

pub returns : goal.returns
returns c =
    omega (
      arith,
      c.filled_len-2.ensures,
      c.filled_len-3.ensures,
      cut-length (both-each _ (literal_of c.args.left) (literal_of c.args.right)
          c.if-same.false),
      length-filled_bytes left_word (literal_of c.args.left),
      length-filled_bytes right_word (literal_of c.args.right),
    )
