-- `tokens::fill::filled_len` meets its contract: the text of a page's number is short. Assumes nothing.
use native.Mathlib.Omega.{arith}
use Rattle.records.specs.Answers.{literal_of}
use Rattle.leaves.proofs.LengthLaws.{display_fill-short}
use Rattle.tokens.proofs.fill.filled_len.Goals as goal

pub overflow_add-result-2 : goal.overflow_add-result-2
overflow_add-result-2 c =
    record {
      fits = omega (
        arith,
        c.numeral_len.ensures.fill,
        display_fill-short (literal_of c.args.literal) c.requires.exact,
      );
    }
