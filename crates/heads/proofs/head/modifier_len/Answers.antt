-- `heads::head::modifier_len` meets its contract: bool, fills, matching and cardinality, added up to the cap. Assumes
-- nothing.
use native.Mathlib.Omega.{arith}
use Rattle.page.specs.Answers.{option_of}
use Rattle.records.specs.Answers.{literal_of}
use Rattle.text.proofs.ShortLaws.{display_fills-short}
use Rattle.heads.proofs.head.modifier_len.Goals as goal

pub overflow_add-ends : goal.overflow_add-ends
overflow_add-ends c =
    let modifier = c.args.modifier in
    record {
      fits = omega (
        arith,
        c.bool_len.ensures,
        c.fills_len.ensures,
        display_fills-short (option_of literal_of modifier.lhs) (option_of literal_of modifier.rhs) c.requires.exact.1
            c.requires.exact.2,
      );
    }
