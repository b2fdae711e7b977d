-- `tokens::fill::fills_len` meets its contract: the marks of the values say which fills are there. Assumes nothing.
use native.Mathlib.Omega.{arith}
use mathlib.Core.Path.{ap, sym, subst}
use lib.ListN.{length}
use Rattle.records.specs.Float.{IsExact}
use Rattle.page.specs.Answers.{option_of}
use Rattle.records.specs.Answers.{literal_of}
use Rattle.tokens.proofs.FillLaws.{length-filled_bytes, digits-exact, fills-none, fills-right, fills-left}
use Rattle.tokens.proofs.FillLaws.{fills-both}
use Rattle.tokens.proofs.fill.fills_len.Goals as goal

pub both_len-requires : goal.both_len-requires
both_len-requires c = (
  subst IsExact (sym c.digits_of.ensures)
      (digits-exact (option_of literal_of c.args.lhs) c.requires.1),
  subst IsExact (sym c.digits_of-then-values-2.ensures) (digits-exact (option_of literal_of c.args.rhs) c.requires.2),
)

pub returns-then-values-2 : goal.returns-then-values-2
returns-then-values-2 c =
    rw (
      fills-both (option_of literal_of c.args.lhs) (option_of literal_of c.args.rhs) _ c.requires.0 _
          c.if-values.true c.if-values-2.true
          c.requires.1 c.requires.2 c.same_fills.ensures,
      ← c.digits_of.ensures,
      ← c.digits_of-then-values-2.ensures,
    ) c.both_len.ensures

pub filled_len-requires : goal.filled_len-requires
filled_len-requires c =
    record {
      token = omega arith;
      exact = subst IsExact (sym c.digits_of-then-values.ensures)
          (digits-exact (option_of literal_of c.args.lhs) c.requires.1);
    }

pub returns-then-values : goal.returns-then-values
returns-then-values c =
    rw (
      fills-left (option_of literal_of c.args.lhs) (option_of literal_of c.args.rhs) _ c.requires.0
          c.if-values.true c.if-values-2.false,
      length-filled_bytes,
      ← c.digits_of-then-values.ensures,
    ) (omega (arith, c.filled_len.ensures))

pub filled_len-requires-then-values-3 : goal.filled_len-requires-then-values-3
filled_len-requires-then-values-3 c =
    record {
      token = omega arith;
      exact = subst IsExact (sym c.digits_of-then-values-3.ensures)
          (digits-exact (option_of literal_of c.args.rhs) c.requires.2);
    }

pub returns-then-values-3 : goal.returns-then-values-3
returns-then-values-3 c =
    rw (
      fills-right (option_of literal_of c.args.lhs) (option_of literal_of c.args.rhs) _ c.requires.0
          c.if-values.false c.if-values-3.true,
      length-filled_bytes,
      ← c.digits_of-then-values-3.ensures,
    ) (omega (arith, c.filled_len-then-values-3.ensures))

pub returns : goal.returns
returns c =
    omega (
      arith,
      ap length
          (fills-none (option_of literal_of c.args.lhs) (option_of literal_of c.args.rhs) _ c.requires.0
          c.if-values.false c.if-values-3.false),
    )
