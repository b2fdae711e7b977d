-- `tokens::fill::put_fills` meets its contract: the marks of the values say which fills are there. Assumes nothing.
use Rattle.base.proofs.SpliceLaws.{begin, finish}
use Rattle.page.specs.Answers.{option_of}
use Rattle.records.specs.Answers.{literal_of}
use Rattle.tokens.proofs.FillLaws.{fills-none, fills-right, fills-left, fills-both}
use Rattle.tokens.proofs.fill.put_fills.Goals as goal

pub put_both-requires : goal.put_both-requires
put_both-requires c =
    let is = fills-both (option_of literal_of c.args.lhs) (option_of literal_of c.args.rhs) _ c.requires.exact.0 _
    c.if-values.true c.if-values-2.true
    c.requires.exact.1 c.requires.exact.2 c.same_fills.ensures in
    rw (c.digits_of.ensures, c.digits_of-then-values-2.ensures, ← is) c.requires.room

pub returns-then-values-2 : goal.returns-then-values-2
returns-then-values-2 c =
    rw (
      fills-both (option_of literal_of c.args.lhs) (option_of literal_of c.args.rhs) _ c.requires.exact.0 _
          c.if-values.true c.if-values-2.true
          c.requires.exact.1 c.requires.exact.2 c.same_fills.ensures,
      ← c.digits_of.ensures,
      ← c.digits_of-then-values-2.ensures,
    )
    c.put_both.ensures

pub put_filled-requires : goal.put_filled-requires
put_filled-requires c =
    let is = fills-left (option_of literal_of c.args.lhs) (option_of literal_of c.args.rhs) _ c.requires.exact.0
    c.if-values.true c.if-values-2.false in
    rw (c.digits_of-then-values.ensures, ← is) c.requires.room

pub returns-then-values : goal.returns-then-values
returns-then-values c =
    rw (
      fills-left (option_of literal_of c.args.lhs) (option_of literal_of c.args.rhs) _ c.requires.exact.0
          c.if-values.true c.if-values-2.false,
      ← c.digits_of-then-values.ensures,
    )
    c.put_filled.ensures

pub put_filled-requires-then-values-3 : goal.put_filled-requires-then-values-3
put_filled-requires-then-values-3 c =
    let is = fills-right (option_of literal_of c.args.lhs) (option_of literal_of c.args.rhs) _ c.requires.exact.0
    c.if-values.false c.if-values-3.true in
    rw (c.digits_of-then-values-3.ensures, ← is) c.requires.room

pub returns-then-values-3 : goal.returns-then-values-3
returns-then-values-3 c =
    rw (
      fills-right (option_of literal_of c.args.lhs) (option_of literal_of c.args.rhs) _ c.requires.exact.0
          c.if-values.false c.if-values-3.true,
      ← c.digits_of-then-values-3.ensures,
    )
    c.put_filled-then-values-3.ensures

pub returns : goal.returns
returns c =
    finish (begin _ _ _ c.requires.room)
    (fills-none (option_of literal_of c.args.lhs) (option_of literal_of c.args.rhs) _ c.requires.exact.0
    c.if-values.false c.if-values-3.false)
