-- `label::parts::Parts::symbol_count` meets its contract: name, operator and value. Assumes nothing.
use native.Mathlib.Omega.{arith}
use Rattle.records.specs.Answers.{op_of}
use Rattle.label.proofs.MatcherLaws.{name-short, op-short, matcher-count}
use Rattle.label.proofs.parts.Parts.symbol_count.Goals as goal

pub overflow_add-result : goal.overflow_add-result
overflow_add-result c =
    let p = c.args.self.now in
    omega (
      arith,
      c.name_count.ensures,
      c.operator_count.ensures,
      name-short p.bare p.name.now,
      op-short (op_of p.op),
      p.short,
    )

pub overflow_add-result-2 : goal.overflow_add-result-2
overflow_add-result-2 c =
    let p = c.args.self.now in
    omega (
      arith,
      c.name_count.ensures,
      c.operator_count.ensures,
      name-short p.bare p.name.now,
      op-short (op_of p.op),
      p.short,
    )

pub overflow_add-result-3 : goal.overflow_add-result-3
overflow_add-result-3 c =
    let p = c.args.self.now in
    omega (
      arith,
      c.name_count.ensures,
      c.operator_count.ensures,
      name-short p.bare p.name.now,
      op-short (op_of p.op),
      p.short,
    )

pub returns : goal.returns
returns c =
    matcher-count _ _ _ _ _ _ c.name_count.ensures c.operator_count.ensures
