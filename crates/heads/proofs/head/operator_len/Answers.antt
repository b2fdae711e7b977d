-- `heads::head::operator_len` meets its contract: the word, and the modifier where there is one. Assumes nothing.
use native.Mathlib.Omega.{arith}
use mathlib.Core.Path.{ap}
use lib.ListN.{length}
use Rattle.base.proofs.SpliceLaws.{cut-length}
use Rattle.heads.proofs.HeadLaws.{operator-plain, operator-modified, operator-exact}
use Rattle.heads.proofs.head.operator_len.Goals as goal

pub fill_values-values-requires : goal.fill_values-values-requires
fill_values-values-requires c =
    let exact = operator-exact _ _ _ c.in-Some.is c.requires.exact in (exact.lhs, exact.rhs)

pub modifier_len-requires : goal.modifier_len-requires
modifier_len-requires c =
    let exact = operator-exact _ _ _ c.in-Some.is c.requires.exact in
    record {
      stored = rw c.in-Some.is at c.requires.stored;
      exact = (c.fill_values-values.ensures, exact.lhs, exact.rhs);
    }

pub returns-in-None : goal.returns-in-None
returns-in-None c =
    omega (
      arith,
      c.capped_add.ensures,
      c.token_len-token.ensures,
      ap length
          (operator-plain c.args.page.now c.args.code c.args.modifier
          c.in-None.is),
    )

pub returns-in-Some : goal.returns-in-Some
returns-in-Some c =
    omega (
      arith,
      c.capped_add-in-Some.ensures,
      c.modifier_len.ensures,
      c.token_len-token.ensures,
      cut-length (operator-modified c.args.page.now c.args.code c.args.modifier
          _ c.in-Some.is),
    )
