use lib.ListN.{drop}
use Prim.Native.Nat.{◌+◌, ◌/◌}
use native.Mathlib.Omega.{arith}
use Rattle.page.proofs.ExitLaws.{exit-is, exit-says}
use Rattle.page.proofs.FieldLaws.{past_end, over_first, one_byte, read_small, none-behind, zero-behind, fits}
use Rattle.page.proofs.FieldLaws.{over}
use Rattle.page.proofs.number.+read_up_to.Goals as goal

pub returns-then-page-at : goal.returns-then-page-at
returns-then-page-at t c =
    record { reads = past_end c.args.page.now c.args.at c.args.limit c.if-page-at.true; lies = omega arith }

pub overflow_cast-b : goal.overflow_cast-b
overflow_cast-b t c =
    omega (arith, c.type_inv.page c.args.at)

pub returns-then-limit-b : goal.returns-then-limit-b
returns-then-limit-b t c =
    record {
      reads = over_first c.args.page.now c.args.at c.args.limit (omega arith)
          c.if-limit-b.true;
      lies = omega arith;
    }

pub returns-then-b-lt128 : goal.returns-then-b-lt128
returns-then-b-lt128 t c =
    record {
      reads = one_byte c.args.page.now c.args.at c.args.limit (omega arith)
          c.if-limit-b.false c.if-b-lt128.true;
      lies = omega arith;
    }

pub read_up_to-requires : goal.read_up_to-requires
read_up_to-requires t c =
    (omega arith, tt)

pub returns-then-v-eq0 : goal.returns-then-v-eq0
returns-then-v-eq0 t c =
    let e = c.in_ok-v.ensures.reads in record {
      reads = zero-behind c.args.page.now c.args.at c.args.limit (omega arith)
          c.if-b-lt128.false e c.if-v-eq0.true;
      lies = omega arith;
    }

pub overflow_mul-n : goal.overflow_mul-n
overflow_mul-n t c =
    let e = c.in_ok-v.ensures.reads in
    omega (
      arith,
      read_small (c.args.limit / 128) _ _ (drop (c.args.at + 1) c.args.page.now) e,
    )

pub overflow_add-n : goal.overflow_add-n
overflow_add-n t c =
    let e = c.in_ok-v.ensures.reads in
    omega (
      arith,
      read_small (c.args.limit / 128) _ _ (drop (c.args.at + 1) c.args.page.now) e,
      c.type_inv.page c.args.at,
    )

pub returns-then-limit-n : goal.returns-then-limit-n
returns-then-limit-n t c =
    let e = c.in_ok-v.ensures.reads in record {
      reads = over c.args.page.now c.args.at c.args.limit (omega arith)
          c.if-b-lt128.false e c.if-v-eq0.false c.if-limit-n.true;
      lies = omega arith;
    }

pub returns : goal.returns
returns t c =
    let e = c.in_ok-v.ensures.reads in
    let h = c.in_ok-v.ensures.lies in record {
      reads = fits c.args.page.now c.args.at c.args.limit (omega arith)
          c.if-b-lt128.false e c.if-v-eq0.false c.if-limit-n.false;
      lies = h;
    }

pub returns-in_err-v : goal.returns-in_err-v
returns-in_err-v t c =
    let e = none-behind c.args.page.now c.args.at c.args.limit (omega arith) c.if-b-lt128.false c.in_err-v.ensures.reads in
    record { reads = rw (exit-is _ _ c.from_residual.ensures) e; lies = exit-says _ _ _ c.from_residual.ensures }
