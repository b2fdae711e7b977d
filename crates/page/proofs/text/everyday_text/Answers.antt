-- `page::text::everyday_text` meets its contract: a text of so many bytes that are ASCII is one that may be read. Assumes
-- nothing.
use Rattle.page.proofs.EverydayLaws.{ascii-ends}
use native.Mathlib.Omega.{arith}
use Rattle.page.proofs.text.everyday_text.Goals as goal

pub returns-then-is_ascii : goal.returns-then-is_ascii
returns-then-is_ascii c = (
  record { ordered = omega arith; inside = omega (arith, c.in_ok-start.ensures.1) },
  ascii-ends c.args.page.now c.args.at c.in_ok-start.start _ c.in_ok-start.ensures.2
      (omega (arith, c.type_inv.page c.args.at)) c.if-page-start.false _ c.is_ascii.ensures c.if-is_ascii.true,
)
