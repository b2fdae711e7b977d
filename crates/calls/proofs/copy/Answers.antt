-- `calls::copy` meets its contract: what the walk leaves is enough for the copy, and each of the three ends has its
-- law. Assumes nothing.
use mathlib.Core.Path.{sym, ◌∙◌}
use borrow.Author.Tests.{leb-true}
use Rattle.page.proofs.ExitLaws.{exit-is}
use Rattle.page.proofs.NumberLaws.{known_bytes}
use Rattle.copy.proofs.StartsLaws.{accepted-starts}
use Rattle.copy.specs.Copy.{copy_page}
use Rattle.calls.proofs.DoesLaws.{does-refused, does-short, does-write}
use Rattle.calls.proofs.copy.Goals as goal

pub copy_fits-requires : goal.copy_fits-requires
copy_fits-requires c =
    let says = c.in_ok-walked.ensures.says in
    accepted-starts (known_bytes c.args.page.now c.type_inv.page) says.tables says.tree

pub put_copy-written-requires : goal.put_copy-written-requires
put_copy-written-requires c =
    let says = c.in_ok-walked.ensures.says in (
      accepted-starts (known_bytes c.args.page.now c.type_inv.page) says.tables says.tree,
      leb-true _ _ (sym c.copy_fits.ensures ∙ c.if-copy_fits.true),
    )

pub returns-then-copy_fits : goal.returns-then-copy_fits
returns-then-copy_fits c =
    let says = c.in_ok-walked.ensures.says in
    does-write (λ e. copy_page c.args.page.now) says.tree says.kind
    (sym c.copy_fits.ensures ∙ c.if-copy_fits.true) c.put_copy-written.ensures

pub returns : goal.returns
returns c =
    does-short (λ e. copy_page c.args.page.now) c.in_ok-walked.ensures.says.tree
    (sym c.copy_fits.ensures ∙ c.if-copy_fits.false)

pub returns-in_err-walked : goal.returns-in_err-walked
returns-in_err-walked c =
    rw (exit-is _ _ c.from_residual.ensures)
    (does-refused (λ e. copy_page c.args.page.now) c.in_err-walked.ensures.says.refuses)
