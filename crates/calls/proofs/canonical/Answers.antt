-- `calls::canonical` meets its contract: what the walk leaves is enough for the text, and each of the three ends has
-- its law. Assumes nothing.
use mathlib.Core.Path.{sym, ◌∙◌}
use native.Mathlib.Nat.{zero-add}
use borrow.Author.Tests.{leb-true}
use Rattle.page.proofs.ExitLaws.{exit-is}
use Rattle.text.specs.Display.{display}
use Rattle.view.proofs.ViewLaws.{unmarked}
use Rattle.calls.proofs.RoomLaws.{accepts-some, accepts_last}
use Rattle.calls.proofs.DoesLaws.{does-refused, does-short, does-write}
use Rattle.calls.proofs.canonical.Goals as goal

pub overflow_sub-last : goal.overflow_sub-last
overflow_sub-last c = accepts-some c.in_ok-walked.ensures.says

pub text_fits-requires : goal.text_fits-requires
text_fits-requires c = accepts_last c.in_ok-walked.ensures.says

pub write_text-written-requires : goal.write_text-written-requires
write_text-written-requires c =
    record {
      tables = accepts_last c.in_ok-walked.ensures.says;
      numberless = unmarked _ _;
      room = rw zero-add (leb-true _ _ (sym c.text_fits.ensures ∙ c.if-text_fits.true));
    }

pub returns-then-text_fits : goal.returns-then-text_fits
returns-then-text_fits c =
    let says = c.in_ok-walked.ensures.says in
    does-write display says.tree says.kind (sym c.text_fits.ensures ∙ c.if-text_fits.true)
    c.write_text-written.ensures

pub returns : goal.returns
returns c =
    does-short display c.in_ok-walked.ensures.says.tree (sym c.text_fits.ensures ∙ c.if-text_fits.false)

pub returns-in_err-walked : goal.returns-in_err-walked
returns-in_err-walked c =
    rw (exit-is _ _ c.from_residual.ensures) (does-refused display c.in_err-walked.ensures.says.refuses)
