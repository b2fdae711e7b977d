-- `page::text::read_by_class` meets its contract: a test for each fault, in their order. Assumes nothing.
use mathlib.Core.Path.{refl}
use native.Mathlib.Omega.{arith}
use native.Mathlib.Nat.{add-sub_cancel_left}
use lib.Seq.{drop-drop}
use lib.ListN.{length-drop}
use borrow.Author.Tests.{le-leb, lt-leb}
use Rattle.page.proofs.ExitLaws.{exit-is, exit-says}
use Rattle.page.proofs.text.read_by_class.Goals as goal

pub overflow_sub-page : goal.overflow_sub-page
overflow_sub-page c =
    c.in_ok-n.ensures.lies

pub returns-then-page-start : goal.returns-then-page-start
returns-then-page-start c =
    let e = c.in_ok-n.ensures.reads in
    record { reads = simp (← e, length-drop, lt-leb _ _ c.if-page-start.true); lies = tt }

pub returns-then-text_limit-size : goal.returns-then-text_limit-size
returns-then-text_limit-size c =
    let e = c.in_ok-n.ensures.reads in
    let long = rw c.text_limit.ensures at c.if-text_limit-size.true in
    record { reads = simp (← e, length-drop, le-leb _ _ c.if-page-start.false, lt-leb _ _ long); lies = tt }

pub slice_bounds-text_allowed-end : goal.slice_bounds-text_allowed-end
slice_bounds-text_allowed-end c =
    let h = c.in_ok-n.ensures.lies in omega arith

pub returns-then-text_allowed : goal.returns-then-text_allowed
returns-then-text_allowed c =
    let e = c.in_ok-n.ensures.reads in
    let h = c.in_ok-n.ensures.lies in
    let short = rw c.text_limit.ensures at c.if-text_limit-size.false in
    let allowed = rw add-sub_cancel_left at c.text_allowed.ensures in record {
      reads = simp (
        ← e,
        length-drop,
        add-sub_cancel_left,
        le-leb _ _ c.if-page-start.false,
        le-leb _ _ short,
        ← allowed,
        c.if-text_allowed.true,
        drop-drop,
      );
      lies = (record { ordered = omega arith; inside = omega arith }, refl);
    }

pub returns-else-text_allowed : goal.returns-else-text_allowed
returns-else-text_allowed c =
    let e = c.in_ok-n.ensures.reads in
    let short = rw c.text_limit.ensures at c.if-text_limit-size.false in
    let allowed = rw add-sub_cancel_left at c.text_allowed.ensures in
    record {
      reads = simp
          (← e, length-drop, le-leb _ _ c.if-page-start.false, le-leb _ _ short, ← allowed, c.if-text_allowed.false);
      lies = tt;
    }

pub returns-in_err-n : goal.returns-in_err-n
returns-in_err-n c =
    record {
      reads = rw (exit-is _ _ c.from_residual.ensures) (simp (← c.in_err-n.ensures.reads));
      lies = exit-says _ _ _ c.from_residual.ensures;
    }
