-- `page::text::stored_text` meets its contract: the length is a number, or the text could not be read. Assumes nothing.
use native.Mathlib.Omega.{arith}
use lib.ListN.{drop}
use Rattle.page.specs.Limits.{text_limit}
use Rattle.page.specs.Number.{read_number}
use Rattle.page.specs.Text.{is_text}
use Rattle.page.proofs.StoredLaws.{no-refusal, first-readable, span-stored}
use Rattle.page.proofs.text.stored_text.Goals as goal

pub overflow_add-result : goal.overflow_add-result
overflow_add-result c =
    let e = rw c.in-Ok.is at c.read_number.ensures.reads in
    let h = rw c.in-Ok.is at c.read_number.ensures.lies in
    omega (
      arith,
      (span-stored text_limit is_text c.args.page.now c.args.at c.in-Ok.n
          c.in-Ok.start c.requires e h).0,
    )

pub returns-in-Ok : goal.returns-in-Ok
returns-in-Ok c =
    let e = rw c.in-Ok.is at c.read_number.ensures.reads in
    let h = rw c.in-Ok.is at c.read_number.ensures.lies in
    let is = span-stored text_limit is_text c.args.page.now c.args.at c.in-Ok.n
    c.in-Ok.start c.requires e h in record { reads = is.1; lies = record { ordered = omega arith; inside = is.0 } }

pub returns-in-Err : goal.returns-in-Err
returns-in-Err c =
    let e = rw c.in-Err.is at c.read_number.ensures.reads in
    no-refusal read_number _
    (first-readable read_number _ (drop c.args.at c.args.page.now) c.requires) e
