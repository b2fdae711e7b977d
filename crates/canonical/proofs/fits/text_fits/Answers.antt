-- `canonical::fits::text_fits` meets its contract: by the bound where that fits, else by the measured length. Where the
-- bound does not fit, the room is below 65,536, so a byte more is no overflow. Assumes nothing.
use native.Mathlib.Omega.{arith}
use Rattle.text.proofs.EntryLaws.{page-short}
use Rattle.view.proofs.ViewLaws.{unmarked}
use Rattle.canonical.proofs.FitsLaws.{fits_bound, fits-measured}
use Rattle.canonical.proofs.fits.text_fits.Goals as goal

pub overflow_mul-page : goal.overflow_mul-page
overflow_mul-page c =
    omega (arith, page-short c.requires)

pub overflow_add-page : goal.overflow_add-page
overflow_add-page c =
    let t = c.requires in omega (arith, page-short t, t.few)

pub returns-then-page-i : goal.returns-then-page-i
returns-then-page-i c =
    fits_bound _ _ _ c.type_inv.page c.if-page-i.true

pub overflow_add-room : goal.overflow_add-room
overflow_add-room c =
    let t = c.requires in omega (arith, c.if-page-i.false, page-short t, t.few)

pub text_len-size-requires : goal.text_len-size-requires
text_len-size-requires c =
    record { tables = c.requires; numberless = unmarked _ _ }

pub returns : goal.returns
returns c =
    fits-measured _ _ _ c.text_len-size.ensures
