-- Whether a text has room: by the bound of `text.proofs.RoomLaws`, or by its length, measured up to one byte more than
-- the room. Assumes nothing.
use Prim.Native.Nat.{ℕ, ◌+◌, ◌*◌, ◌≤◌, min}
use mathlib.Core.Path.{◌≡◌, sym, ◌∙◌}
use mathlib.Core.Bool.{true}
use mathlib.Core.List.{List}
use native.Mathlib.Omega.{arith}
use mir.Syntax.{w8}
use mir.Val.{Fits}
use borrow.Author.Tests.{le-leb, lt-leb}
use lib.ListN.{length, get_or}
use lib.Dec.{leb}
use Rattle.base.proofs.Cases.{by-lt}
use Rattle.page.proofs.NumberLaws.{known_bytes}
use Rattle.ast.specs.Tables.{tree_at}
use Rattle.text.specs.Display.{display}
use Rattle.text.proofs.RoomLaws.{display-room}

-- where the bound fits
pub fits_bound : (page : List ℕ) (i room : ℕ) → ((k : ℕ) → Fits w8 (get_or page k 0)) → 4 * length page + 128 * (i + 1) ≤ room
    → true ≡ leb (length (display (tree_at page i))) room
fits_bound page i room bytes h = sym (le-leb (length (display (tree_at page i))) room (omega (arith, display-room page i (known_bytes page bytes))))

-- where it is measured
pub fits-measured : (text room size : ℕ) → size ≡ min text (room + 1) → leb size room ≡ leb text room
fits-measured text room size e =
    by-lt room text (λ l. lt-leb size room (omega arith) ∙ sym (lt-leb text room l))
    (λ l. le-leb size room (omega arith) ∙ sym (le-leb text room l))
