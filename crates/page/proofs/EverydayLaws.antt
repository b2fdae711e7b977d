-- A text whose length has one byte, or two with 1 for the second, has that first byte for its size: the reader of
-- everyday texts goes by it, and answers what the reader of any text does. Assumes nothing.
use Rattle.std.specs.Prelude.{Some}
use Prim.Native.Nat.{ℕ, ◌+◌, ◌-◌, ◌*◌, ◌/◌, ◌≤◌, ◌<◌}
use mathlib.Core.Path.{◌≡◌, sym, ap, ap₂, ◌∙◌}
use mathlib.Core.Bool.{Bool, true}
use mathlib.Core.List.{List}
use native.Mathlib.Nat.{add-sub_cancel_left}
use native.Mathlib.Omega.{arith}
use lib.ListN.{length, take, drop, get_or, length-drop}
use lib.Seq.{drop-drop}
use borrow.Author.Tests.{le-leb}
use Rattle.page.specs.Read.{Read, got}
use Rattle.page.specs.Limits.{number_limit}
use Rattle.page.specs.Number.{read_number}
use Rattle.page.specs.Text.{is_ascii, is_text, read_any_text}
use Rattle.page.specs.Answers.{read_up_to, SizeEnds}
use Rattle.page.proofs.FieldLaws.{one_byte, fits}
use Rattle.page.proofs.Utf8Laws.{ascii-utf8}

module _ (page : List ℕ) (at : ℕ) where
  pub size-one : at < length page → get_or page at 0 < 128 → SizeEnds page at (Some (at + 1))
  size-one h g = (h, omega arith, one_byte page at number_limit h (omega arith) g)

  -- 1 after a byte with its high bit set: 128 more than the byte's other bits
  pub size-two : at + 1 < length page → 128 ≤ get_or page at 0 → get_or page at 0 < 256 → get_or page (at + 1) 0 ≡ 1
      → SizeEnds page at (Some (at + 2))
  size-two h g l e = (
    omega arith,
    omega arith,
    ap (λ (n : ℕ). got n (drop (at + 2) page)) same
        ∙ fits page at number_limit (omega arith) g one (λ z. omega arith) (omega arith),
  )
    where
      same : get_or page at 0 ≡ get_or page at 0 - 128 + 128 * 1
      same = omega arith

      first : got (get_or page (at + 1) 0) (drop (at + 1 + 1) page) ≡ read_up_to (number_limit / 128) (drop (at + 1) page)
      first = one_byte page (at + 1) (number_limit / 128) h (omega (arith, e)) (omega (arith, e))

      after : at + 2 ≡ at + 1 + 1
      after = omega arith

      one : got 1 (drop (at + 2) page) ≡ read_up_to (number_limit / 128) (drop (at + 1) page)
      one = ap₂ {C = Read ℕ} (λ n k. got n (drop k page)) (sym e) after ∙ first

  module _ (start size : ℕ) (reads : got size (drop start page) ≡ read_number (drop at page)) (byte : size < 256)
      (whole : size ≤ length page - start) where
    -- r is the test of the text's bytes
    pub ascii-ends : (r : Bool) → r ≡ is_ascii (take (start + size - start) (drop start page)) → r ≡ true
        → got (take (start + size - start) (drop start page)) (drop (start + size) page) ≡ read_any_text (drop at page)
    ascii-ends r tested yes' =
        simp (
          ← reads,
          length-drop,
          add-sub_cancel_left,
          le-leb size (length page - start) whole,
          le-leb size 255 (omega arith),
          passes,
          drop-drop,
        )
      where
        passes : is_text (take size (drop start page)) ≡ true
        passes = sym (ascii-utf8 (take size (drop start page)) r (rw add-sub_cancel_left at tested) yes')
