-- Laws of `escape`, a byte at a time. Assumes nothing.
use Prim.Native.Nat.{ℕ, ◌+◌, ◌≤◌, ◌<◌}
use native.Mathlib.Numerals.{add-one}
use native.Mathlib.Omega.{arith}
use mathlib.Core.List.{List, [], ◌∷◌}
use mathlib.Core.Path.{◌≡◌, sym}
use Rattle.std.specs.Prelude.{Some}
use lib.ListN.{length, get_or, drop, drop_of_length-le, length-append}
use lib.Seq.{drop-cons}
use Rattle.base.proofs.SpliceLaws.{Cut, cut-length}
use Rattle.leaves.specs.Escape.{escape_byte, escape_with, escape, quote}

-- ## escape_byte, as `escape_letter` answers

pub escape_byte-letter : (b letter : ℕ) → escape_with b (Some letter) ≡ escape_byte b → Cut (escape_byte b) (92 ∷ []) (letter ∷ [])
escape_byte-letter b letter is = record { is = sym is }

-- ## escape

pub escape-next : (l : List ℕ) (i : ℕ) → i < length l → Cut (escape (drop i l)) (escape_byte (get_or l i 0)) (escape (drop (i + 1) l))
unfolding escape
escape-next l i h = record { is = rw (add-one, drop-cons l i 0 h) }

pub escape_end : (l : List ℕ) (i : ℕ) → length l ≤ i → escape (drop i l) ≡ []
unfolding escape
escape_end l i h = rw (drop_of_length-le l h)

-- how much a byte adds to the length
pub escape-adds : (l : List ℕ) (i : ℕ) → i < length l
    → length (escape (drop i l)) ≡ length (escape_byte (get_or l i 0)) + length (escape (drop (i + 1) l))
escape-adds l i h = cut-length (escape-next l i h)

-- ## quote

pub length-quote : (l : List ℕ) → length (quote l) ≡ 2 + length (escape l)
unfolding quote
length-quote l = omega (arith, length-append (escape l) (34 ∷ []))
