-- A word of bytes passes the test of its highest bits exactly when its bytes are below 128: by induction over the
-- bytes, since `&` goes block by block. Then a text taken eight bytes at a time. Assumes nothing.
use Prim.Native.Nat.{ℕ, zero, suc, ◌+◌, ◌*◌, ◌-◌, ◌^◌, ◌<◌, ◌≤◌}
use mathlib.Core.Path.{◌≡◌, refl, sym, ap, ◌∙◌}
use mathlib.Core.Bool.{Bool, true, false, not, ◌&&◌}
use mathlib.Core.List.{List, [], ◌∷◌, ◌++◌}
use native.Mathlib.Omega.{arith}
use native.Mathlib.Nat.{lt_of_not-le}
use native.Mathlib.Decide.{dec_le}
use lib.ListN.{length, take, drop, get_or, take-append-drop}
use lib.Seq.{drop-cons, drop-drop, take_all}
use Rattle.std.specs.Int.{from_le_bytes, w64}
use lib.Dec.{eqb, ltb, lit<}
use lib.Bits.{bit_and, and_block, and_comm, and_shifted}
use borrow.Author.Tests.{not-true, not-false, ne_eqb, eq-eqb, lt-ltb, le-ltb}
use Rattle.page.proofs.TextLaws.{all_append}
use Rattle.page.specs.Text.{is_ascii}
use Rattle.page.specs.Word.{word_of}

-- ## word_of

-- the highest bit of each byte
abbrev pub high_bits : List ℕ → ℕ
high_bits [] = 0
high_bits (b ∷ bs) = high_bits bs * 256 + 128

abbrev pub AreBytes : List ℕ → Type 0
AreBytes [] = Unit {0}
AreBytes (b ∷ bs) = (b < 256) × AreBytes bs

byte-passes : (b : ℕ) → b < 256 → eqb (bit_and b 128) 0 ≡ ltb b 128
byte-passes b h = by_size (dec_le 128 b)
  where
    by_size : Dec (128 ≤ b) → eqb (bit_and b 128) 0 ≡ ltb b 128
    by_size (yes high) =
        let whole : b ≡ 1 * 2 ^ 7 + (b - 128) = omega arith in
        let is : bit_and b 128 ≡ 128 + bit_and (b - 128) 0 =
        ap (λ (n : ℕ). bit_and n 128) whole ∙ and_block 7 1 1 (b - 128) 0 (omega arith) (lit< tt) in
        ne_eqb (bit_and b 128) 0 (λ e. omega (arith, is, e)) ∙ sym (le-ltb b 128 high)
    by_size (no low) =
        eq-eqb (bit_and b 128) 0 (and_comm b 128 ∙ and_shifted 1 7 b (lt_of_not-le low))
        ∙ sym (lt-ltb b 128 (lt_of_not-le low))

block-zero : (x y : ℕ) → eqb (x * 256 + y) 0 ≡ eqb y 0 && eqb x 0
block-zero zero zero = refl
block-zero (suc x) zero =
    ne_eqb (suc x * 256 + 0) 0 (λ e. omega (arith, e)) ∙ sym (ne_eqb (suc x) 0 (λ e. omega (arith, e)))
block-zero x (suc y) =
    ne_eqb (x * 256 + suc y) 0 (λ e. omega (arith, e))
    ∙ sym (ap (λ (t : Bool). t && eqb x 0) (ne_eqb (suc y) 0 (λ e. omega (arith, e))))

-- "A word passes exactly when its eight bytes do", for any number of bytes
pub word-passes : (bs : List ℕ) → AreBytes bs → eqb (bit_and (word_of bs) (high_bits bs)) 0 ≡ is_ascii bs
word-passes [] h = refl
word-passes (b ∷ bs) (h, hs) =
    ap (λ (n : ℕ). eqb n 0) (and_block 8 (word_of bs) (high_bits bs) b 128 h (lit< tt))
    ∙ block-zero (bit_and (word_of bs) (high_bits bs)) (bit_and b 128)
    ∙ ap (λ (t : Bool). t && eqb (bit_and (word_of bs) (high_bits bs)) 0) (byte-passes b h)
    ∙ ap (λ (t : Bool). ltb b 128 && t) (word-passes bs hs)

-- ## A word of a text

-- the eight bytes from i on, one by one
pub take-eight : (l : List ℕ) (i : ℕ) → 8 ≤ length l - i → take 8 (drop i l)
    ≡ get_or l i 0 ∷ get_or l (i + 1) 0 ∷ get_or l (i + 2) 0 ∷ get_or l (i + 3) 0 ∷ get_or l (i + 4) 0 ∷ get_or l (i + 5) 0
    ∷ get_or l (i + 6) 0 ∷ get_or l (i + 7) 0 ∷ []
take-eight l i h =
    rw (
      next i (i + 1) (omega arith) (omega arith),
      next (i + 1) (i + 2) (omega arith) (omega arith),
      next (i + 2) (i + 3) (omega arith) (omega arith),
      next (i + 3) (i + 4) (omega arith) (omega arith),
      next (i + 4) (i + 5) (omega arith) (omega arith),
      next (i + 5) (i + 6) (omega arith) (omega arith),
      next (i + 6) (i + 7) (omega arith) (omega arith),
      next (i + 7) (i + 8) (omega arith) (omega arith),
    )
  where
    next : (j k : ℕ) → suc j ≡ k → j < length l → drop j l ≡ get_or l j 0 ∷ drop k l
    next j k e h = drop-cons l j 0 h ∙ ap (λ (n : ℕ). get_or l j 0 ∷ drop n l) e

-- eight bytes, one by one
module _ (bs : List ℕ) (e : length bs ≡ 8) where
  abbrev at : ℕ → ℕ
  at i = get_or bs i 0

  abbrev eight : List ℕ
  eight = at 0 ∷ at 1 ∷ at 2 ∷ at 3 ∷ at 4 ∷ at 5 ∷ at 6 ∷ at 7 ∷ []

  whole : bs ≡ eight
  whole = sym (take_all 8 bs (omega arith)) ∙ take-eight bs 0 (omega arith)

  -- the number that std makes of them
  pub eight-word : (n : ℕ) → n ≡ from_le_bytes w64 bs → n ≡ word_of bs
  eight-word n is =
      let same : n ≡ word_of eight = omega (arith, is) in
      same ∙ ap word_of (sym whole)

  pub eight-passes : ((i : ℕ) → get_or bs i 0 < 256) → (n : ℕ) → n ≡ word_of bs
      → eqb (bit_and n 0x8080_8080_8080_8080) 0 ≡ is_ascii bs
  eight-passes f n is =
      ap (λ (m : ℕ). eqb (bit_and m 0x8080_8080_8080_8080) 0) (is ∙ ap word_of whole)
      ∙ word-passes eight (f 0, (f 1, (f 2, (f 3, (f 4, (f 5, (f 6, (f 7, tt)))))))) ∙ ap is_ascii (sym whole)

-- a word, and what stands after it
pub word-apart : (l : List ℕ) (i : ℕ) → drop i l ≡ take 8 (drop i l) ++ drop (i + 8) l
word-apart l i =
    sym (take-append-drop 8 (drop i l)) ∙ ap (λ (t : List ℕ). take 8 (drop i l) ++ t) (drop-drop 8 i l)

-- x is the answer that is due, r the test of the word at i
module _ (l : List ℕ) (i : ℕ) (x r : Bool) (inv : x ≡ is_ascii (drop i l)) (is : r ≡ is_ascii (take 8 (drop i l))) where
  word-step : x ≡ r && is_ascii (drop (i + 8) l)
  word-step =
      inv ∙ ap is_ascii (word-apart l i) ∙ all_append (λ c. ltb c 128) (take 8 (drop i l)) (drop (i + 8) l)
      ∙ ap (λ (t : Bool). t && is_ascii (drop (i + 8) l)) (sym is)

  pub word-stop : not r ≡ true → false ≡ x
  word-stop no' = sym (word-step ∙ rw (not-true r no'))

  pub word-go : not r ≡ false → x ≡ is_ascii (drop (i + 8) l)
  word-go yes' = word-step ∙ rw (not-false r yes')
