-- A text of UTF-8 by positions: after a byte that is due, after a character, after a word of bytes below 128. What is
-- left from there decides. Assumes nothing.
use Rattle.std.specs.Prelude.{Some, None}
use Rattle.std.specs.Prelude.{Option as Given}
use Prim.Native.Nat.{ℕ, suc, ◌+◌, ◌-◌, ◌≤◌, ◌<◌}
use mathlib.Core.Path.{◌≡◌, refl, sym, ap, ◌∙◌}
use mathlib.Core.Bool.{Bool, true, false, ◌&&◌, true≢false}
use mathlib.Core.List.{List, [], ◌∷◌, ◌++◌, append-nil}
use mathlib.Core.Option.{Option, some}
use native.Mathlib.Numerals.{add-one}
use native.Mathlib.Omega.{arith}
use lib.ListN.{length, take, drop, get_or, drop_of_length-le}
use lib.Seq.{drop-cons}
use lib.Dec.{T, ltb, leb, leb→le, ltb→lt}
use borrow.Author.Tests.{ltb-true, le-leb, lt-leb, leb-true}
use Rattle.base.proofs.Cases.{by_flag, by-lt}
use Rattle.page.specs.Text.{is_ascii}
use Rattle.page.specs.Bytes.{all}
use Rattle.page.specs.Utf8.{Range, holds, tail, Row, rows, following_in, following, begun, is_utf8_after, is_utf8}
use Rattle.page.specs.CharacterEnd.{due_meant, holds_first, Ends}
use Rattle.page.specs.declared.utf8.Due.{Due}
use Rattle.page.specs.declared.utf8.Due.TheVariants.{NoCharacter, Zero}
use Rattle.page.proofs.NumberLaws.{left-of, right_of}
use Rattle.page.proofs.AsciiLaws.{word-apart}

-- ## Ranges

abbrev pub InRange : Range → ℕ → Type 0
InRange r b = (r.low ≤ b) × (b ≤ r.high)

pub inside : (r : Range) (b : ℕ) → InRange r b → holds r b ≡ true
inside r b (l, h) = rw (le-leb r.low b l, le-leb b r.high h)

pub bounds : (r : Range) (b : ℕ) → T (holds r b) → InRange r b
bounds r b h =
    let low = left-of (leb r.low b) (leb b r.high) h in
    let high = right_of (leb r.low b) (leb b r.high) h in
    (leb→le r.low b low, leb→le b r.high high)

pub outside : (r : Range) (b : ℕ) → (r.low ≤ b → r.high < b) → holds r b ≡ false
outside r b f =
    by_flag (leb r.low b) (λ e. rw (e, lt-leb b r.high (f (leb-true r.low b e)))) (λ e. rw e)

-- ## The row that takes a first byte

abbrev pub row_at : ℕ → Row
row_at k = get_or rows k (record { first = tail; following = [] })

-- the rows before it end below it
follows : (before after : List Row) (r : Row) (c : ℕ)
    → T (all (λ q. ltb q.first.high r.first.low) before) → holds r.first c ≡ true
    → following_in (before ++ r ∷ after) c ≡ some r.following
follows [] after r c apart e = rw e
follows (q ∷ before) after r c apart e =
    let below = ltb→lt q.first.high r.first.low (left-of (ltb q.first.high r.first.low) _ apart) in
    let above = (bounds r.first c (rw e tt)).0 in
    rw (outside q.first c (λ l. omega (arith, below, above)))
    (follows before after r c (right_of (ltb q.first.high r.first.low) _ apart) e)

-- the row at k
pub row-takes : (k : ℕ) → take k rows ++ row_at k ∷ drop (suc k) rows ≡ rows
    → T (all (λ q. ltb q.first.high (row_at k).first.low) (take k rows))
    → (c : ℕ) → holds (row_at k).first c ≡ true → following c ≡ some (row_at k).following
row-takes k place apart c e =
    ap (λ grammar. following_in grammar c) (sym place) ∙ follows (take k rows) (drop (suc k) rows) (row_at k) c apart e

-- ## The bytes that are due

module _ (r : Range) (text : List ℕ) (at : ℕ) where
  pub first-none : length text ≤ at → false ≡ holds_first r (drop at text)
  first-none h = rw (drop_of_length-le text h)

  pub first_byte : at < length text → holds r (get_or text at 0) ≡ holds_first r (drop at text)
  first_byte h = rw (drop-cons text at 0 h)

  -- b is the test of the byte at `at`
  module _ (b : Bool) (is : b ≡ holds_first r (drop at text)) where
    pub first-inside : b ≡ true → at < length text
    first-inside yes' =
        by-lt at (length text) (λ h. h) (λ h. absurd (true≢false (sym yes' ∙ is ∙ sym (first-none h))))

    pub ends-not : (due : List Range) → b ≡ false → is_utf8_after (r ∷ due) (drop at text) ≡ false
    ends-not due no' = by (drop at text) (sym is ∙ no')
      where
        by : (t : List ℕ) → holds_first r t ≡ false → is_utf8_after (r ∷ due) t ≡ false
        by [] e = refl
        by (c ∷ t) e = rw e

    due-step : (due : List Range) → b ≡ true
        → is_utf8_after (r ∷ due) (drop at text) ≡ is_utf8_after due (drop (at + 1) text)
    due-step due yes' =
        let inside : at < length text = first-inside yes' in
        rw (add-one, drop-cons text at 0 inside, first_byte inside ∙ sym is ∙ yes')

    pub ends_last : b ≡ true → Ends (r ∷ []) text at (Some (at + 1))
    ends_last yes' = (omega arith, omega (arith, first-inside yes'), due-step [] yes')

    pub ends_more : (due : List Range) (n : Given ℕ) → b ≡ true → Ends due text (at + 1) n → Ends (r ∷ due) text at n
    ends_more due None yes' more = due-step due yes' ∙ more
    ends_more due (Some n) yes' more = (omega (arith, more.0), more.1, due-step due yes' ∙ more.2)

-- ## A character

module _ (text : List ℕ) (i : ℕ) (d : Due) (h : i < length text) (m : due_meant d ≡ following (get_or text i 0)) where
  left-due : Due → Bool
  left-due d = begun (due_meant d) (λ due. is_utf8_after due (drop (i + 1) text))

  character-step : is_utf8 (drop i text) ≡ left-due d
  unfolding left-due
  character-step = rw (add-one, drop-cons text i 0 h, m)

  pub character-none : d ≡ NoCharacter → is_utf8 (drop i text) ≡ false
  unfolding left-due
  character-none e = character-step ∙ ap left-due e

  pub character-whole : d ≡ Zero → Ends [] text i (Some (i + 1))
  unfolding left-due
  character-whole e = (omega arith, omega (arith, h), character-step ∙ ap left-due e)

  pub character-ends : (due : List Range) (n : Given ℕ) → due_meant d ≡ some due → Ends due text (i + 1) n → Ends [] text i n
  unfolding left-due
  character-ends due n e more = by n more
    where
      one : is_utf8 (drop i text) ≡ is_utf8_after due (drop (i + 1) text)
      one = character-step ∙ ap (λ (x : Option (List Range)). begun x (λ due. is_utf8_after due (drop (i + 1) text))) e

      by : (n : Given ℕ) → Ends due text (i + 1) n → Ends [] text i n
      by None k = one ∙ k
      by (Some n) k = (omega (arith, k.0), k.1, one ∙ k.2)

-- ## Bytes below 128

-- a byte below 128 is a character, and may be dropped
pub byte-skip : (c : ℕ) (t : List ℕ) → c < 128 → is_utf8 (c ∷ t) ≡ is_utf8 t
byte-skip c t h = rw (le-leb 0 c (omega arith), le-leb c 127 (omega arith))

pub ascii-skip : (a b : List ℕ) → is_ascii a ≡ true → is_utf8 (a ++ b) ≡ is_utf8 b
ascii-skip [] b h = refl
ascii-skip (c ∷ a) b h = by (ltb c 128) refl h (ascii-skip a b)
  where
    by : (x : Bool) → ltb c 128 ≡ x → x && is_ascii a ≡ true → (is_ascii a ≡ true → is_utf8 (a ++ b) ≡ is_utf8 b)
        → is_utf8 (c ∷ a ++ b) ≡ is_utf8 b
    by true e h more = byte-skip c (a ++ b) (ltb-true c 128 e) ∙ more h
    by false e h more = absurd (let z : ◌≡◌ {A = ℕ} 0 1 = cc in omega arith)

pub ascii-utf8 : (text : List ℕ) (r : Bool) → r ≡ is_ascii text → r ≡ true → true ≡ is_utf8 text
ascii-utf8 text r is yes' =
    sym (ap is_utf8 (sym (append-nil text)) ∙ ascii-skip text [] (sym is ∙ yes'))

pub word-ends : (text : List ℕ) (i : ℕ) (r : Bool) → 8 ≤ length text - i → r ≡ is_ascii (take 8 (drop i text))
    → r ≡ true → Ends [] text i (Some (i + 8))
word-ends text i r h is yes' = (
  omega arith,
  omega arith,
  ap is_utf8 (word-apart text i) ∙ ascii-skip (take 8 (drop i text)) (drop (i + 8) text) (sym is ∙ yes'),
)

pub byte-ends : (text : List ℕ) (i : ℕ) → i < length text → get_or text i 0 < 128 → Ends [] text i (Some (i + 1))
byte-ends text i h k = (
  omega arith,
  omega arith,
  ap is_utf8 (drop-cons text i 0 h) ∙ rw (byte-skip (get_or text i 0) (drop (suc i) text) k, add-one),
)

-- ## The loop

pub ends-all : (text : List ℕ) (i : ℕ) (x : Bool) → x ≡ is_utf8 (drop i text) → length text ≤ i → true ≡ x
ends-all text i x inv h = sym (inv ∙ rw (drop_of_length-le text h))
