-- What can be read, and so need not be tested again: the fields in front of a field can be read, a text is as long as
-- its number says, and a choice is a byte. Each law refutes the other outcomes of the reader. Assumes nothing.
use Prim.Native.Nat.{ℕ, ◌+◌, ◌-◌, ◌≤◌, ◌<◌}
use mathlib.Core.Path.{◌≡◌, refl, sym, ap, ◌∙◌}
use mathlib.Core.Bool.{Bool, true, false}
use mathlib.Core.List.{List}
use native.Mathlib.Nat.{add-sub_cancel_left}
use native.Mathlib.Omega.{arith}
use lib.ListN.{length, take, drop, get_or, length-drop}
use lib.Seq.{drop-drop}
use lib.Dec.{leb}
use borrow.Author.Tests.{leb-true}
use Rattle.base.proofs.Cases.{by-lt}
use Rattle.page.specs.Bytes.{pick}
use Rattle.page.specs.Limits.{number_limit}
use Rattle.page.specs.Read.{FieldFault, bad_field, past_limit, bad_text, Read, refused, got, Reader, and_then, ◌>>=◌, ensure, reader_at}
use Rattle.page.specs.Number.{read_number, read_choice}
use Rattle.page.specs.Text.{Text, read_text}
use Rattle.page.specs.Listed.{Readable}
use Rattle.page.proofs.FieldLaws.{past_end, one_byte, high-number, no-form}

module _ {A : Type 0} where
  -- a refusal is no value
  pub not-refused : {B : Type 0} {f : FieldFault} {a : A} {t : List ℕ} → got a t ≡ refused f → B
  not-refused e = let z : ◌≡◌ {A = ℕ} 0 1 = cc in absurd (omega arith)

  pub no-refusal : {B : Type 0} (r : Reader A) (s : List ℕ) {f : FieldFault} → Readable r s → refused f ≡ r s → B
  no-refusal r s readable e = not-refused (readable.reads ∙ sym e)

-- ## The fields of a sequence

module _ {A B : Type 0} (r : Reader A) (f : A → Reader B) (s : List ℕ) (readable : Readable (r >>= f) s) where
  pub first-readable : Readable r s
  first-readable = by (r s) refl readable.reads
    where
      by : (m : Read A) → m ≡ r s → got readable.value readable.rest ≡ and_then m f → Readable r s
      by (refused x) is e = not-refused e
      by (got a t) is e = record { value = a; rest = t; reads = is }

  pub next-readable : {a : A} {t : List ℕ} → got a t ≡ r s → Readable (f a) t
  next-readable e = record { value = readable.value; rest = readable.rest; reads = readable.reads ∙ ap (λ (m : Read A). and_then m f) (sym e) }

-- ## Texts

module _ (limit : ℕ) (allowed : Text → Bool) where
  -- the tests of a text's bytes, after its length
  by-allowed : (y : Text) (v : List ℕ) (b : Bool) {x : Text} {u : List ℕ} → got x u ≡ ensure b bad_text y v → got y v ≡ ensure b bad_text y v
  by-allowed y v true e = refl
  by-allowed y v false e = not-refused e

  abbrev allowed_only : Text → Reader Text
  allowed_only y = ensure (allowed y) bad_text y

  by-limit : (y : Text) (v : List ℕ) (b : Bool) {x : Text} {u : List ℕ} → got x u ≡ and_then (ensure b past_limit y v) allowed_only
      → got y v ≡ and_then (ensure b past_limit y v) allowed_only
  by-limit y v true e = by-allowed y v (allowed y) e
  by-limit y v false e = not-refused e

  abbrev checked : ℕ → List ℕ → Bool → Read Text
  checked n t b = and_then (pick b (got (take n t) (drop n t)) (refused bad_field)) (λ y. ensure (leb n limit) past_limit y >>= allowed_only)

  by_length : (n : ℕ) (t : List ℕ) (b : Bool) {x : Text} {u : List ℕ} → leb n (length t) ≡ b → got x u ≡ checked n t b
      → (n ≤ length t) × (got (take n t) (drop n t) ≡ checked n t b)
  by_length n t true q e = (leb-true n (length t) q, by-limit (take n t) (drop n t) (leb n limit) e)
  by_length n t false q e = not-refused e

  -- a text that can be read has as many bytes as its number says, and is these bytes
  text-stored : (n : ℕ) (s t : List ℕ) → Readable (read_text limit allowed) s → got n t ≡ read_number s
      → (n ≤ length t) × (got (take n t) (drop n t) ≡ read_text limit allowed s)
  text-stored n s t readable e =
      let behind : read_text limit allowed s ≡ checked n t (leb n (length t)) = rw (← e) in
      let is = by_length n t (leb n (length t)) refl (readable.reads ∙ behind) in
      (is.0, is.1 ∙ sym behind)

  -- where the text starts after its number on a page
  pub span-stored : (page : List ℕ) (at n start : ℕ) → Readable (read_text limit allowed) (drop at page) → got n (drop start page) ≡ read_number (drop at page)
      → start ≤ length page
      → (start + n ≤ length page) × (got (take (start + n - start) (drop start page)) (drop (start + n) page) ≡ read_text limit allowed (drop at page))
  span-stored page at n start readable e h =
      let is = text-stored n (drop at page) (drop start page) readable e in
      (omega (arith, h, is.0, length-drop start page), rw (add-sub_cancel_left, ← drop-drop n start page) is.1)

-- ## Choices

module _ {A : Type 0} (rs : List (Reader A)) (page : List ℕ) (at : ℕ) where
  -- the choice is the byte at a position
  pub record Chosen : Type 0 where
    pub inside : at < length page
    pub known : get_or page at 0 < length rs
    pub is : read_choice rs (drop at page) ≡ reader_at rs (get_or page at 0) (drop (at + 1) page)

  pub choice-stored : length rs ≤ 128 → Readable (read_choice rs) (drop at page) → Chosen
  choice-stored few readable = by-lt at (length page) here (λ past. no-refusal read_number (drop at page) number (past_end page at number_limit past))
    where
      number : Readable read_number (drop at page)
      number = first-readable read_number (reader_at rs) (drop at page) readable

      here : at < length page → Chosen
      here inside = by-lt (get_or page at 0) 128 low high
        where
          low : get_or page at 0 < 128 → Chosen
          low h =
              let one = one_byte page at number_limit inside (omega (arith, h)) h in
              let form = next-readable read_number (reader_at rs) (drop at page) readable one in
              record {
                inside = inside;
                known = by-lt (get_or page at 0) (length rs) (λ g. g)
                    (λ g. no-refusal (reader_at rs (get_or page at 0)) (drop (at + 1) page) form
                    (no-form rs (get_or page at 0) (drop (at + 1) page) g));
                is = ap (λ (m : Read ℕ). and_then m (reader_at rs)) (sym one);
              }

          high : 128 ≤ get_or page at 0 → Chosen
          high h =
              let large = high-number page at number_limit inside h number.reads in
              no-refusal (reader_at rs number.value) number.rest
              (next-readable read_number (reader_at rs) (drop at page) readable number.reads)
              (no-form rs number.value number.rest (omega (arith, few, large)))
