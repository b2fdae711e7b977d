-- A record's copy as parts of the page: a record that reaches from `start` to `next` is the page's bytes between them.
-- Its first byte is its kind; a number's second byte is its form, and the rest of it stays. Assumes nothing.
use Prim.Native.Nat.{ℕ, suc, ◌+◌, ◌-◌, ◌≤◌, ◌<◌, zero-le}
use mathlib.Core.Path.{◌≡◌, refl, sym, ap, ◌∙◌, subst}
use mathlib.Core.Bool.{Bool, true, false, ◌&&◌}
use mathlib.Core.List.{List, [], ◌∷◌, ◌++◌}
use native.Mathlib.Nat.{add-zero}
use native.Mathlib.Omega.{arith}
use lib.ListN.{length, take, drop, get_or, length-drop, length-append, drop_of_length-le}
use lib.Seq.{get_or-drop, drop-cons, take_at, length-take-le}
use lib.Dec.{eqb}
use borrow.Author.Tests.{eq-eqb, ne_eqb}
use Rattle.page.specs.Bytes.{pick}
use Rattle.page.specs.Limits.{page_limit}
use Rattle.page.proofs.NumberLaws.{Written}
use Rattle.records.specs.Record.{number, string, selector, Record, leaf}
use Rattle.records.specs.Record.{wrapper, binary, aggregate, call, write_record, record_kind}
use Rattle.records.proofs.RecordLaws.{record-law}
use Rattle.copy.specs.RecordCopy.{unaries, copied, copy_of_read, record_copy, absorbed_read, absorbed_of, absorbed, first_is, before_at_read, is_before_at}
use Rattle.copy.specs.Span.{Spans}
use Rattle.copy.specs.Starts.{PageStarts}
use Rattle.copy.proofs.RecordCopyLaws.{record-head}
use Rattle.copy.proofs.StartsLaws.{drop-bytes, starts-page}

-- ## Parts of a page

-- what stands between two places
pub part-is : (page front : List ℕ) (from to : ℕ) → to ≤ length page → drop from page ≡ front ++ drop to page → take (to - from) (drop from page) ≡ front
part-is page front from to h e =
    ap (take (to - from)) e ∙ take_at front (drop to page) (to - from) (size (ap length e ∙ length-append front (drop to page)))
  where
    size : length (drop from page) ≡ length front + length (drop to page) → length front ≡ to - from
    size g = omega (arith, length-drop from page, length-drop to page)

-- the place after what stands there
pub part-ends : (page front : List ℕ) (from to : ℕ) → to ≤ length page → 0 < length front → drop from page ≡ front ++ drop to page → from + length front ≡ to
part-ends page front from to h l e = omega (arith, length-drop from page, length-drop to page, ap length e ∙ length-append front (drop to page))

pub part_length : (page : List ℕ) (from to : ℕ) → to ≤ length page → length (take (to - from) (drop from page)) ≡ to - from
part_length page from to h = length-take-le (to - from) (drop from page) (omega (arith, length-drop from page))

-- ## Kinds

-- all but numbers and binaries stay
other-copied : (r : Record) (rest : List ℕ) → (record_kind r ≡ 0 → ⊥) → (record_kind r ≡ 9 → ⊥) → copied r rest ≡ r
other-copied (leaf (number l)) rest h g = absurd (h refl)
other-copied (leaf (string t)) rest h g = refl
other-copied (leaf (selector s)) rest h g = refl
other-copied (wrapper w) rest h g = refl
other-copied (binary c m) rest h g = absurd (g refl)
other-copied (aggregate c m n) rest h g = refl
other-copied (call f n) rest h g = refl

-- all but numbers take nothing in
nothing-absorbed : (r : Record) (rest : List ℕ) → (record_kind r ≡ 0 → ⊥) → absorbed r rest ≡ 0
nothing-absorbed (leaf (number l)) rest h = absurd (h refl)
nothing-absorbed (leaf (string t)) rest h = refl
nothing-absorbed (leaf (selector s)) rest h = refl
nothing-absorbed (wrapper w) rest h = refl
nothing-absorbed (binary c m) rest h = refl
nothing-absorbed (aggregate c m n) rest h = refl
nothing-absorbed (call f n) rest h = refl

-- no more than there are bytes
unaries-in : (s : List ℕ) → unaries s ≤ length s
unaries-in [] = zero-le
unaries-in (b ∷ bs) = by (eqb b 7) (unaries-in bs)
  where
    by : (c : Bool) → unaries bs ≤ length bs → pick c (suc (unaries bs)) 0 ≤ suc (length bs)
    by true h = omega arith
    by false h = zero-le

absorbed-in : (r : Record) (rest : List ℕ) → absorbed r rest ≤ length rest
absorbed-in (leaf (number l)) rest = unaries-in rest
absorbed-in (leaf (string t)) rest = zero-le
absorbed-in (leaf (selector s)) rest = zero-le
absorbed-in (wrapper w) rest = zero-le
absorbed-in (binary c m) rest = zero-le
absorbed-in (aggregate c m n) rest = zero-le
absorbed-in (call f n) rest = zero-le

-- ## Pieces

module _ {page : List ℕ} {start next : ℕ} (span : Spans page start next) where
  pub span-written : drop start page ≡ write_record span.item ++ drop next page
  span-written = subst (Written write_record (drop start page)) (sym span.reads) (record-law (drop start page) (drop-bytes start page span.bytes))

  headed : drop start page ≡ (record_kind span.item ∷ (record-head span.item).0) ++ drop next page
  headed = span-written ∙ ap (λ (s : List ℕ). s ++ drop next page) (record-head span.item).1

  pub span-kind : get_or page start 0 ≡ record_kind span.item
  span-kind = ap (λ (k : ℕ). get_or page k 0) (sym (add-zero start)) ∙ sym (get_or-drop start page 0 0) ∙ ap (λ (s : List ℕ). get_or s 0 0) headed

  pub span-wide : start + 1 ≤ next
  span-wide = omega (arith, part-ends page (record_kind span.item ∷ (record-head span.item).0) start next span.inside (omega arith) headed)

  pub span-copy : record_copy (drop start page) ≡ write_record (copied span.item (drop next page))
  unfolding record_copy
  span-copy = ap copy_of_read (sym span.reads)

  pub span-absorbed : absorbed_of (drop start page) ≡ absorbed span.item (drop next page)
  unfolding absorbed_of
  span-absorbed = ap absorbed_read (sym span.reads)

  pub absorbed-few : absorbed_of (drop start page) ≤ length page
  absorbed-few = omega (arith, span-absorbed, absorbed-in span.item (drop next page), length-drop next page)

  -- the page's bytes between its ends are the record's
  pub span-part : take (next - start) (drop start page) ≡ write_record span.item
  span-part = part-is page (write_record span.item) start next span.inside span-written

  -- an unchanged record is the page's own bytes
  pub same_copy : copied span.item (drop next page) ≡ span.item → record_copy (drop start page) ≡ take (next - start) (drop start page)
  same_copy e = span-copy ∙ ap write_record e ∙ sym span-part

  pub other-copy : (get_or page start 0 ≡ 0 → ⊥) → (get_or page start 0 ≡ 9 → ⊥) → record_copy (drop start page) ≡ take (next - start) (drop start page)
  other-copy h g =
      same_copy (other-copied span.item (drop next page) (λ e. h (span-kind ∙ e)) (λ e. g (span-kind ∙ e)))

  pub other-absorbed : (get_or page start 0 ≡ 0 → ⊥) → absorbed_of (drop start page) ≡ 0
  other-absorbed h = span-absorbed ∙ nothing-absorbed span.item (drop next page) (λ e. h (span-kind ∙ e))

  -- whether it is an offset right before an @: by its kind and by the byte behind it
  before_at : is_before_at (drop start page) ≡ (eqb (get_or page start 0) 6 && first_is 5 (drop next page))
  unfolding is_before_at
  before_at = ap before_at_read (sym span.reads) ∙ ap (λ (k : ℕ). eqb k 6 && first_is 5 (drop next page)) (sym span-kind)

  pub before-at-other : (get_or page start 0 ≡ 6 → ⊥) → is_before_at (drop start page) ≡ false
  before-at-other h = before_at ∙ rw (ne_eqb (get_or page start 0) 6 h)

  pub before-at-inside : get_or page start 0 ≡ 6 → next < length page → is_before_at (drop start page) ≡ eqb (get_or page next 0) 5
  before-at-inside h l = before_at ∙ rw (eq-eqb (get_or page start 0) 6 h, drop-cons page next 0 l)

  pub before-at-end : get_or page start 0 ≡ 6 → length page ≤ next → is_before_at (drop start page) ≡ false
  before-at-end h l = before_at ∙ rw (eq-eqb (get_or page start 0) 6 h, drop_of_length-le page {i = next} l)

  -- a copy of the page's own bytes is as long
  pub same_length : record_copy (drop start page) ≡ take (next - start) (drop start page) → length (record_copy (drop start page)) ≡ next - start
  same_length e = ap length e ∙ part_length page start next span.inside

-- what a record of a page takes in is no more than a page has
pub taken-few : {page starts : List ℕ} {n start next taken : ℕ} → PageStarts page starts n → Spans page start next
    → taken ≡ absorbed_of (drop start page) → taken ≤ page_limit
taken-few held span e = omega (arith, e, absorbed-few span, starts-page held)
