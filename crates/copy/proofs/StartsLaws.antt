-- The records of a readable page by their starts: the copy from one record on is that record's copy, then the copy from
-- the next record that it does not take in. Assumes nothing.
use Prim.Native.Nat.{ℕ, zero, suc, ◌+◌, ◌-◌, ◌≤◌, ◌<◌}
use mathlib.Core.Path.{◌≡◌, refl, sym, ap, ◌∙◌, subst}
use mathlib.Core.Bool.{Bool, true, false}
use mathlib.Core.List.{List, [], ◌∷◌, ◌++◌}
use native.Mathlib.Omega.{arith}
use native.Mathlib.Numerals.{add-one}
use lib.ListN.{length, drop, get_or, drop_of_length-le, length-drop}
use lib.Seq.{drop-drop, drop-length}
use lib.Dec.{T, leb}
use borrow.Author.Tests.{leb-true, le-leb, lt-leb}
use Rattle.base.proofs.SpliceLaws.{Cut}
use Rattle.base.proofs.Cases.{by-lt}
use Rattle.page.specs.Bytes.{pick, all}
use Rattle.page.specs.Limits.{page_limit, record_limit}
use Rattle.page.specs.Read.{Read, got, past_limit}
use Rattle.page.specs.Text.{write_all}
use Rattle.page.proofs.NumberLaws.{Written, is_byte, right_of}
use Rattle.page.proofs.ReaderLaws.{rest-bytes}
use Rattle.records.specs.Record.{Record, read_record, write_record, end, unreadable, no_records, read_records, read_page}
use Rattle.records.proofs.RecordLaws.{record-law}
use Rattle.ast.specs.Part.{behind, from_record}
use Rattle.ast.specs.Expr.{Expr}
use Rattle.ast.specs.Walk.{accepted}
use Rattle.ast.specs.CheckPage.{apply, check_page}
use Rattle.ast.specs.Tables.{Tables}
use Rattle.ast.proofs.CheckLaws.{CheckedIn, check_page-in}
use Rattle.ast.proofs.WalkLaws.{walk-index, page-limit}
use Rattle.ast.proofs.TablesLaws.{from_record-next}
use Rattle.copy.specs.Copy.{copy_records, copy_page}
use Rattle.copy.specs.RecordCopy.{copy_of_read, record_copy, absorbed_read, absorbed_of, before_at_read, is_before_at}
use Rattle.copy.specs.Span.{Spans}
use Rattle.copy.specs.Starts.{Walks, PageStarts, copy_from}
use Rattle.copy.proofs.CopyLaws.{accepted-walks}
use Rattle.copy.proofs.OffsetLaws.{walks-drop}
use Rattle.copy.proofs.RecordCopyLaws.{ReadsTo, nothing_read, read_records-reads, copy_record-one, copy_record-bytes}

-- ## A page read to its end

module _ (page : List ℕ) where
  reads-limited : (b : Bool) → leb (length page) page_limit ≡ b
      → (pick b (read_records record_limit page) (no_records (unreadable past_limit))).ending ≡ end
      → (length page ≤ page_limit) × ReadsTo page (pick b (read_records record_limit page) (no_records (unreadable past_limit))).records
  reads-limited true q e = (leb-true (length page) page_limit q, read_records-reads record_limit page e)
  reads-limited false q e = absurd (let z : ◌≡◌ {A = ℕ} 0 1 = cc in omega arith)

pub read_page-reads : (page : List ℕ) → (read_page page).ending ≡ end → (length page ≤ page_limit) × ReadsTo page (read_page page).records
unfolding read_page
read_page-reads page e = reads-limited page (leb (length page) page_limit) refl e

-- ## from_record

pub from_record-reads : (i : ℕ) (s : List ℕ) (rs : List Record) → ReadsTo s rs → i ≤ length rs → ReadsTo (from_record i s) (drop i rs)
from_record-reads zero s rs g h = g
from_record-reads (suc i) s [] g h = absurd (let z : ⊥ = omega arith in z)
from_record-reads (suc i) s (r ∷ rs) (t, e, more) h =
    subst (λ (x : List ℕ). ReadsTo (from_record i x) (drop i rs)) (ap behind e) (from_record-reads i t rs more (omega arith))

-- the bytes after some bytes
pub drop-bytes : (k : ℕ) (s : List ℕ) → T (all is_byte s) → T (all is_byte (drop k s))
drop-bytes zero s h = h
drop-bytes (suc k) [] h = h
drop-bytes (suc k) (b ∷ bs) h = drop-bytes k bs (right_of (is_byte b) (all is_byte bs) h)

pub behind-bytes : (s : List ℕ) (r : Record) (t : List ℕ) → T (all is_byte s) → got r t ≡ read_record s → T (all is_byte t)
behind-bytes s r t h e =
    rest-bytes (write_record r) t (subst (λ (x : List ℕ). T (all is_byte x)) (subst (Written write_record s) (sym e) (record-law s h)) h)

-- ## copy_from

pub copy_from-start : (page : List ℕ) → copy_from page 0 ≡ copy_page page
unfolding copy_from copy_page
copy_from-start page = refl

-- the first record's copy, and the copy of the records that it does not take in: of all but an offset right before an @
copy-front : (s : List ℕ) (rs : List Record) → T (all is_byte s) → 0 < length rs → ReadsTo s rs → Walks rs → is_before_at s ≡ false
    → write_all write_record (copy_records rs) ≡ record_copy s ++ write_all write_record (copy_records (drop (suc (absorbed_of s)) rs))
unfolding record_copy absorbed_of is_before_at
copy-front s [] h l g w q = absurd (let z : ⊥ = omega arith in z)
copy-front s (r ∷ rs) h l (t, e, more) w q =
    ap (write_all write_record) (copy_record-one r t rs (behind-bytes s r t h e) more w (ap before_at_read e ∙ q))
    ∙ ap (λ (x : Read Record). copy_of_read x ++ write_all write_record (copy_records (drop (absorbed_read x) rs))) e

-- in bytes there are as many of any record
copy-front-length : (s : List ℕ) (rs : List Record) → T (all is_byte s) → 0 < length rs → ReadsTo s rs
    → length (write_all write_record (copy_records rs))
    ≡ length (record_copy s) + length (write_all write_record (copy_records (drop (suc (absorbed_of s)) rs)))
unfolding record_copy absorbed_of
copy-front-length s [] h l g = absurd (let z : ⊥ = omega arith in z)
copy-front-length s (r ∷ rs) h l (t, e, more) =
    copy_record-bytes r t rs (behind-bytes s r t h e) more
    ∙ ap (λ (x : Read Record). length (copy_of_read x) + length (write_all write_record (copy_records (drop (absorbed_read x) rs)))) e

-- a sum within a room, and its second part within what the first leaves
fits-rest : (whole a b left : ℕ) → whole ≡ a + b → a ≤ left → leb whole left ≡ leb b (left - a)
fits-rest whole a b left e h =
    by-lt left whole (λ l. lt-leb whole left l ∙ sym (lt-leb b (left - a) (omega arith)))
    (λ l. le-leb whole left l ∙ sym (le-leb b (left - a) (omega arith)))

module _ {page starts : List ℕ} {n : ℕ} (held : PageStarts page starts n) where
  page-reads : ReadsTo page (read_page page).records
  page-reads = (read_page-reads page held.readable).1

  reads_at : (i : ℕ) → i ≤ n → ReadsTo (from_record i page) (drop i (read_page page).records)
  reads_at i h = from_record-reads i page (read_page page).records page-reads (omega (arith, held.count))

  pub more-at : (i : ℕ) → i < n → 0 < length (drop i (read_page page).records)
  more-at i h = subst (λ (k : ℕ). 0 < k) (sym (length-drop i (read_page page).records)) (omega (arith, held.count))

  pub walks_at : (i : ℕ) → Walks (drop i (read_page page).records)
  walks_at i = walks-drop i (read_page page).records held.walked

  pub stands_at : (i : ℕ) → i < n → ReadsTo (drop (get_or starts i 0) page) (drop i (read_page page).records)
  stands_at i l = subst (λ (x : List ℕ). ReadsTo x (drop i (read_page page).records)) (sym (held.stands i l)) (reads_at i (omega arith))

  -- the records from i on without some more
  pub later : (i k : ℕ) → drop (suc k) (drop i (read_page page).records) ≡ drop (i + (1 + k)) (read_page page).records
  later i k = drop-drop (suc k) i (read_page page).records ∙ ap (λ (x : ℕ). drop x (read_page page).records) further
    where
      further : i + suc k ≡ i + (1 + k)
      further = omega arith

  pub copy_from-cut : (i : ℕ) → i < n → is_before_at (drop (get_or starts i 0) page) ≡ false
      → Cut (copy_from page i) (record_copy (drop (get_or starts i 0) page)) (copy_from page (i + (1 + absorbed_of (drop (get_or starts i 0) page))))
  unfolding copy_from
  copy_from-cut i l q =
      let s = drop (get_or starts i 0) page in
      record {
        is =
            copy-front s (drop i (read_page page).records) (drop-bytes (get_or starts i 0) page held.bytes) (more-at i l) (stands_at i l) (walks_at i) q
            ∙ ap (λ (x : List Record). record_copy s ++ write_all write_record (copy_records x)) (later i (absorbed_of s));
      }

  -- the same, with the number of records that it takes in
  pub copy_from-next : (i taken : ℕ) → i < n → is_before_at (drop (get_or starts i 0) page) ≡ false → taken ≡ absorbed_of (drop (get_or starts i 0) page)
      → Cut (copy_from page i) (record_copy (drop (get_or starts i 0) page)) (copy_from page (i + (1 + taken)))
  copy_from-next i taken h q e = rw e (copy_from-cut i h q)

  -- how many bytes: of an offset right before an @ too
  copy_from-length : (i : ℕ) → i < n
      → length (copy_from page i)
      ≡ length (record_copy (drop (get_or starts i 0) page)) + length (copy_from page (i + (1 + absorbed_of (drop (get_or starts i 0) page))))
  unfolding copy_from
  copy_from-length i l =
      let s = drop (get_or starts i 0) page in
      copy-front-length s (drop i (read_page page).records) (drop-bytes (get_or starts i 0) page held.bytes) (more-at i l) (stands_at i l)
      ∙ ap (λ (x : List Record). length (record_copy s) + length (write_all write_record (copy_records x))) (later i (absorbed_of s))

  pub copy_from-end : (i : ℕ) → n ≤ i → copy_from page i ≡ []
  unfolding copy_from
  copy_from-end i h = ap (λ (x : List Record). write_all write_record (copy_records x))
      (drop_of_length-le (read_page page).records {i = i} (omega (arith, held.count)))

  -- ## PageStarts

  pub starts-few : n ≤ record_limit
  starts-few = omega (arith, held.count, page-limit page)

  pub starts-page : length page ≤ page_limit
  starts-page = (read_page-reads page held.readable).0

  starts-spans : (i next : ℕ) → i < n → next ≤ length page → drop next page ≡ from_record (suc i) page → Spans page (get_or starts i 0) next
  starts-spans i next h l e = spanned (drop i (read_page page).records) (more-at i h) (reads_at i (omega arith))
    where
      spanned : (rs : List Record) → 0 < length rs → ReadsTo (from_record i page) rs → Spans page (get_or starts i 0) next
      spanned [] k g = absurd (let z : ⊥ = omega arith in z)
      spanned (r ∷ rs) k (t, q, more) =
          record {
            bytes = held.bytes;
            item = r;
            reads = ap (got r) (e ∙ from_record-next i page ∙ sym (ap behind q)) ∙ q ∙ ap read_record (sym (held.stands i h));
            inside = l;
          }

  starts-inside : (i : ℕ) → i < n → get_or starts i 0 < length page
  starts-inside i h = by-lt (get_or starts i 0) (length page) (λ l. l) (λ l. beyond (drop i (read_page page).records) (more-at i h) (at-end l))
    where
      at-end : length page ≤ get_or starts i 0 → ReadsTo [] (drop i (read_page page).records)
      at-end l = subst (λ (x : List ℕ). ReadsTo x (drop i (read_page page).records))
          (sym (held.stands i h) ∙ drop_of_length-le page {i = get_or starts i 0} l) (reads_at i (omega arith))

      beyond : (rs : List Record) → 0 < length rs → ReadsTo [] rs → get_or starts i 0 < length page
      beyond [] k g = absurd (let z : ⊥ = omega arith in z)
      beyond (r ∷ rs) k g = nothing_read r rs g

  -- a record ends where the next one starts
  pub starts-next : (i : ℕ) → i + 1 < n → Spans page (get_or starts i 0) (get_or starts (i + 1) 0)
  starts-next i h =
      starts-spans i (get_or starts (i + 1) 0) (omega arith) (omega (arith, starts-inside (i + 1) h))
      (held.stands (i + 1) h ∙ ap (λ (k : ℕ). from_record k page) (add-one i))

  -- the last one ends where the page ends
  pub starts-last : (i : ℕ) → i < n → n ≤ i + 1 → Spans page (get_or starts i 0) (length page)
  starts-last i h l = starts-spans i (length page) h (omega arith)
      (drop-length page
      ∙ sym (none (drop (suc i) (read_page page).records)
      (drop_of_length-le (read_page page).records {i = suc i} (omega (arith, held.count)))
      (reads_at (suc i) (omega arith))))
    where
      none : (rs : List Record) → rs ≡ [] → ReadsTo (from_record (suc i) page) rs → from_record (suc i) page ≡ []
      none [] e g = g
      none (r ∷ rs) e g = absurd (let z : ◌≡◌ {A = ℕ} 0 1 = cc in omega arith)

  -- ## Whether the copy fits: what is left of the room, for the records that are left

  pub fits_not : (i left size : ℕ) → i < n → size ≡ length (record_copy (drop (get_or starts i 0) page)) → left < size
      → leb (length (copy_from page i)) left ≡ false
  fits_not i left size h e l = lt-leb (length (copy_from page i)) left (omega (arith, copy_from-length i h))

  pub fits_more : (i left size taken : ℕ) → i < n → size ≡ length (record_copy (drop (get_or starts i 0) page))
      → taken ≡ absorbed_of (drop (get_or starts i 0) page) → size ≤ left
      → leb (length (copy_from page i)) left ≡ leb (length (copy_from page (i + (1 + taken)))) (left - size)
  fits_more i left size taken h e q l = fits-rest _ size _ left
      (rw (e, q) (copy_from-length i h))
      l

  pub fits-end : (i left : ℕ) → n ≤ i → leb (length (copy_from page i)) left ≡ true
  fits-end i left h = le-leb (length (copy_from page i)) left (omega (arith, ap length (copy_from-end i h)))

-- ## Accepted pages

-- the walk's table of an accepted page
pub accepted-starts : {page starts firsts : List ℕ} {n : ℕ} {e : Expr} → T (all is_byte page)
    → Tables page starts firsts n → check_page page ≡ accepted e n → PageStarts page starts n
unfolding check_page
accepted-starts {page} {n = n} {e = e} bytes tables h =
    record {
      bytes = bytes;
      readable = (accepted-walks (read_page page) e n h).0;
      walked = record {
        before = [];
        after = e ∷ [];
        walks = λ i. walk-index apply (read_page page).records 0 i [] (e ∷ []) (accepted-walks (read_page page) e n h).1;
      };
      count = sym (subst (CheckedIn (length (read_page page).records)) h (check_page-in page));
      size = tables.starts-size;
      stands = λ i l. (tables.entry i l).stands;
    }
