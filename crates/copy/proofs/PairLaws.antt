-- An offset right before an @ by their places: the copy from there on is the @, then the offset, each as on the page,
-- then the copy from the record behind both. Assumes nothing.
use Prim.Native.Nat.{ℕ, ◌+◌, ◌-◌, ◌<◌}
use mathlib.Core.Path.{◌≡◌, refl, sym, ap, ap₂, ◌∙◌, subst}
use mathlib.Core.Bool.{Bool, true, false, ◌&&◌}
use mathlib.Core.List.{List, [], ◌∷◌, ◌++◌, append_assoc}
use native.Mathlib.Omega.{arith}
use native.Mathlib.Numerals.{add-one}
use lib.ListN.{length, take, drop, get_or, length-drop}
use lib.Dec.{T, eqb}
use Rattle.base.proofs.SpliceLaws.{Cut, cut}
use Rattle.page.specs.Bytes.{all}
use Rattle.page.specs.Read.{got}
use Rattle.page.specs.Text.{write_all}
use Rattle.page.proofs.NumberLaws.{is_byte}
use Rattle.records.specs.Time.{Offset}
use Rattle.records.specs.Record.{number, string, selector, range, subquery, at, offset, unary, paren, Record, leaf}
use Rattle.records.specs.Record.{wrapper, binary, aggregate, call, read_record, write_record, record_kind, read_page}
use Rattle.ast.specs.Part.{behind, from_record}
use Rattle.ast.proofs.TablesLaws.{from_record-next}
use Rattle.copy.specs.Copy.{copy_records}
use Rattle.copy.specs.RecordCopy.{first_is, before_at_read, is_before_at}
use Rattle.copy.specs.Settled.{start_with}
use Rattle.copy.specs.Span.{Spans, second_first}
use Rattle.copy.specs.Starts.{Walks, PageStarts, copy_from}
use Rattle.copy.proofs.OffsetLaws.{offset-before-at}
use Rattle.copy.proofs.RecordCopyLaws.{ReadsTo, first_is-kind}
use Rattle.copy.proofs.StartsLaws.{drop-bytes, behind-bytes, more-at, stands_at, walks_at, later}
use Rattle.copy.proofs.SpanLaws.{span-part}

-- ## Two records of these kinds

other : {B : Type 0} → false ≡ true → B
other e = absurd (let z : ◌≡◌ {A = ℕ} 0 1 = cc in omega arith)

at-behind : (o : Offset) (q : Record) (rs : List Record) → start_with 5 (q ∷ rs) ≡ true → Walks (wrapper (offset o) ∷ q ∷ rs)
    → copy_records (wrapper (offset o) ∷ q ∷ rs) ≡ q ∷ wrapper (offset o) ∷ copy_records rs
at-behind o (leaf (number l)) rs h w = other h
at-behind o (leaf (string t)) rs h w = other h
at-behind o (leaf (selector s)) rs h w = other h
at-behind o (wrapper (range n)) rs h w = other h
at-behind o (wrapper (subquery r s)) rs h w = other h
at-behind o (wrapper (at a)) rs h w = offset-before-at o a rs w
at-behind o (wrapper (offset p)) rs h w = other h
at-behind o (wrapper unary) rs h w = other h
at-behind o (wrapper paren) rs h w = other h
at-behind o (binary c m) rs h w = other h
at-behind o (aggregate c m n) rs h w = other h
at-behind o (call f n) rs h w = other h

pair-copied : (r q : Record) (rs : List Record) → eqb (record_kind r) 6 ≡ true → start_with 5 (q ∷ rs) ≡ true → Walks (r ∷ q ∷ rs)
    → copy_records (r ∷ q ∷ rs) ≡ q ∷ r ∷ copy_records rs
pair-copied (leaf (number l)) q rs h g w = other h
pair-copied (leaf (string t)) q rs h g w = other h
pair-copied (leaf (selector s)) q rs h g w = other h
pair-copied (wrapper (range n)) q rs h g w = other h
pair-copied (wrapper (subquery r s)) q rs h g w = other h
pair-copied (wrapper (at a)) q rs h g w = other h
pair-copied (wrapper (offset o)) q rs h g w = at-behind o q rs g w
pair-copied (wrapper unary) q rs h g w = other h
pair-copied (wrapper paren) q rs h g w = other h
pair-copied (binary c m) q rs h g w = other h
pair-copied (aggregate c m n) q rs h g w = other h
pair-copied (call f n) q rs h g w = other h

-- ## In bytes

-- an offset at the front of some bytes, and an @ right behind it
record Pair (s : List ℕ) (rs : List Record) : Type 0 where
  first : Record
  second : Record
  rest : List Record
  after : List ℕ
  last : List ℕ
  is_records : rs ≡ first ∷ second ∷ rest
  is_first : got first after ≡ read_record s
  is_second : got second last ≡ read_record after
  is_offset : eqb (record_kind first) 6 ≡ true
  is_at : start_with 5 (second ∷ rest) ≡ true

both_true : (a b : Bool) → (a && b) ≡ true → (a ≡ true) × (b ≡ true)
both_true true true h = (refl, refl)
both_true true false h = other h
both_true false b h = other h

pair_read : (s : List ℕ) (rs : List Record) → T (all is_byte s) → 0 < length rs → ReadsTo s rs → is_before_at s ≡ true → Pair s rs
unfolding is_before_at
pair_read s [] h l g q = absurd (let z : ⊥ = omega arith in z)
pair_read s (r ∷ rs) h l (t, e, more) q = by rs more (sym (first_is-kind 5 t rs (behind-bytes s r t h e) more) ∙ kinds.1)
  where
    kinds : (eqb (record_kind r) 6 ≡ true) × (first_is 5 t ≡ true)
    kinds = both_true (eqb (record_kind r) 6) (first_is 5 t) (ap before_at_read e ∙ q)

    by : (qs : List Record) → ReadsTo t qs → start_with 5 qs ≡ true → Pair s (r ∷ qs)
    by [] g k = other k
    by (x ∷ xs) (u, d, rest) k =
        record {
          first = r;
          second = x;
          rest = xs;
          after = t;
          last = u;
          is_records = refl;
          is_first = e;
          is_second = d;
          is_offset = kinds.0;
          is_at = k;
        }

-- ## Two records by their places, the second one first

pub second-first : (page : List ℕ) (start next after : ℕ)
    → Cut (second_first page start next after) (take (after - next) (drop next page)) (take (next - start) (drop start page))
second-first page start next after = cut (take (after - next) (drop next page)) (take (next - start) (drop start page))

-- ## By the table of starts

module _ {page starts : List ℕ} {n : ℕ} (held : PageStarts page starts n) (i next : ℕ) (l : i < n)
    (span : Spans page (get_or starts i 0) next) (is : is_before_at (drop (get_or starts i 0) page) ≡ true)
  where
    pair : Pair (drop (get_or starts i 0) page) (drop i (read_page page).records)
    pair = pair_read (drop (get_or starts i 0) page) (drop i (read_page page).records) (drop-bytes (get_or starts i 0) page held.bytes)
        (more-at held i l) (stands_at held i l) is

    -- the @ is a record of the table
    pub pair_inside : i + 1 < n
    pair_inside = omega (arith, held.count, length-drop i (read_page page).records, ap length pair.is_records)

    -- it stands where the offset ends
    pub next-stands : drop (get_or starts (i + 1) 0) page ≡ drop next page
    next-stands =
        held.stands (i + 1) pair_inside
        ∙ ap (λ (k : ℕ). from_record k page) (add-one i)
        ∙ from_record-next i page
        ∙ ap behind (ap read_record (sym (held.stands i l)) ∙ sym span.reads)

    module _ (after : ℕ) (there : Spans page (get_or starts (i + 1) 0) after) where
      abbrev pub pair-behind : Spans page next after
      pair-behind =
          record {
            bytes = there.bytes;
            item = there.item;
            reads = there.reads ∙ ap read_record next-stands;
            inside = there.inside;
          }

      first_part : write_record pair.first ≡ take (next - get_or starts i 0) (drop (get_or starts i 0) page)
      first_part =
          let read : got span.item (drop next page) ≡ got pair.first pair.after = span.reads ∙ sym pair.is_first in
          let same : span.item ≡ pair.first = cc in
          sym (span-part span ∙ ap write_record same)

      second-part : write_record pair.second ≡ take (after - next) (drop next page)
      second-part =
          let read_first : got span.item (drop next page) ≡ got pair.first pair.after = span.reads ∙ sym pair.is_first in
          let same_bytes : drop next page ≡ pair.after = cc in
          let read : got there.item (drop after page)
          ≡ got pair.second pair.last = pair-behind.reads ∙ ap read_record same_bytes
          ∙ sym pair.is_second in
          let same : there.item ≡ pair.second = cc in
          sym (span-part pair-behind ∙ ap write_record same)

      rest-is : pair.rest ≡ drop (i + 2) (read_page page).records
      rest-is =
          sym (ap (drop 2) pair.is_records) ∙ later held i 1 ∙ ap (λ (k : ℕ). drop k (read_page page).records) two
        where
          two : i + (1 + 1) ≡ i + 2
          two = omega arith

      pub copy_from-pair : Cut (copy_from page i) (second_first page (get_or starts i 0) next after) (copy_from page (i + 2))
      unfolding copy_from
      copy_from-pair =
          record {
            is =
                ap (λ (x : List Record). write_all write_record (copy_records x)) pair.is_records
                ∙ ap (write_all write_record)
                (pair-copied pair.first pair.second pair.rest pair.is_offset pair.is_at (subst Walks pair.is_records (walks_at held i)))
                ∙ sym (append_assoc (write_record pair.second) (write_record pair.first) (write_all write_record (copy_records pair.rest)))
                ∙ ap₂ (λ (x y : List ℕ). (x ++ y) ++ write_all write_record (copy_records pair.rest)) second-part first_part
                ∙ ap (λ (x : List Record). second_first page (get_or starts i 0) next after ++ write_all write_record (copy_records x)) rest-is;
          }
