-- The bytes of record k of a page: what stands there is the record as it is written, after the records before it
-- (`read_page-at`). By the laws of one record, on what each leaves. Assumes nothing.
use Prim.Native.Nat.{ℕ, zero, suc}
use mathlib.Core.Path.{◌≡◌, refl, sym, ap, ◌∙◌, subst}
use mathlib.Core.Bool.{Bool, true, false}
use mathlib.Core.List.{List, [], ◌∷◌, ◌++◌, cons-ne-nil, append_assoc}
use lib.ListN.{length, take, drop}
use lib.Seq.{drop-nil}
use lib.Dec.{T, leb}
use Rattle.page.specs.Bytes.{pick, all}
use Rattle.page.specs.Limits.{page_limit, record_limit}
use Rattle.page.specs.Read.{past_limit, Read, refused, got}
use Rattle.page.specs.Text.{write_all}
use Rattle.page.proofs.NumberLaws.{Written, is_byte}
use Rattle.page.proofs.ReaderLaws.{rest-bytes}
use Rattle.page.proofs.ReadBackLaws.{Got}
use Rattle.records.specs.Record.{Record, read_record, write_record, unreadable, no_records, followed, read_records, read_page}
use Rattle.records.specs.Allowed.{IsAllowed}
use Rattle.records.proofs.RecordLaws.{record-law}
use Rattle.records.proofs.AllowedLaws.{read_record-gives}
use Rattle.ast.specs.Part.{behind, from_record}

-- a record that is read from the bytes of record k on, which stand after the records before it
pub record RecordAt (s : List ℕ) (k : ℕ) (rs : List Record) (r : Record) : Type 0 where
  pub rest : List ℕ
  pub is_record : from_record k s ≡ write_record r ++ rest
  pub is_whole : s ≡ write_all write_record (take k rs) ++ from_record k s
  pub is_allowed : IsAllowed r

none-there : {A : Type 0} {B : Type 0} (k : ℕ) (x : A) (xs : List A) → drop k [] ≡ x ∷ xs → B
none-there k x xs e = absurd (cons-ne-nil x xs (sym e ∙ drop-nil k))

abbrev ReadsAt : ℕ → Type 0
ReadsAt n =
    (s : List ℕ) → T (all is_byte s) → (k : ℕ) (r : Record) (later : List Record)
    → drop k (read_records n s).records ≡ r ∷ later → RecordAt s k (read_records n s).records r

read_records-at : (n : ℕ) → ReadsAt n
read_records-at zero [] h k r later e = none-there k r later e
read_records-at zero (b ∷ bs) h k r later e = none-there k r later e
read_records-at (suc n) [] h k r later e = none-there k r later e
read_records-at (suc n) (b ∷ bs) h k r later e = by k (read_record (b ∷ bs)) refl (record-law (b ∷ bs) h) (read_record-gives.gives (b ∷ bs)) (read_records-at n) e
  where
    by : (k : ℕ) (m : Read Record) → read_record (b ∷ bs) ≡ m → Written write_record (b ∷ bs) m → Got IsAllowed m → ReadsAt n
        → drop k (followed m (λ rest. read_records n rest)).records ≡ r ∷ later → RecordAt (b ∷ bs) k (followed m (λ rest. read_records n rest)).records r
    by k (refused f) q w a more e = none-there k r later e
    by zero (got x rest) q w a more e =
        let same : x ≡ r = cc in
        record { rest = rest; is_record = rw (← same) w; is_whole = refl; is_allowed = rw (← same) a }
    by (suc k) (got x rest) q w a more e =
        let found = more rest (rest-bytes (write_record x) rest (subst (λ (y : List ℕ). T (all is_byte y)) w h)) k r later e in
        let here : from_record (suc k) (b ∷ bs) ≡ from_record k rest = ap (λ (m : Read Record). from_record k (behind m)) q in
        record {
          rest = found.rest;
          is_record = here ∙ found.is_record;
          is_whole = w
              ∙ ap (λ (y : List ℕ). write_record x ++ y) found.is_whole
              ∙ sym (append_assoc (write_record x) (write_all write_record (take k (read_records n rest).records)) (from_record k rest))
              ∙ ap (λ (y : List ℕ). write_all write_record (take (suc k) (x ∷ (read_records n rest).records)) ++ y) (sym here);
          is_allowed = found.is_allowed;
        }

pub read_page-at : (page : List ℕ) → T (all is_byte page) → (k : ℕ) (r : Record) (later : List Record)
    → drop k (read_page page).records ≡ r ∷ later → RecordAt page k (read_page page).records r
unfolding read_page
read_page-at page h k r later = by (leb (length page) page_limit)
  where
    by : (b : Bool) → drop k (pick b (read_records record_limit page) (no_records (unreadable past_limit))).records ≡ r ∷ later
        → RecordAt page k (pick b (read_records record_limit page) (no_records (unreadable past_limit))).records r
    by true e = read_records-at record_limit page h k r later e
    by false e = none-there k r later e
