-- Pages: allowed records that were written are read back, and a page whose records can all be read is those records,
-- written. So pages that can be read and lists of allowed records within the limits are the same thing. Assumes
-- nothing.
use Prim.Native.Nat.{ℕ, zero, suc, ◌+◌, ◌≤◌}
use mathlib.Core.Path.{◌≡◌, refl, sym, ap, ◌∙◌, subst}
use mathlib.Core.Bool.{Bool, true, false}
use mathlib.Core.List.{List, [], ◌∷◌, ◌++◌}
use native.Mathlib.Omega.{arith}
use native.Mathlib.Nat.{le_of_suc-le-suc, not-suc-le-zero}
use lib.ListN.{length}
use lib.Dec.{T, leb}
use borrow.Author.Tests.{le-leb}
use Rattle.page.specs.Bytes.{pick, all}
use Rattle.page.specs.Limits.{page_limit, record_limit}
use Rattle.page.specs.Read.{bad_field, past_limit, Read, refused, got}
use Rattle.page.specs.Text.{write_all}
use Rattle.page.specs.Allowed.{Each}
use Rattle.page.proofs.NumberLaws.{is_byte, pick_true}
use Rattle.page.proofs.ReadBackLaws.{Got}
use Rattle.records.specs.Record.{Record, read_record, write_record, Ending, end, unreadable, Records, no_records, followed, read_records, read_page}
use Rattle.records.specs.Allowed.{IsAllowed}
use Rattle.records.proofs.RecordLaws.{WrittenAs, page-law}
use Rattle.records.proofs.ReadBackLaws.{read_record-back}
use Rattle.records.proofs.AllowedLaws.{read_record-gives}

-- these records, and then the page's end
abbrev pub whole : List Record → Records
whole rs = record { records = rs; ending = end }

-- ## read_records

-- a record that can be read is not past the page's end
read_records-got : (n : ℕ) (s : List ℕ) (r : Record) (rest : List ℕ) → read_record s ≡ got r rest
    → read_records (suc n) s ≡ followed (got r rest) (λ t. read_records n t)
unfolding read_record
read_records-got n [] r rest e = absurd (never e)
  where
    never : refused bad_field ≡ got r rest → ⊥
    never q = let z : ◌≡◌ {A = ℕ} 0 1 = cc in omega arith
read_records-got n (b ∷ bs) r rest e = ap (λ (m : Read Record). followed m (λ t. read_records n t)) e

-- as many records as are allowed, written one after another
pub read_records-back : (n : ℕ) (rs : List Record) → length rs ≤ n → Each IsAllowed rs → read_records n (write_all write_record rs) ≡ whole rs
read_records-back zero [] h k = refl
read_records-back (suc n) [] h k = refl
read_records-back zero (r ∷ rs) h k = absurd (not-suc-le-zero h)
read_records-back (suc n) (r ∷ rs) h k =
    read_records-got n (write_record r ++ write_all write_record rs) r (write_all write_record rs) ((read_record-back r k.0).reads (write_all write_record rs))
    ∙ ap (λ (more : Records). record { records = r ∷ more.records; ending = more.ending }) (read_records-back n rs (le_of_suc-le-suc h) k.1)

-- equal bytes are equal records, for lists of any length
pub write_records-injective : (xs ys : List Record) → Each IsAllowed xs → Each IsAllowed ys → write_all write_record xs ≡ write_all write_record ys → xs ≡ ys
write_records-injective xs ys h k e =
    ap (λ (x : Records). x.records)
    (sym (read_records-back (length xs + length ys) xs (omega arith) h)
    ∙ ap (read_records (length xs + length ys)) e
    ∙ read_records-back (length xs + length ys) ys (omega arith) k)

follow-allowed : (m : Read Record) → Got IsAllowed m → (more : List ℕ → Records)
    → ((t : List ℕ) → Each IsAllowed (more t).records) → Each IsAllowed (followed m more).records
follow-allowed (refused f) h more k = tt
follow-allowed (got r rest) h more k = (h, k rest)

pub read_records-allowed : (n : ℕ) (s : List ℕ) → Each IsAllowed (read_records n s).records
read_records-allowed zero [] = tt
read_records-allowed zero (b ∷ bs) = tt
read_records-allowed (suc n) [] = tt
read_records-allowed (suc n) (b ∷ bs) = follow-allowed (read_record (b ∷ bs)) (read_record-gives.gives (b ∷ bs)) (λ t. read_records n t) (read_records-allowed n)

-- ## read_page

-- allowed records within the limits of a page are read back
pub read_page-back : (rs : List Record) → Each IsAllowed rs → length rs ≤ record_limit → length (write_all write_record rs) ≤ page_limit
    → read_page (write_all write_record rs) ≡ whole rs
unfolding read_page
read_page-back rs h k l = pick_true _ _ (le-leb (length (write_all write_record rs)) page_limit l) ∙ read_records-back record_limit rs k h

-- the records of any page are allowed
pub read_page-allowed : (page : List ℕ) → Each IsAllowed (read_page page).records
unfolding read_page
read_page-allowed page = by (leb (length page) page_limit)
  where
    by : (b : Bool) → Each IsAllowed (pick b (read_records record_limit page) (no_records (unreadable past_limit))).records
    by true = read_records-allowed record_limit page
    by false = tt

-- a page that can be read to its end is its records, written
pub read_page-written : (page : List ℕ) → T (all is_byte page) → (read_page page).ending ≡ end → page ≡ write_all write_record (read_page page).records
read_page-written page h e = by (read_page page).records page (subst (λ (x : Ending). WrittenAs page (read_page page).records x) e (page-law page h))
  where
    by : (rs : List Record) (s : List ℕ) → WrittenAs s rs end → s ≡ write_all write_record rs
    by [] s w = w
    by (r ∷ rs) s w = w.1 ∙ ap (λ (t : List ℕ). write_record r ++ t) (by rs w.0 w.2)
