-- The copy is its records' copies, one after the other, but for an offset right before an @. A record's first byte is
-- its kind, so the unary records that a number takes in are counted in bytes. Assumes nothing.
use Prim.Native.Nat.{ℕ, zero, suc, ◌+◌}
use mathlib.Core.Path.{◌≡◌, refl, sym, ap, ◌∙◌, subst}
use mathlib.Core.Bool.{Bool, true, false, ◌&&◌}
use mathlib.Core.List.{List, [], ◌∷◌, ◌++◌}
use native.Mathlib.Omega.{arith}
use lib.ListN.{length, drop, length-append}
use lib.Dec.{T, eqb}
use borrow.Author.Tests.{eqb-true}
use Rattle.page.specs.Bytes.{pick, all}
use Rattle.page.specs.Read.{Read, refused, got}
use Rattle.page.specs.Text.{write_all}
use Rattle.page.proofs.NumberLaws.{Written, is_byte, right_of}
use Rattle.records.specs.Literal.{Literal, negate}
use Rattle.records.specs.Record.{number, string, selector, range, subquery, at, offset, unary, paren, Record, leaf}
use Rattle.records.specs.Record.{wrapper, binary, aggregate, call, read_record, write_record, end, Records, followed}
use Rattle.records.specs.Record.{read_records, record_kind}
use Rattle.records.proofs.RecordLaws.{record-law}
use Rattle.ast.specs.CheckAst.{checked_modifier}
use Rattle.copy.specs.Copy.{copy_number, copy_record, copy_records}
use Rattle.copy.specs.RecordCopy.{unaries, negated, copied, absorbed, first_is}
use Rattle.copy.specs.Settled.{start_with}
use Rattle.copy.specs.Starts.{Walks}
use Rattle.copy.proofs.FrontLaws.{copy_number-alone, copy_offset-bytes, copy_offset-first, copy_record-first}
use Rattle.copy.proofs.OffsetLaws.{offset-alone}

-- ## Bytes that are records, to their end

abbrev pub ReadsTo : List ℕ → List Record → Type 0
ReadsTo s [] = s ≡ []
ReadsTo s (r ∷ rs) = (t : List ℕ) × (got r t ≡ read_record s) × ReadsTo t rs

abbrev ReadsAll : List ℕ → Records → Type 0
ReadsAll s rs = rs.ending ≡ end → ReadsTo s rs.records

followed-reads : (s : List ℕ) (m : Read Record) → m ≡ read_record s → (more : List ℕ → Records)
    → ((t : List ℕ) → ReadsAll t (more t)) → ReadsAll s (followed m more)
followed-reads s (refused f) e more g q = absurd (let z : ◌≡◌ {A = ℕ} 0 1 = cc in omega arith)
followed-reads s (got r t) e more g q = (t, e, g t q)

pub read_records-reads : (n : ℕ) (s : List ℕ) → (read_records n s).ending ≡ end → ReadsTo s (read_records n s).records
read_records-reads zero [] q = refl
read_records-reads zero (b ∷ bs) q = absurd (let z : ◌≡◌ {A = ℕ} 0 1 = cc in omega arith)
read_records-reads (suc n) [] q = refl
read_records-reads (suc n) (b ∷ bs) q = followed-reads (b ∷ bs) (read_record (b ∷ bs)) refl (λ t. read_records n t) (λ t. read_records-reads n t) q

-- ## The first byte of a record is its kind

-- a record is its kind, then its fields
pub record-head : (r : Record) → (fields : List ℕ) × (write_record r ≡ record_kind r ∷ fields)
unfolding write_record
record-head (leaf (number l)) = (_, refl)
record-head (leaf (string t)) = (_, refl)
record-head (leaf (selector s)) = (_, refl)
record-head (wrapper (range n)) = (_, refl)
record-head (wrapper (subquery r s)) = (_, refl)
record-head (wrapper (at a)) = (_, refl)
record-head (wrapper (offset o)) = (_, refl)
record-head (wrapper unary) = (_, refl)
record-head (wrapper paren) = (_, refl)
record-head (binary c m) = (_, refl)
record-head (aggregate c m n) = (_, refl)
record-head (call f n) = (_, refl)

first_byte : (b : ℕ) (bs : List ℕ) (r : Record) (t : List ℕ) → T (all is_byte (b ∷ bs)) → got r t ≡ read_record (b ∷ bs) → b ≡ record_kind r
first_byte b bs r t h e =
    let written : b ∷ bs ≡ write_record r ++ t = subst (Written write_record (b ∷ bs)) (sym e) (record-law (b ∷ bs) h) in
    let headed : b ∷ bs ≡ (record_kind r ∷ (record-head r).0) ++ t = written ∙ ap (λ (s : List ℕ). s ++ t) (record-head r).1 in
    cc

pub nothing_read : {A : Type 0} (r : Record) (rs : List Record) → ReadsTo [] (r ∷ rs) → A
unfolding read_record
nothing_read r rs (t, e, more) = absurd (let z : ◌≡◌ {A = ℕ} 0 1 = cc in omega arith)

pub first_is-kind : (k : ℕ) (s : List ℕ) (rs : List Record) → T (all is_byte s) → ReadsTo s rs → first_is k s ≡ start_with k rs
first_is-kind k [] [] h g = refl
first_is-kind k [] (r ∷ rs) h g = nothing_read r rs g
first_is-kind k (b ∷ bs) [] h g = absurd (let z : ◌≡◌ {A = ℕ} 0 1 = cc in omega arith)
first_is-kind k (b ∷ bs) (r ∷ rs) h (t, e, more) = ap (λ (x : ℕ). eqb x k) (first_byte b bs r t h e)

-- ## copy_number

-- numbers take in the unary records in front of these bytes, and no more
unary-taken : (l : Literal) (b : ℕ) (bs : List ℕ) (r : Record) (rs : List Record) → b ≡ 7 → ReadsTo (b ∷ bs) (r ∷ rs)
    → ((m : Literal) → ReadsTo bs rs → copy_number m (copy_records rs) ≡ leaf (number (negated (unaries bs) m)) ∷ copy_records (drop (unaries bs) rs))
    → copy_number l (copy_record r (copy_records rs)) ≡ leaf (number (negated (unaries bs) (negate l))) ∷ copy_records (drop (unaries bs) rs)
unfolding read_record
unary-taken l b bs r rs seven (t, e, more) next =
    let read : got r t ≡ got (wrapper unary) bs = e ∙ ap (λ (x : ℕ). read_record (x ∷ bs)) seven in
    let kind : r ≡ wrapper unary = cc in
    let rest : t ≡ bs = cc in
    ap (λ (x : Record). copy_number l (copy_record x (copy_records rs))) kind ∙ next (negate l) (subst (λ (x : List ℕ). ReadsTo x rs) rest more)

unary-left : (l : Literal) (b : ℕ) (bs : List ℕ) (r : Record) (rs : List Record) → T (all is_byte (b ∷ bs)) → eqb b 7 ≡ false → ReadsTo (b ∷ bs) (r ∷ rs)
    → copy_number l (copy_record r (copy_records rs)) ≡ leaf (number l) ∷ copy_record r (copy_records rs)
unary-left l b bs r rs h q g =
    copy_number-alone l (copy_record r (copy_records rs))
    (copy_record-first 7 r (copy_records rs) (sym (first_is-kind 7 (b ∷ bs) (r ∷ rs) h g) ∙ q) (λ o is. copy_offset-first o 7 refl refl (copy_records rs)))

pub copy_number-unaries : (s : List ℕ) (l : Literal) (rs : List Record) → T (all is_byte s) → ReadsTo s rs
    → copy_number l (copy_records rs) ≡ leaf (number (negated (unaries s) l)) ∷ copy_records (drop (unaries s) rs)
copy_number-unaries [] l [] h g = refl
copy_number-unaries [] l (r ∷ rs) h g = nothing_read r rs g
copy_number-unaries (b ∷ bs) l [] h g = absurd (let z : ◌≡◌ {A = ℕ} 0 1 = cc in omega arith)
copy_number-unaries (b ∷ bs) l (r ∷ rs) h g = by (eqb b 7) refl (copy_number-unaries bs)
  where
    by : (c : Bool) → eqb b 7 ≡ c
        → ((m : Literal) (ms : List Record) → T (all is_byte bs) → ReadsTo bs ms
        → copy_number m (copy_records ms)
        ≡ leaf (number (negated (unaries bs) m)) ∷ copy_records (drop (unaries bs) ms))
        → copy_number l (copy_record r (copy_records rs))
        ≡ leaf (number (negated (pick c (suc (unaries bs)) 0) l))
        ∷ copy_records (drop (pick c (suc (unaries bs)) 0) (r ∷ rs))
    by true q next = unary-taken l b bs r rs (eqb-true b 7 q) g (λ m more. next m rs (right_of (is_byte b) (all is_byte bs) h) more)
    by false q next = unary-left l b bs r rs h q g

-- ## The copy of a record and those after it

-- all but an offset right before an @
pub copy_record-one : (r : Record) (t : List ℕ) (rs : List Record) → T (all is_byte t) → ReadsTo t rs
    → Walks (r ∷ rs) → (eqb (record_kind r) 6 && first_is 5 t) ≡ false
    → copy_record r (copy_records rs) ≡ copied r t ∷ copy_records (drop (absorbed r t) rs)
copy_record-one (leaf (number l)) t rs h g w q = copy_number-unaries t l rs h g
copy_record-one (leaf (string x)) t rs h g w q = refl
copy_record-one (leaf (selector s)) t rs h g w q = refl
copy_record-one (wrapper (range n)) t rs h g w q = refl
copy_record-one (wrapper (subquery r s)) t rs h g w q = refl
copy_record-one (wrapper (at a)) t rs h g w q = refl
copy_record-one (wrapper (offset o)) t rs h g w q = offset-alone o rs w (sym (first_is-kind 5 t rs h g) ∙ q)
copy_record-one (wrapper unary) t rs h g w q = refl
copy_record-one (wrapper paren) t rs h g w q = refl
copy_record-one (binary c m) t rs h g w q = refl
copy_record-one (aggregate c m n) t rs h g w q = refl
copy_record-one (call f n) t rs h g w q = refl

-- in bytes there are as many of any record
pub copy_record-bytes : (r : Record) (t : List ℕ) (rs : List Record) → T (all is_byte t) → ReadsTo t rs
    → length (write_all write_record (copy_record r (copy_records rs)))
    ≡ length (write_record (copied r t)) + length (write_all write_record (copy_records (drop (absorbed r t) rs)))
copy_record-bytes (leaf (number l)) t rs h g =
    ap (λ (qs : List Record). length (write_all write_record qs)) (copy_number-unaries t l rs h g)
    ∙ length-append (write_record (copied (leaf (number l)) t)) (write_all write_record (copy_records (drop (unaries t) rs)))
copy_record-bytes (leaf (string x)) t rs h g = length-append (write_record (leaf (string x))) (write_all write_record (copy_records rs))
copy_record-bytes (leaf (selector s)) t rs h g = length-append (write_record (leaf (selector s))) (write_all write_record (copy_records rs))
copy_record-bytes (wrapper (range n)) t rs h g = length-append (write_record (wrapper (range n))) (write_all write_record (copy_records rs))
copy_record-bytes (wrapper (subquery r s)) t rs h g = length-append (write_record (wrapper (subquery r s))) (write_all write_record (copy_records rs))
copy_record-bytes (wrapper (at a)) t rs h g = length-append (write_record (wrapper (at a))) (write_all write_record (copy_records rs))
copy_record-bytes (wrapper (offset o)) t rs h g = copy_offset-bytes o (copy_records rs)
copy_record-bytes (wrapper unary) t rs h g = length-append (write_record (wrapper unary)) (write_all write_record (copy_records rs))
copy_record-bytes (wrapper paren) t rs h g = length-append (write_record (wrapper paren)) (write_all write_record (copy_records rs))
copy_record-bytes (binary c m) t rs h g = length-append (write_record (binary c (checked_modifier c m))) (write_all write_record (copy_records rs))
copy_record-bytes (aggregate c m n) t rs h g = length-append (write_record (aggregate c m n)) (write_all write_record (copy_records rs))
copy_record-bytes (call f n) t rs h g = length-append (write_record (call f n)) (write_all write_record (copy_records rs))
