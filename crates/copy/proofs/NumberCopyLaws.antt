-- A number in the copy: its second byte is its form, which each unary record after it negates, and the rest of it
-- stays. Assumes nothing.
use Prim.Native.Nat.{ℕ, suc, ◌+◌, ◌-◌, ◌≤◌}
use mathlib.Core.Path.{◌≡◌, refl, sym, ap, ◌∙◌}
use mathlib.Core.Bool.{Bool, true, false}
use mathlib.Core.List.{List, [], ◌∷◌, ◌++◌}
use native.Mathlib.Omega.{arith}
use lib.ListN.{length, take, drop, get_or, set}
use lib.Seq.{get_or-drop}
use lib.Dec.{eqb}
use Rattle.std.proofs.lemmas.List.{length-set}
use Rattle.base.proofs.Cases.{by-eq}
use Rattle.page.specs.Bytes.{pick}
use Rattle.page.specs.Number.{write_number}
use Rattle.records.specs.Literal.{Literal, whole, fraction, infinite, plus, minus, nan, negate, write_literal}
use Rattle.records.specs.Record.{number, string, selector, range, subquery, at, offset, unary, paren, Record, leaf}
use Rattle.records.specs.Record.{wrapper, binary, aggregate, call, write_record, record_kind}
use Rattle.copy.specs.RecordCopy.{unaries, negated, copied, record_copy, absorbed_of, absorbed, negated_form, form_after}
use Rattle.copy.specs.Span.{Spans}
use Rattle.copy.proofs.SpanLaws.{part-is, part-ends, part_length, span-written, span-kind, span-copy, span-absorbed, same_length, other-copy}

number-kind : (r : Record) → record_kind r ≡ 0 → (l : Literal) × (r ≡ leaf (number l))
number-kind (leaf (number l)) h = (l, refl)
number-kind (leaf (string t)) h = absurd (omega arith)
number-kind (leaf (selector s)) h = absurd (omega arith)
number-kind (wrapper (range n)) h = absurd (omega arith)
number-kind (wrapper (subquery r s)) h = absurd (omega arith)
number-kind (wrapper (at a)) h = absurd (omega arith)
number-kind (wrapper (offset o)) h = absurd (omega arith)
number-kind (wrapper unary) h = absurd (omega arith)
number-kind (wrapper paren) h = absurd (omega arith)
number-kind (binary c m) h = absurd (omega arith)
number-kind (aggregate c m n) h = absurd (omega arith)
number-kind (call f n) h = absurd (omega arith)

-- ## Numbers: a form and, where it is a whole number or a fraction, its magnitude

abbrev form_of : Literal → ℕ
form_of (plus (whole n)) = 0
form_of (minus (whole n)) = 1
form_of nan = 2
form_of (plus infinite) = 3
form_of (minus infinite) = 4
form_of (plus (fraction d p)) = 5
form_of (minus (fraction d p)) = 6

abbrev magnitude_of : Literal → List ℕ
magnitude_of (plus (whole n)) = write_number n
magnitude_of (minus (whole n)) = write_number n
magnitude_of nan = []
magnitude_of (plus infinite) = []
magnitude_of (minus infinite) = []
magnitude_of (plus (fraction d p)) = write_number d ++ write_number p
magnitude_of (minus (fraction d p)) = write_number d ++ write_number p

literal-written : (l : Literal) → write_literal l ≡ form_of l ∷ magnitude_of l
literal-written (plus (whole n)) = refl
literal-written (minus (whole n)) = refl
literal-written nan = refl
literal-written (plus infinite) = refl
literal-written (minus infinite) = refl
literal-written (plus (fraction d p)) = refl
literal-written (minus (fraction d p)) = refl

form-negated : (l : Literal) → form_of (negate l) ≡ negated_form (form_of l)
form-negated (plus (whole n)) = refl
form-negated (minus (whole n)) = refl
form-negated nan = refl
form-negated (plus infinite) = refl
form-negated (minus infinite) = refl
form-negated (plus (fraction d p)) = refl
form-negated (minus (fraction d p)) = refl

magnitude-negated : (l : Literal) → magnitude_of (negate l) ≡ magnitude_of l
magnitude-negated (plus (whole n)) = refl
magnitude-negated (minus (whole n)) = refl
magnitude-negated nan = refl
magnitude-negated (plus infinite) = refl
magnitude-negated (minus infinite) = refl
magnitude-negated (plus (fraction d p)) = refl
magnitude-negated (minus (fraction d p)) = refl

number_behind : (s : List ℕ) (l : Literal) → write_literal (negated (unaries s) l) ≡ form_after (form_of l) s ∷ magnitude_of l
number_behind [] l = literal-written l
number_behind (b ∷ bs) l = by (eqb b 7) (number_behind bs (negate l))
  where
    by : (c : Bool) → write_literal (negated (unaries bs) (negate l)) ≡ form_after (form_of (negate l)) bs ∷ magnitude_of (negate l)
        → write_literal (negated (pick c (suc (unaries bs)) 0) l) ≡ pick c (form_after (negated_form (form_of l)) bs) (form_of l) ∷ magnitude_of l
    by true next = rw (form-negated l, magnitude-negated l) at next
    by false next = literal-written l

-- ## The record's copy

module _ {page : List ℕ} {start next : ℕ} (span : Spans page start next) where
  -- a number, and the unary records after it
  number_at : get_or page start 0 ≡ 0 → (l : Literal) × (span.item ≡ leaf (number l))
  number_at h = number-kind span.item (sym (span-kind span) ∙ h)

  number-written : (l : Literal) → span.item ≡ leaf (number l) → drop start page ≡ (0 ∷ form_of l ∷ magnitude_of l) ++ drop next page
  unfolding write_record
  number-written l e =
      (span-written span) ∙ ap (λ (r : Record). write_record r ++ drop next page) e
      ∙ ap {B = List ℕ} (λ (s : List ℕ). (0 ∷ s) ++ drop next page) (literal-written l)

  pub number-absorbed : get_or page start 0 ≡ 0 → absorbed_of (drop start page) ≡ unaries (drop next page)
  number-absorbed h = (span-absorbed span) ∙ ap (λ (r : Record). absorbed r (drop next page)) (number_at h).1

  pub number-wide : get_or page start 0 ≡ 0 → start + 2 ≤ next
  number-wide h =
      let l = (number_at h).0 in
      omega (arith, part-ends page (0 ∷ form_of l ∷ magnitude_of l) start next span.inside (omega arith) (number-written l (number_at h).1))

  pub number-copy : get_or page start 0 ≡ 0
      → record_copy (drop start page) ≡ set (take (next - start) (drop start page)) 1 (form_after (get_or page (start + 1) 0) (drop next page))
  unfolding write_record
  number-copy h =
      let l = (number_at h).0 in
      let bytes-are = number-written l (number_at h).1 in
      let form : get_or page (start + 1) 0 ≡ form_of l = sym (get_or-drop start page 1 0) ∙ ap (λ (s : List ℕ). get_or s 1 0) bytes-are in
      let part : take (next - start) (drop start page) ≡ 0 ∷ form_of l ∷ magnitude_of l =
      part-is page (0 ∷ form_of l ∷ magnitude_of l) start next span.inside bytes-are in
      (span-copy span) ∙ ap (λ (r : Record). write_record (copied r (drop next page))) (number_at h).1
      ∙ ap {B = List ℕ} (λ s. 0 ∷ s) (number_behind (drop next page) l)
      ∙ rw (form, part) refl

  pub number-length : get_or page start 0 ≡ 0 → length (record_copy (drop start page)) ≡ next - start
  number-length h = ap length (number-copy h) ∙ length-set _ _ _ ∙ part_length page start next span.inside

  -- all but binaries keep their length
  pub unchanged-length : (get_or page start 0 ≡ 9 → ⊥) → length (record_copy (drop start page)) ≡ next - start
  unchanged-length h = by-eq (get_or page start 0) 0 number-length (λ g. same_length span (other-copy span g h))
