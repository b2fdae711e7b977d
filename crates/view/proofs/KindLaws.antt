-- The kind of a record is its first byte, for a number below 128 is one byte, and its fields stand after that byte:
-- each form of record gives records of its own number only.
use Prim.Native.Nat.{ℕ, zero, suc, ◌+◌, ◌*◌, ◌-◌, ◌≤◌, ◌<◌}
use native.Mathlib.Omega.{arith}
use mathlib.Core.Path.{◌≡◌, refl, sym, ap, ◌∙◌}
use mathlib.Core.List.{List, [], ◌∷◌}
use lib.ListN.{length, drop, get_or}
use lib.Seq.{drop-cons}
use lib.Dec.{leb}
use borrow.Author.Tests.{le-ltb}
use Rattle.base.proofs.Cases.{by-lt}
use Rattle.page.specs.Limits.{number_limit}
use Rattle.page.specs.Read.{FieldFault, bad_field, Read, refused, got, Reader, and_then, return, ensure, reader_at}
use Rattle.page.specs.Number.{with_group, read_groups, read_number}
use Rattle.page.specs.Text.{read_any_text, read_metric_name, read_count, read_list}
use Rattle.page.proofs.ReadBackLaws.{Got, Gives, gives_as, gives-any, gives-return, gives-ensure, gives-bind, gives-field}
use Rattle.page.proofs.FieldLaws.{past_end, one_byte, no-form}
use Rattle.records.specs.Literal.{read_literal}
use Rattle.records.specs.Field.{read_option}
use Rattle.records.specs.Matcher.{read_matcher}
use Rattle.records.specs.Modifier.{read_label_modifier, read_bin_modifier}
use Rattle.records.specs.Time.{read_at_modifier, read_offset}
use Rattle.records.specs.Signature.{read_function}
use Rattle.records.specs.Record.{number, string, selector, range, subquery, at, offset, unary, paren, Record, leaf}
use Rattle.records.specs.Record.{wrapper, binary, aggregate, call, read_code, record_forms, read_record, record_kind}
use Rattle.text.specs.LaidOut.{Reads}
use Rattle.view.specs.View.{Starts, KindAt}

-- ## Forms

-- the forms of these places give records of their places' numbers
abbrev EachKind : ℕ → List (Reader Record) → Type 0
EachKind k [] = Unit {0}
EachKind k (r ∷ rs) = Gives r (λ item. record_kind item ≡ k) × EachKind (suc k) rs

at-kind : (k : ℕ) (rs : List (Reader Record)) → EachKind k rs → (n : ℕ) → Gives (reader_at rs n) (λ item. record_kind item ≡ k + n)
at-kind k [] h n = record { gives = λ s. tt }
at-kind k (r ∷ rs) h zero = gives_as h.0 (λ item e. omega (arith, e))
at-kind k (r ∷ rs) h (suc n) = gives_as (at-kind (suc k) rs h.1 n) (λ item e. omega (arith, e))

each-kind : EachKind 0 record_forms
each-kind = (
  gives-field (λ l. leaf (number l)) (gives-any read_literal) (λ l h. refl),
  (
    gives-field (λ t. leaf (string t)) (gives-any read_any_text) (λ t h. refl),
    (
      gives-bind _ (gives-any read_metric_name)
          (λ n h. gives-field (λ ms. leaf (selector (record { name = n; matchers = ms })))
          (gives-any (read_list read_matcher)) (λ ms g. refl)),
      (
        gives-field (λ n. wrapper (range n)) (gives-any read_number) (λ n h. refl),
        (
          gives-bind _ (gives-any read_number) (λ n h. gives-field (λ t. wrapper (subquery n t)) (gives-any (read_option read_number)) (λ t g. refl)),
          (
            gives-field (λ a. wrapper (at a)) (gives-any read_at_modifier) (λ a h. refl),
            (
              gives-field (λ o. wrapper (offset o)) (gives-any read_offset) (λ o h. refl),
              (
                gives-return (wrapper unary) refl,
                (
                  gives-return (wrapper paren) refl,
                  (
                    gives-bind _ (gives-any read_code) (λ c h. gives-field (λ m. binary c m) (gives-any (read_option read_bin_modifier)) (λ m g. refl)),
                    (
                      gives-bind _ (gives-any read_code)
                          (λ c h. gives-bind _ (gives-any read_label_modifier)
                          (λ m g. gives-field (λ n. aggregate c m n) (gives-any read_count) (λ n f. refl))),
                      (
                        gives-bind _ (gives-any read_function) (λ f h. gives-field (λ n. call f n) (gives-any read_count) (λ n g. refl)),
                        tt,
                      ),
                    ),
                  ),
                ),
              ),
            ),
          ),
        ),
      ),
    ),
  ),
)

kind-given : (n : ℕ) (s : List ℕ) {item : Record} {rest : List ℕ} → got item rest ≡ reader_at record_forms n s → record_kind item ≡ n
kind-given n s e = let same = rw (← e) at ((at-kind 0 record_forms each-kind n).gives s) in omega (arith, same)

-- ## The first byte

never : {item : Record} {rest : List ℕ} {f : FieldFault} → got item rest ≡ refused f → ⊥
never h = let z : ◌≡◌ {A = ℕ} 0 1 = cc in omega arith

-- a number whose first byte has its high bit set is 128 or more
high : (page : List ℕ) (start : ℕ) → start < length page → 128 ≤ get_or page start 0 → Got (λ n. 128 ≤ n) (read_number (drop start page))
high page start inside h = rw (drop-cons page start 0 inside, le-ltb (get_or page start 0) 128 h) (by (get_or page start 0) (read_groups (drop (suc start) page)) h)
  where
    by : (b : ℕ) (m : Read ℕ) → 128 ≤ b → Got (λ n. 128 ≤ n) (and_then (with_group b m) (λ n. ensure (leb n number_limit) bad_field n))
    by b (refused f) k = tt
    by b (got zero rest) k = tt
    by b (got (suc v) rest) k = (gives-ensure {P = λ n. 128 ≤ n} (leb (b - 128 + 128 * suc v) number_limit) bad_field
        (b - 128 + 128 * suc v) (λ t. omega arith)).gives rest

module _ (page : List ℕ) (start : ℕ) {item : Record} {rest : List ℕ} (e : got item rest ≡ read_record (drop start page)) where
  pub start-inside : start < length page
  unfolding read_record
  start-inside = by-lt start (length page) (λ h. h)
      (λ h. absurd
      (never (e ∙ ap (λ (m : Read ℕ). and_then m (reader_at record_forms)) (sym (past_end page start number_limit h)))))

  low : get_or page start 0 < 128
  unfolding read_record
  low = by-lt (get_or page start 0) 128 (λ h. h) (λ h. absurd (by (read_number (drop start page)) (high page start start-inside h) e))
    where
      by : (m : Read ℕ) → Got (λ n. 128 ≤ n) m → got item rest ≡ and_then m (reader_at record_forms) → ⊥
      by (refused f) g k = never k
      by (got n t) g k = never (k ∙ sym (no-form record_forms n t (omega (arith, g))))

  behind-first : read_record (drop start page) ≡ reader_at record_forms (get_or page start 0) (drop (start + 1) page)
  unfolding read_record
  behind-first = ap (λ (m : Read ℕ). and_then m (reader_at record_forms)) (sym (one_byte page start number_limit start-inside (omega (arith, low)) low))

-- ## Records of the tables

pub reads_same : {page starts : List ℕ} {i : ℕ} {a b : Record} → Reads page starts i a → Reads page starts i b → a ≡ b
reads_same r s = same (r.reads ∙ sym s.reads)
  where
    same : {a b : Record} {t u : List ℕ} → got a t ≡ got b u → a ≡ b
    same h = cc

pub kind-same : {page starts : List ℕ} {i k : ℕ} {item : Record} → KindAt page starts i k → Reads page starts i item → record_kind item ≡ k
kind-same k r = ap record_kind (reads_same r k.reads) ∙ k.same

-- a record of the tables can be read
pub unreadable : {page starts : List ℕ} {i : ℕ} (f : FieldFault) → Starts page starts (suc i) → refused f ≡ read_record (drop (get_or starts i 0) page) → ⊥
unreadable {page} {starts} {i} f s e = never ((s.tables.entry i (omega arith)).reads ∙ sym e)

pub kind-first : {page starts : List ℕ} {i : ℕ} → Starts page starts (suc i) → KindAt page starts i (get_or page (get_or starts i 0) 0)
kind-first {page} {starts} {i} s =
    let e = s.tables.entry i (omega arith) in
    record {
      item = e.item;
      reads = record { rest = e.rest; reads = e.reads };
      same = kind-given _ _ (e.reads ∙ behind-first page (get_or starts i 0) e.reads);
    }

pub starts-inside : {page starts : List ℕ} {i : ℕ} → Starts page starts (suc i) → get_or starts i 0 < length page
starts-inside {page} {starts} {i} s = start-inside page (get_or starts i 0) (s.tables.entry i (omega arith)).reads

-- after the kind stand the fields
pub fields : {page starts : List ℕ} {i k : ℕ} → Starts page starts (suc i) → KindAt page starts i k
    → read_record (drop (get_or starts i 0) page) ≡ reader_at record_forms k (drop (get_or starts i 0 + 1) page)
fields {page} {starts} {i} {k} s at' =
    let same = sym (kind-same at' (kind-first s).reads) ∙ (kind-first s).same in
    behind-first page (get_or starts i 0) at'.reads.reads ∙ ap (λ (n : ℕ). reader_at record_forms n (drop (get_or starts i 0 + 1) page)) (sym same)

-- ## Fields

module _ {page starts : List ℕ} {i : ℕ} (s : Starts page starts (suc i)) where
  -- a field of a record of the tables can be read
  pub readable : {A C : Type 0} (m : Read A) (more : A → Reader Record) → read_record (drop (get_or starts i 0) page) ≡ and_then m more
      → ((a : A) (rest : List ℕ) → m ≡ got a rest → read_record (drop (get_or starts i 0) page) ≡ more a rest → C) → C
  readable (refused f) more e k = absurd (unreadable f s (sym e))
  readable (got a rest) more e k = k a rest refl e

  module _ {A : Type 0} {k : ℕ} (at' : KindAt page starts i k) (r : Reader A) where
    -- a record of one field
    pub one_field : (make : A → Record) → ((t : List ℕ) → reader_at record_forms k t ≡ and_then (r t) (λ a. return (make a)))
        → {a : A} {rest : List ℕ} → got a rest ≡ r (drop (get_or starts i 0 + 1) page) → Reads page starts i (make a)
    one_field make form e = record { rest = _; reads = sym (fields s at' ∙ form _ ∙ ap (λ (m : Read A). and_then m (λ a. return (make a))) (sym e)) }

    -- the record's first field
    pub first_field : (more : A → Reader Record) → ((t : List ℕ) → reader_at record_forms k t ≡ and_then (r t) more)
        → {a : A} {rest : List ℕ} → got a rest ≡ r (drop (get_or starts i 0 + 1) page) → read_record (drop (get_or starts i 0) page) ≡ more a rest
    first_field more form e = fields s at' ∙ form _ ∙ ap (λ (m : Read A). and_then m more) (sym e)

    pub no_field : (more : A → Reader Record) → ((t : List ℕ) → reader_at record_forms k t ≡ and_then (r t) more)
        → {f : FieldFault} → refused f ≡ r (drop (get_or starts i 0 + 1) page) → ⊥
    no_field more form e = unreadable _ s (sym (fields s at' ∙ form _ ∙ ap (λ (m : Read A). and_then m more) (sym e)))
