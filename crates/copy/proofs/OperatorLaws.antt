-- The copy of a binary record as parts of the page: a set operator's absent modifier is written out, and of one that is
-- present the form of its cardinality alone changes. It stands where the matching has been read. Assumes nothing.
use Prim.Native.Nat.{ℕ, ◌+◌, ◌-◌, ◌≤◌, ◌<◌}
use mathlib.Core.Path.{◌≡◌, refl, sym, ap, ap₂, ◌∙◌, subst}
use mathlib.Core.Bool.{Bool, true, false}
use mathlib.Core.List.{List, [], ◌∷◌, ◌++◌}
use mathlib.Core.Option.{Option, none, some}
use native.Mathlib.Nat.{add-zero}
use native.Mathlib.Omega.{arith}
use lib.ListN.{length, take, drop, get_or, length-drop, length-append}
use lib.Seq.{drop-drop, get_or-drop}
use lib.Dec.{T}
use Rattle.base.specs.Splice.{join}
use Rattle.page.specs.Bytes.{pick}
use Rattle.page.specs.Read.{FieldFault, refused, got}
use Rattle.page.proofs.ReaderLaws.{append_assoc, append-nil}
use Rattle.page.proofs.ReadBackLaws.{Got}
use Rattle.records.specs.Code.{is_code, is_set_operator}
use Rattle.records.specs.Field.{write_flag, write_option}
use Rattle.records.specs.Modifier.{LabelModifier, BinModifier, read_label_modifier, write_label_modifier, write_bin_modifier}
use Rattle.records.specs.Record.{number, string, selector, range, subquery, at, offset, unary, paren, Record, leaf}
use Rattle.records.specs.Record.{wrapper, binary, aggregate, call, write_record, record_kind}
use Rattle.records.specs.Allowed.{IsOptionOf, IsBinModifier, IsAllowed}
use Rattle.records.proofs.AllowedLaws.{read_record-gives}
use Rattle.records.proofs.ReadBackLaws.{read_label_modifier-back}
use Rattle.ast.specs.CheckAst.{set_operator_modifier}
use Rattle.copy.specs.RecordCopy.{copied, record_copy, set_cardinality, set_modifier}
use Rattle.copy.specs.Span.{Spans, SetOperator, IsPresent, CardinalityAt}
use Rattle.copy.proofs.SpanLaws.{part-is, part-ends, span-written, span-kind, span-copy, same_copy}
use Rattle.copy.proofs.ModifierLaws.{form_of, before, after, binary-written, modifier-written, modifier-set, modifier-absent, modifier-present, flag-byte}

binary-kind : (r : Record) → record_kind r ≡ 9 → (c : ℕ) × (m : Option BinModifier) × (r ≡ binary c m)
binary-kind (leaf (number l)) h = absurd (omega arith)
binary-kind (leaf (string t)) h = absurd (omega arith)
binary-kind (leaf (selector s)) h = absurd (omega arith)
binary-kind (wrapper (range n)) h = absurd (omega arith)
binary-kind (wrapper (subquery r s)) h = absurd (omega arith)
binary-kind (wrapper (at a)) h = absurd (omega arith)
binary-kind (wrapper (offset o)) h = absurd (omega arith)
binary-kind (wrapper unary) h = absurd (omega arith)
binary-kind (wrapper paren) h = absurd (omega arith)
binary-kind (binary c m) h = (c, m, refl)
binary-kind (aggregate c m n) h = absurd (omega arith)
binary-kind (call f n) h = absurd (omega arith)

-- ## The record's copy

module _ (page : List ℕ) (start next : ℕ) (span : Spans page start next) where
  module _ (c : ℕ) (m : Option BinModifier) (is : span.item ≡ binary c m) where
    allowed : T (is_code c) × IsOptionOf IsBinModifier m
    allowed = subst IsAllowed is (subst (Got IsAllowed) (sym span.reads) (read_record-gives.gives (drop start page)))

    written : drop start page ≡ (9 ∷ c ∷ write_option write_bin_modifier m) ++ drop next page
    written =
        span-written span
        ∙ ap (λ (s : List ℕ). s ++ drop next page) (ap write_record is ∙ binary-written c allowed.0 m)

    second-byte : get_or page (start + 1) 0 ≡ c
    second-byte = sym (get_or-drop start page 1 0) ∙ ap (λ (s : List ℕ). get_or s 1 0) written

    third-byte : get_or page (start + 2) 0 ≡ get_or (write_option write_bin_modifier m ++ drop next page) 0 0
    third-byte = sym (get_or-drop start page 2 0) ∙ ap (λ (s : List ℕ). get_or s 2 0) written

    copy-set : is_set_operator (get_or page (start + 1) 0) ≡ true → record_copy (drop start page) ≡ write_record (binary c (some (set_operator_modifier m)))
    copy-set h =
        span-copy span ∙ ap (λ (r : Record). write_record (copied r (drop next page))) is
        ∙ ap (λ (b : Bool). write_record (binary c (pick b (some (set_operator_modifier m)) m))) (ap is_set_operator (sym second-byte) ∙ h)

    copy-plain : is_set_operator (get_or page (start + 1) 0) ≡ false → copied span.item (drop next page) ≡ span.item
    copy-plain h =
        ap (λ (r : Record). copied r (drop next page)) is
        ∙ ap (λ (b : Bool). binary c (pick b (some (set_operator_modifier m)) m)) (ap is_set_operator (sym second-byte) ∙ h) ∙ sym is

  module _ (c : ℕ) (is : span.item ≡ binary c none) where
    none_written : is_set_operator (get_or page (start + 1) 0) ≡ true → record_copy (drop start page) ≡ 9 ∷ c ∷ set_modifier
    none_written h = copy-set c none is h ∙ binary-written c (allowed c none is).0 (some (set_operator_modifier none))

    none-front : take (start + 2 - start) (drop start page) ≡ 9 ∷ c ∷ []
    none-front = ap₂ take (two start) (written c none is)
      where
        two : (n : ℕ) → n + 2 - n ≡ 2
        two n = omega arith

  module _ (c : ℕ) (m : BinModifier) (is : span.item ≡ binary c (some m)) where
    some_written : drop start page ≡ before c m ++ ((form_of m.card ∷ after m) ++ drop next page)
    some_written =
        span-written span
        ∙ ap (λ (s : List ℕ). s ++ drop next page) (ap write_record is ∙ modifier-written c (allowed c (some m) is).0 m)
        ∙ append_assoc (before c m) (form_of m.card ∷ after m) (drop next page)

    some-matching : read_label_modifier (drop (start + 4) page) ≡ got m.matching ((form_of m.card ∷ after m) ++ drop next page)
    some-matching =
        ap read_label_modifier (sym (drop-drop 4 start page) ∙ ap (drop 4) some_written ∙ four (flag-byte m.return_bool))
        ∙ (read_label_modifier-back m.matching (allowed c (some m) is).1.0).reads ((form_of m.card ∷ after m) ++ drop next page)
      where
        four : (f : ℕ) × (write_flag m.return_bool ≡ f ∷ [])
            → drop 4 (before c m ++ ((form_of m.card ∷ after m) ++ drop next page))
            ≡ write_label_modifier m.matching ++ ((form_of m.card ∷ after m) ++ drop next page)
        four (f, e) = rw e

    module _ (cut : ℕ) (tail : drop cut page ≡ (form_of m.card ∷ after m) ++ drop next page) where
      cut_inside : cut < length page
      cut_inside = omega (arith, length-drop cut page, ap length tail)

      cut-front : take (cut - start) (drop start page) ≡ before c m
      cut-front = part-is page (before c m) start cut (omega (arith, cut_inside)) (some_written ∙ ap (λ (s : List ℕ). before c m ++ s) (sym tail))

      cut-start : start + length (before c m) ≡ cut
      cut-start = part-ends page (before c m) start cut (omega (arith, cut_inside)) (omega arith)
          (some_written ∙ ap (λ (s : List ℕ). before c m ++ s) (sym tail))

      cut-form : get_or page cut 0 ≡ form_of m.card
      cut-form = ap (λ (k : ℕ). get_or page k 0) (sym (add-zero cut)) ∙ sym (get_or-drop cut page 0 0) ∙ ap (λ (s : List ℕ). get_or s 0 0) tail

      cut-rear : take (next - (cut + 1)) (drop (cut + 1) page) ≡ after m
      cut-rear = part-is page (after m) (cut + 1) next span.inside (sym (drop-drop 1 cut page) ∙ ap (drop 1) tail)

      cut-end : cut + 1 ≤ next
      cut-end = omega (arith, part-ends page (form_of m.card ∷ after m) cut next span.inside (omega arith) tail)

      cut-copy : is_set_operator (get_or page (start + 1) 0) ≡ true
          → record_copy (drop start page)
          ≡ join
          (take (cut - start) (drop start page) ∷ (set_cardinality (get_or page cut 0) ∷ [])
          ∷ take (next - (cut + 1)) (drop (cut + 1) page) ∷ [])
      unfolding join
      cut-copy h =
          copy-set c (some m) is h ∙ modifier-set c (allowed c (some m) is).0 m
          ∙ rw (cut-front, cut-form, cut-rear, append-nil (after m))

    some_end : start + (length (before c m) + length (form_of m.card ∷ after m)) ≡ next
    some_end =
        ap (λ (k : ℕ). start + k) (sym (length-append (before c m) (form_of m.card ∷ after m)))
        ∙ part-ends page (before c m ++ (form_of m.card ∷ after m)) start next span.inside (omega arith)
        (some_written ∙ sym (append_assoc (before c m) (form_of m.card ∷ after m) (drop next page)))

    some-length : is_set_operator (get_or page (start + 1) 0) ≡ true → length (record_copy (drop start page)) ≡ next - start
    some-length h =
        ap length (copy-set c (some m) is h ∙ modifier-set c (allowed c (some m) is).0 m)
        ∙ length-append (before c m) (set_cardinality (form_of m.card) ∷ after m)
        ∙ omega (arith, some_end)

module _ {page : List ℕ} {start next : ℕ} (span : Spans page start next) (kind : get_or page start 0 ≡ 9) where
  operator-at : (c : ℕ) × (m : Option BinModifier) × (span.item ≡ binary c m)
  operator-at = binary-kind span.item (sym (span-kind span) ∙ kind)

  -- kind, code and that there is a modifier
  pub operator-wide : start + 3 ≤ next
  operator-wide = wide operator-at.1 (written page start next span operator-at.0 operator-at.1 operator-at.2)
    where
      wide : (m : Option BinModifier) → drop start page ≡ (9 ∷ operator-at.0 ∷ write_option write_bin_modifier m) ++ drop next page → start + 3 ≤ next
      wide none e = omega (arith, part-ends page (9 ∷ operator-at.0 ∷ write_option write_bin_modifier none) start next span.inside (omega arith) e)
      wide (some m) e = omega (arith, part-ends page (9 ∷ operator-at.0 ∷ write_option write_bin_modifier (some m)) start next span.inside (omega arith) e)

  -- no set operator: the page's own bytes
  pub plain_copy : is_set_operator (get_or page (start + 1) 0) ≡ false → record_copy (drop start page) ≡ take (next - start) (drop start page)
  plain_copy h = same_copy span (copy-plain page start next span operator-at.0 operator-at.1 operator-at.2 h)

  absent-at : get_or page (start + 2) 0 ≡ 0 → span.item ≡ binary operator-at.0 none
  absent-at h =
      let (c, m, is) = operator-at in
      is ∙ ap (binary c) (modifier-absent m (drop next page) (sym (third-byte page start next span c m is) ∙ h))

  present-at : IsPresent page start → (m : BinModifier) × (span.item ≡ binary operator-at.0 (some m))
  present-at h =
      let (c, m, is) = operator-at in
      let (k, e) = modifier-present m (drop next page) (λ z. h (third-byte page start next span c m is ∙ z)) in
      (k, is ∙ ap (binary c) e)

module _ {page : List ℕ} {start next : ℕ} (operator : SetOperator page start next) where
  abbrev code_at : ℕ
  code_at = (operator-at operator.span operator.kind).0

  -- without a modifier
  pub absent-copy : get_or page (start + 2) 0 ≡ 0 → record_copy (drop start page) ≡ join (take (start + 2 - start) (drop start page) ∷ set_modifier ∷ [])
  unfolding join
  absent-copy h =
      let none-at = absent-at operator.span operator.kind h in
      none_written page start next operator.span code_at none-at operator.set
      ∙ ap (λ (s : List ℕ). s ++ (set_modifier ++ [])) (sym (none-front page start next operator.span code_at none-at))

  pub absent-length : get_or page (start + 2) 0 ≡ 0 → length (record_copy (drop start page)) ≡ 8
  absent-length h = ap length (none_written page start next operator.span code_at (absent-at operator.span operator.kind h) operator.set)

  -- with one
  module _ (present : IsPresent page start) where
    modifier-at : (m : BinModifier) × (operator.span.item ≡ binary code_at (some m))
    modifier-at = present-at operator.span operator.kind present

    pub present-length : length (record_copy (drop start page)) ≡ next - start
    present-length = some-length page start next operator.span code_at modifier-at.0 modifier-at.1 operator.set

    pub present-wide : start + 4 ≤ next
    present-wide = omega (arith, some_end page start next operator.span code_at modifier-at.0 modifier-at.1)

    matching-at : read_label_modifier (drop (start + 4) page)
        ≡ got modifier-at.0.matching
        ((form_of modifier-at.0.card ∷ after modifier-at.0) ++ drop next page)
    matching-at = some-matching page start next operator.span code_at modifier-at.0 modifier-at.1

    pub present-cardinality : (cut : ℕ) {l : Option LabelModifier}
        → got l (drop cut page) ≡ read_label_modifier (drop (start + 4) page) → CardinalityAt page start next cut
    present-cardinality cut e =
        let (m, is) = modifier-at in
        let read = e ∙ matching-at in
        let tail : drop cut page ≡ (form_of m.card ∷ after m) ++ drop next page = cc in
        record {
          behind = omega (arith, cut-start page start next operator.span code_at m is cut tail);
          inside = cut-end page start next operator.span code_at m is cut tail;
          copy = cut-copy page start next operator.span code_at m is cut tail operator.set;
        }

    pub present-readable : {f : FieldFault} → refused f ≡ read_label_modifier (drop (start + 4) page) → ⊥
    present-readable e =
        let read = e ∙ matching-at in
        let z : ◌≡◌ {A = ℕ} 0 1 = cc in
        omega arith
