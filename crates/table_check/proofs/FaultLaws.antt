-- The fault of the record at a position, by its bytes: the first is 11 for a call and for nothing else, then come the
-- name, which is a text, and the signature. Assumes nothing.
use Prim.Native.Nat.{ℕ, ◌+◌, ◌<◌}
use mathlib.Core.Path.{◌≡◌, refl, sym, ap, ◌∙◌, subst}
use mathlib.Core.List.{List, ◌++◌}
use mathlib.Core.Option.{none}
use native.Mathlib.Omega.{arith}
use lib.ListN.{length, get_or, drop}
use lib.Seq.{get_or-drop}
use lib.Dec.{T}
use mir.Syntax.{w8}
use mir.Val.{Fits}
use Rattle.page.specs.Bytes.{all}
use Rattle.page.specs.Limits.{text_limit, function_name_limit}
use Rattle.page.specs.Read.{Read, refused, got, and_then, ◌>>=◌, return, reader_at}
use Rattle.page.specs.Text.{Text, is_text, is_label, read_any_text, read_function_name, read_list, read_count, write_text}
use Rattle.page.specs.Answers.{span_on}
use Rattle.page.specs.Listed.{Readable}
use Rattle.page.specs.declared.text.Span.{Span}
use Rattle.page.proofs.NumberLaws.{Written, is_byte, known_bytes}
use Rattle.page.proofs.ReaderLaws.{text-law}
use Rattle.page.proofs.ReadBackLaws.{read_text-back, read_text-gives}
use Rattle.page.proofs.StoredLaws.{not-refused, Chosen, choice-stored}
use Rattle.page.proofs.WellFormedLaws.{label-text}
use Rattle.float.proofs.ExactLaws.{of-got}
use Rattle.records.specs.Kind.{Kind}
use Rattle.records.specs.Field.{read_kind}
use Rattle.records.specs.Signature.{Variadic, Function, read_variadic, read_signature}
use Rattle.records.specs.Record.{Record, leaf, wrapper, binary, aggregate, call, record_forms, read_call, read_record, write_record}
use Rattle.records.proofs.RecordLaws.{record-law}
use Rattle.functions.specs.Answers.{Holds}
use Rattle.functions.specs.declared.form.Table.{Table}
use Rattle.functions.specs.Lookup.{signature_fault}
use Rattle.functions.specs.Answers.{fault_meant, Compares}
use Rattle.functions.specs.declared.carried.Carried.{Carried}

-- ## A call, part by part

-- the name of a signature that is read is the one that stands before it
signature-name : (n : Text) (u : List ℕ) (f : Function) (v : List ℕ) → got f v ≡ read_signature n u → f.name ≡ n
signature-name n u f v = by (read_list read_kind u)
  where
    by_kind : (ks : List Kind) (x : Variadic) (m : Read Kind)
        → got f v ≡ and_then m (λ k. return (record { name = n; arg_types = ks; variadic = x; return_type = k })) → f.name ≡ n
    by_kind ks x (refused g) e = not-refused e
    by_kind ks x (got k w) e =
        let same : f ≡ record { name = n; arg_types = ks; variadic = x; return_type = k } = cc in
        ap (λ (g : Function). g.name) same

    by-extra : (ks : List Kind) (m : Read Variadic)
        → got f v ≡ and_then m (λ x. read_kind >>= λ k. return (record { name = n; arg_types = ks; variadic = x; return_type = k })) → f.name ≡ n
    by-extra ks (refused g) e = not-refused e
    by-extra ks (got x w) e = by_kind ks x (read_kind w) e

    by : (m : Read (List Kind)) → got f v
        ≡ and_then m (λ ks. read_variadic >>= λ x. read_kind >>= λ k. return (record { name = n; arg_types = ks; variadic = x; return_type = k }))
        → f.name ≡ n
    by (refused g) e = not-refused e
    by (got ks w) e = by-extra ks (read_variadic w) e

-- what a call is made of
pub record CallRead (s : List ℕ) (item : Record) : Type 0 where
  pub function : Function
  pub count : ℕ
  pub is_call : item ≡ call function count
  pub behind : List ℕ
  pub named : got function.name behind ≡ read_function_name s
  pub rest : List ℕ
  pub signed : got function rest ≡ read_signature function.name behind

call-read : (s : List ℕ) (item : Record) (rest : List ℕ) → got item rest ≡ read_call s → CallRead s item
call-read s item rest = by_name (read_function_name s) refl
  where
    by_count : (t : Text) (u : List ℕ) → got t u ≡ read_function_name s → (f : Function) (v : List ℕ) → got f v ≡ read_signature t u
        → (m : Read ℕ) → got item rest ≡ and_then m (λ n. return (call f n)) → CallRead s item
    by_count t u named f v signed (refused g) e = not-refused e
    by_count t u named f v signed (got n w) e =
        let name : f.name ≡ t = signature-name t u f v signed in
        record {
          function = f;
          count = n;
          is_call = cc;
          behind = u;
          named = ap (λ (x : Text). got x u) name ∙ named;
          rest = v;
          signed = signed ∙ ap (λ (x : Text). read_signature x u) (sym name);
        }

    by-signature : (t : Text) (u : List ℕ) → got t u ≡ read_function_name s → (m : Read Function) → m ≡ read_signature t u
        → got item rest ≡ and_then m (λ f. read_count >>= λ n. return (call f n)) → CallRead s item
    by-signature t u named (refused g) is e = not-refused e
    by-signature t u named (got f v) is e = by_count t u named f v is (read_count v) e

    by_name : (m : Read Text) → m ≡ read_function_name s
        → got item rest ≡ and_then (and_then m read_signature) (λ f. read_count >>= λ n. return (call f n)) → CallRead s item
    by_name (refused g) is e = not-refused e
    by_name (got t u) is e = by-signature t u is (read_signature t u) refl e

-- ## On a page

module _ (page : List ℕ) (at : ℕ) (fits : (i : ℕ) → Fits w8 (get_or page i 0)) where
  bytes-from : (i : ℕ) → T (all is_byte (drop i page))
  bytes-from i = known_bytes (drop i page) (λ k. rw (get_or-drop i page k 0) (fits (i + k)))

  -- a call begins with 11
  call-first : (f : Function) (n : ℕ) (rest : List ℕ) → got (call f n) rest ≡ read_record (drop at page) → get_or page at 0 ≡ 11
  unfolding write_record
  call-first f n rest e =
      let written : drop at page ≡ write_record (call f n) ++ rest =
      subst (Written write_record (drop at page)) (sym e) (record-law (drop at page) (bytes-from at)) in
      let zero-on : at + 0 ≡ at = omega arith in
      ap (λ (k : ℕ). get_or page k 0) (sym zero-on) ∙ sym (get_or-drop at page 0 0) ∙ ap (λ (s : List ℕ). get_or s 0 0) written

  pub other-fault : (table : List Function) (item : Record) (rest : List ℕ) → (get_or page at 0 ≡ 11 → ⊥)
      → got item rest ≡ read_record (drop at page) → none ≡ signature_fault table item
  other-fault table (leaf l) rest other e = refl
  other-fault table (wrapper w) rest other e = refl
  other-fault table (binary c m) rest other e = refl
  other-fault table (aggregate c m n) rest other e = refl
  other-fault table (call f n) rest other e = absurd (other (call-first f n rest e))

  module _ (readable : Readable read_record (drop at page)) where
    chosen : Chosen record_forms page at
    unfolding read_record
    chosen = choice-stored record_forms page at (omega arith) readable

    pub record-inside : at < length page
    record-inside = chosen.inside

    module _ (is : get_or page at 0 ≡ 11) where
      reads-call : read_record (drop at page) ≡ read_call (drop (at + 1) page)
      unfolding read_record
      reads-call = chosen.is ∙ ap (λ (k : ℕ). reader_at record_forms k (drop (at + 1) page)) is

      read_here : CallRead (drop (at + 1) page) readable.value
      read_here = call-read (drop (at + 1) page) readable.value readable.rest (readable.reads ∙ reads-call)

      -- a function name is a text like any other
      any-text : {t : Text} {u : List ℕ} → got t u ≡ read_function_name (drop (at + 1) page) → got t u ≡ read_any_text (drop (at + 1) page)
      any-text {t} {u} e =
          let written : drop (at + 1) page ≡ write_text t ++ u =
          subst (Written write_text (drop (at + 1) page)) (sym e) (text-law function_name_limit is_label (drop (at + 1) page) (bytes-from (at + 1))) in
          let allowed = of-got _ (read_function_name (drop (at + 1) page)) e ((read_text-gives function_name_limit is_label).gives (drop (at + 1) page)) in
          let text = label-text t allowed.1 in
          sym (ap read_any_text written ∙ (read_text-back text_limit is_text (omega arith) t (omega (arith, allowed.0), text.passes)).reads u)

      pub name-readable : Readable read_any_text (drop (at + 1) page)
      name-readable = record { value = read_here.function.name; rest = read_here.behind; reads = any-text read_here.named }

      module _ (name : Span) (named : got (span_on page name) (drop name.end page) ≡ read_any_text (drop (at + 1) page)) where
        abbrev f : Function
        f = read_here.function

        span-is : got f.name read_here.behind ≡ got (span_on page name) (drop name.end page)
        span-is = any-text read_here.named ∙ sym named

        name-is : f.name ≡ span_on page name
        name-is = first span-is
          where
            first : got f.name read_here.behind ≡ got (span_on page name) (drop name.end page) → f.name ≡ span_on page name
            first e = cc

        signed-here : got f read_here.rest ≡ read_signature f.name (drop name.end page)
        signed-here = read_here.signed ∙ ap (read_signature f.name) (second span-is)
          where
            second : got f.name read_here.behind ≡ got (span_on page name) (drop name.end page) → read_here.behind ≡ drop name.end page
            second e = cc

        -- the fault of the call is that of its name and of what stands behind it
        pub call-fault : (lent : Table) (r : Carried) → Compares page name lent r
            → (table : List Function) → Holds lent table → (item : Record) (rest : List ℕ)
            → got item rest ≡ read_record (drop at page) → fault_meant r ≡ signature_fault table item
        call-fault lent r compares table formed item rest reads =
            compares table formed f read_here.rest name-is signed-here
            ∙ ap (signature_fault table) (sym (value (reads ∙ sym readable.reads) ∙ read_here.is_call))
          where
            value : got item rest ≡ got readable.value readable.rest → item ≡ readable.value
            value e = cc
