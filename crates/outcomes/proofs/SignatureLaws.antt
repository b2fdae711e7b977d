-- The call that writes a signature: what it does to the buffer and which outcomes it has, for any table; that 8 bytes
-- hold every signature of the function table; and that a call record which is built from one is read as a call of the
-- table's function. What is asked of every row of the table is computed. Assumes nothing.
use Prim.Native.Nat.{ℕ, ◌≤◌}
use mathlib.Core.Path.{◌≡◌, refl, sym, ap, ◌∙◌}
use mathlib.Core.Bool.{Bool, true, false, ◌&&◌}
use mathlib.Core.List.{List, [], ◌∷◌, ◌++◌, append_assoc}
use mathlib.Core.Option.{Option, none, some}
use native.Mathlib.Omega.{arith}
use borrow.Author.Tests.{le-leb}
use lib.ListN.{length, take, drop}
use lib.Seq.{take_at}
use lib.Dec.{T, leb, ltb, leb→le, ltb→lt}
use Rattle.page.specs.Bytes.{all}
use Rattle.page.specs.Limits.{count_limit, function_name_limit}
use Rattle.page.specs.Read.{got}
use Rattle.page.specs.Number.{write_number}
use Rattle.page.specs.Text.{Text, is_label, write_text}
use Rattle.page.specs.Allowed.{IsCount, Each}
use Rattle.page.proofs.NumberLaws.{left-of, right_of}
use Rattle.records.specs.Kind.{Kind}
use Rattle.records.specs.Signature.{Variadic, fixed, unlimited, up_to, Function, write_signature}
use Rattle.records.specs.Record.{call, read_record, write_record}
use Rattle.records.specs.Outcome.{answer, refusal}
use Rattle.records.specs.Allowed.{IsVariadic, IsKind, IsFunction}
use Rattle.records.proofs.ReadBackLaws.{read_record-back}
use Rattle.functions.specs.Functions.{functions}
use Rattle.functions.specs.Lookup.{lookup, signature_fault}
use Rattle.functions.proofs.SignatureLaws.{same-equal_signature}
use Rattle.functions.proofs.SignedLaws.{lookup-name, like-passes}
use Rattle.outcomes.specs.Signature.{unknown_function, signature_of, signature_in, signature, signature_room, OfSignature, Signs}
use Rattle.outcomes.proofs.CallsLaws.{KeepsCalled, chosen, written_keeps}

-- ## Any table

signature_of-keeps : (o : Option Function) (buffer : List ℕ) → KeepsCalled buffer (signature_of o buffer)
signature_of-keeps none buffer = refl
signature_of-keeps (some f) buffer = written_keeps f.return_type 0 (write_signature f) buffer

-- a refusal changes no byte, and an accepted call only the bytes that it reports
pub signature_in-keeps : (table : List Function) (name : Text) (buffer : List ℕ) → KeepsCalled buffer (signature_in table name buffer)
signature_in-keeps table name = signature_of-keeps (lookup table name)

signature_of-of : (o : Option Function) (buffer : List ℕ) → OfSignature (signature_of o buffer).outcome
signature_of-of none buffer = (tt, refl)
signature_of-of (some f) buffer = by (leb (length (write_signature f)) (length buffer))
  where
    by : (b : Bool) → OfSignature (chosen f.return_type 0 (write_signature f) buffer b).outcome
    by true = tt
    by false = (tt, refl)

-- it is refused with 37 or 5 only, at 0
pub signature_in-of : (table : List Function) (name : Text) (buffer : List ℕ) → OfSignature (signature_in table name buffer).outcome
signature_in-of table name = signature_of-of (lookup table name)

-- ## What every row of the function table passes

abbrev is_extra : Variadic → Bool
is_extra fixed = true
is_extra unlimited = true
is_extra (up_to n) = ltb 0 n && leb n count_limit

abbrev is_allowed : Function → Bool
is_allowed f =
    leb (length f.name) function_name_limit && is_label f.name && leb (length f.arg_types) count_limit
    && is_extra f.variadic

-- a page may hold it, and its signature is short
abbrev is_row : Function → Bool
is_row f = is_allowed f && leb (length (write_signature f)) signature_room

rows : T (all is_row functions)
unfolding functions
rows = tt

extra-allowed : (v : Variadic) → T (is_extra v) → IsVariadic v
extra-allowed fixed h = tt
extra-allowed unlimited h = tt
extra-allowed (up_to n) h =
    (ltb→lt 0 n (left-of (ltb 0 n) (leb n count_limit) h), leb→le n count_limit (right_of (ltb 0 n) (leb n count_limit) h))

kinds-allowed : (ks : List Kind) → Each IsKind ks
kinds-allowed [] = tt
kinds-allowed (k ∷ ks) = (tt, kinds-allowed ks)

function-allowed : (f : Function) → T (is_allowed f) → IsFunction f
function-allowed f h =
    let short : Bool = leb (length f.name) function_name_limit in
    let label : Bool = is_label f.name in
    let few : Bool = leb (length f.arg_types) count_limit in
    let front = left-of (short && label && few) (is_extra f.variadic) h in
    let text = left-of (short && label) few front in (
      (leb→le (length f.name) function_name_limit (left-of short label text), right_of short label text),
      (leb→le (length f.arg_types) count_limit (right_of (short && label) few front), kinds-allowed f.arg_types),
      extra-allowed f.variadic (right_of (short && label && few) (is_extra f.variadic) h),
    )

-- ## A function of the table

module _ (name : Text) {f : Function} (found : lookup functions name ≡ some f) where
  named : f.name ≡ name
  named = lookup-name functions name f found

  -- a call of it has no fault beside the table
  pub signature-faultless : (n : ℕ) → signature_fault functions (call f n) ≡ none
  signature-faultless n =
      rw (named, found, same-equal_signature f f (record { kinds = refl; extra = refl; result = refl }))

  row : T (is_row f)
  row = like-passes is_row functions rows f (signature-faultless 0)

  -- 8 bytes hold its signature
  pub signature-short : length (write_signature f) ≤ signature_room
  signature-short = leb→le _ signature_room (right_of (is_allowed f) (leb (length (write_signature f)) signature_room) row)

  -- a call record with its name and its signature is read as a call of it
  pub signature-reads : (n : ℕ) → IsCount n → (rest : List ℕ)
      → read_record (11 ∷ (write_text name ++ (write_signature f ++ (write_number n ++ rest)))) ≡ got (call f n) rest
  unfolding write_record
  signature-reads n h rest =
      let allowed = function-allowed f (left-of (is_allowed f) (leb (length (write_signature f)) signature_room) row) in
      let grouped : write_record (call f n) ++ rest ≡ 11 ∷ (write_text f.name ++ (write_signature f ++ (write_number n ++ rest)))
      = simp append_assoc in
      rw (← named) (ap read_record (sym grouped) ∙ (read_record-back (call f n) (allowed, h)).reads rest)

-- ## The call

-- with 8 bytes lent, only an unknown name is refused
pub signature-room : (name : Text) (buffer : List ℕ) → signature_room ≤ length buffer → {n i : ℕ}
    → (signature name buffer).outcome ≡ refusal n i → (n ≡ unknown_function) × (lookup functions name ≡ none)
signature-room name buffer room {n} {i} e = by (lookup functions name) refl e
  where
    by : (o : Option Function) → lookup functions name ≡ o → (signature_of o buffer).outcome ≡ refusal n i
        → (n ≡ unknown_function) × (o ≡ none)
    by none q e = (cc, refl)
    by (some f) q e =
        let fits = le-leb (length (write_signature f)) (length buffer) (omega (arith, signature-short name q)) in
        let never = rw fits at e in
        let z : ◌≡◌ {A = ℕ} 0 1 = cc in
        absurd (omega arith)

-- what it wrote for a name serves in a call record
pub signature-signs : (name : Text) (buffer : List ℕ) {k : Kind} {m : ℕ} → (signature name buffer).outcome ≡ answer k m
    → Signs name (take m (signature name buffer).buffer) k
signature-signs name buffer {k} {m} e = by (lookup functions name) refl e
  where
    by : (o : Option Function) → lookup functions name ≡ o → (signature_of o buffer).outcome ≡ answer k m
        → Signs name (take m (signature_of o buffer).buffer) k
    by none q e = let z : ◌≡◌ {A = ℕ} 0 1 = cc in absurd (omega arith)
    by (some f) q e = fits (leb (length (write_signature f)) (length buffer)) e
      where
        text : List ℕ
        text = write_signature f

        fits : (b : Bool) → (chosen f.return_type 0 text buffer b).outcome ≡ answer k m
            → Signs name (take m (chosen f.return_type 0 text buffer b).buffer) k
        fits false e = let z : ◌≡◌ {A = ℕ} 0 1 = cc in absurd (omega arith)
        fits true e =
            let size : length text ≡ m = cc in
            let signed = take_at text (drop (length text) buffer) m size in
            record {
              function = f;
              found = q;
              kind = cc;
              reads = λ n h rest. rw signed (signature-reads name q n h rest);
              faultless = signature-faultless name q;
            }
