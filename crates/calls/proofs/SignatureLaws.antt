-- The ends of the call that writes a signature, for any table: an unknown name, too short a buffer, written. The last
-- byte of a signature is its result kind. Assumes nothing.
use Prim.Native.Nat.{ℕ, ◌+◌, ◌-◌, ◌≤◌, ◌<◌}
use mathlib.Core.Path.{◌≡◌, refl, sym, ap, ◌∙◌, subst}
use mathlib.Core.List.{List, [], ◌∷◌, ◌++◌}
use mathlib.Core.Option.{none, some}
use native.Mathlib.Nat.{zero-add}
use native.Mathlib.Omega.{arith}
use borrow.Author.Tests.{le-leb, lt-leb}
use lib.ListN.{length, get_or, take, drop, length-append, length-drop}
use lib.Seq.{get_or-append-add, length-take-le}
use Rattle.base.specs.Splice.{Wrote}
use Rattle.base.proofs.SpliceLaws.{splice-start}
use Rattle.page.specs.Text.{Text, write_list}
use Rattle.records.specs.Kind.{Kind, vector, scalar, matrix, string, kind_number}
use Rattle.records.specs.Field.{write_kind}
use Rattle.records.specs.Signature.{Function, write_variadic, write_signature}
use Rattle.records.specs.Outcome.{Outcome, answer, refusal}
use Rattle.functions.specs.Table.{count_of}
use Rattle.functions.specs.Answers.{texts_of, place_in}
use Rattle.functions.specs.declared.form.Table.{Table}
use Rattle.functions.proofs.SignatureLaws.{same_kind}
use Rattle.functions.proofs.CutLaws.{placed, cut_at}
use Rattle.functions.proofs.TableLaws.{formed-found, formed-unknown, formed-signature}
use Rattle.outcomes.specs.Calls.{too_short}
use Rattle.outcomes.specs.Signature.{unknown_function}
use Rattle.calls.specs.Signature.{IsKindOf, PutsSignature, SignsIn}

-- ## Kinds by their numbers

pub is-kind : (j : Kind) → IsKindOf (kind_number j) j
is-kind j k e = same_kind j k e

pub is-string : (n : ℕ) → 2 < n → IsKindOf n string
is-string n h vector e = absurd (omega arith)
is-string n h scalar e = absurd (omega arith)
is-string n h matrix e = absurd (omega arith)
is-string n h string e = refl

-- ## The bytes of a signature

last_byte : (front : List ℕ) (b : ℕ) → get_or (front ++ (b ∷ [])) (length (front ++ (b ∷ [])) - 1) 0 ≡ b
last_byte front b =
    let last : length (front ++ (b ∷ [])) - 1 ≡ length front + 0 = omega (arith, length-append front (b ∷ [])) in
    rw last (get_or-append-add front (b ∷ []) 0 0)

-- the last one is the result kind
last-kind : (f : Function) → get_or (write_signature f) (length (write_signature f) - 1) 0 ≡ kind_number f.return_type
last-kind f = last_byte (write_list write_kind f.arg_types ++ write_variadic f.variadic) (kind_number f.return_type)

module _ {text buffer : List ℕ} where
  pub puts-short : length buffer < length text → PutsSignature text buffer (refusal too_short 0) buffer
  puts-short h f e =
      let short = lt-leb (length (write_signature f)) (length buffer) (omega (arith, ap length e)) in
      rw short (record { answers = refl; leaves = refl })

  pub puts-all : {k : Kind} {next : ℕ} {after : List ℕ} → length text ≤ length buffer
      → IsKindOf (get_or text (length text - 1) 0) k → Wrote buffer after 0 text next → PutsSignature text buffer (answer k next) after
  puts-all {k} {next} {after} h kind wrote f e =
      let fits = le-leb (length (write_signature f)) (length buffer) (omega (arith, ap length e)) in
      let result : k ≡ f.return_type
      = kind f.return_type (ap (λ (t : List ℕ). get_or t (length t - 1) 0) e ∙ last-kind f) in
      let wrote = subst (λ (t : List ℕ). Wrote buffer after 0 t next) e wrote in
      rw (fits, result) (record {
        answers = ap (answer f.return_type) (wrote.ends ∙ zero-add (length (write_signature f)));
        leaves = wrote.holds ∙ splice-start buffer (write_signature f);
      })

-- ## A table

-- no text of it is empty
pub text-some : (lent : Table) (i : ℕ) → i < length lent.starts.now - 1 → 0 < length (get_or (texts_of lent) i [])
text-some lent i h =
    let letters = lent.letters.now in
    let starts = lent.starts.now in
    let text = placed letters starts i lent.formed h in
    let start = get_or starts i 0 in
    let end = get_or starts (i + 1) 0 in
    let size : length (take (end - start) (drop start letters)) ≡ end - start
    = length-take-le (end - start) (drop start letters) (omega (arith, length-drop start letters, text.inside, text.ordered)) in
    rw (cut_at letters starts i h) (omega (arith, size, text.ordered))

module _ (lent : Table) (name : Text) (buffer : List ℕ) where
  pub signs-unknown : none ≡ place_in lent name → SignsIn lent name buffer (refusal unknown_function 0) buffer
  signs-unknown e table holds = rw (formed-unknown holds name (sym e)) (record { answers = refl; leaves = refl })

  pub signs-found : {outcome : Outcome} {after : List ℕ} (i : ℕ) → some i ≡ place_in lent name
      → PutsSignature (get_or (texts_of lent) (count_of lent.starts.now + i) []) buffer outcome after
      → SignsIn lent name buffer outcome after
  signs-found i e puts table holds =
      let stands = formed-found holds name i (sym e) in
      rw stands.is_found (puts stands.row (formed-signature holds i stands.is_row))
