-- The call that writes a function's signature (document 02, No. 2: "Callers build signatures by hand and misspell them"):
-- the bytes that stand in a call record behind the name, namely how many kinds, the kinds, the extra and the result
-- kind, which is the outcome's. An unknown name is refused with 37, whatever its bytes are, and too short a buffer with
-- 5; there is no page, so each is at 0.
use Rattle.std.specs.Prelude.{ℕ, ◌≡◌, List, [], ◌∷◌, ◌++◌, T, eqb}
use Rattle.std.proofs.Math.Option.{Option, none, some}
use Rattle.page.specs.Bytes.{any}
use Rattle.page.specs.Read.{got}
use Rattle.page.specs.Number.{write_number}
use Rattle.page.specs.Text.{Text, write_text}
use Rattle.page.specs.Allowed.{IsCount}
use Rattle.records.specs.Kind.{Kind}
use Rattle.records.specs.Signature.{Function, write_signature}
use Rattle.records.specs.Record.{call, read_record}
use Rattle.records.specs.Outcome.{Outcome, answer, refusal}
use Rattle.functions.specs.Functions.{functions}
use Rattle.functions.specs.Lookup.{lookup, signature_fault}
use Rattle.outcomes.specs.Calls.{Called, too_short, written}

abbrev pub unknown_function : ℕ
unknown_function = 37

-- the signature of a function, if there is one
abbrev pub signature_of : Option Function → List ℕ → Called
signature_of none buffer = record { outcome = refusal unknown_function 0; buffer = buffer }
signature_of (some f) buffer = written f.return_type 0 (write_signature f) buffer

-- of a name in any table
abbrev pub signature_in : List Function → Text → List ℕ → Called
signature_in table name = signature_of (lookup table name)

abbrev pub signature : Text → List ℕ → Called
signature = signature_in functions

-- ## What holds of it (proofs/SignatureLaws)

-- no signature of the table is longer
abbrev pub signature_room : ℕ
signature_room = 8

-- which outcomes it can have
abbrev pub signature_numbers : List ℕ
signature_numbers = unknown_function ∷ too_short ∷ []

abbrev pub OfSignature : Outcome → Type 0
OfSignature (answer k n) = Unit {0}
OfSignature (refusal n i) = T (any (eqb n) signature_numbers) × (i ≡ 0)

-- bytes that were written for a name: kind 11, the name, these bytes and a count of arguments, with anything behind
-- them, are read as a call of the table's function of that name, and such a call has no fault beside the table
pub record Signs (name signed : List ℕ) (result : Kind) : Type 0 where
  pub function : Function
  pub found : lookup functions name ≡ some function
  pub kind : function.return_type ≡ result
  pub reads : (n : ℕ) → IsCount n → (rest : List ℕ)
      → read_record (11 ∷ (write_text name ++ (signed ++ (write_number n ++ rest)))) ≡ got (call function n) rest
  pub faultless : (n : ℕ) → signature_fault functions (call function n) ≡ none
