-- What the parts of the call that writes a signature do: for any function, and for any table.
use Rattle.std.specs.Prelude.{ℕ, ◌≡◌, List}
use Rattle.page.specs.Text.{Text}
use Rattle.records.specs.Kind.{Kind, kind_number}
use Rattle.records.specs.Signature.{Function, write_signature}
use Rattle.records.specs.Outcome.{Outcome}
use Rattle.functions.specs.Answers.{Holds}
use Rattle.functions.specs.declared.form.Table.{Table}
use Rattle.outcomes.specs.Calls.{written, Does}
use Rattle.outcomes.specs.Signature.{signature_in}

-- the number of a kind is that kind's
abbrev pub IsKindOf : ℕ → Kind → Type 0
IsKindOf number kind = (k : Kind) → number ≡ kind_number k → kind ≡ k

-- the bytes of any function's signature are written as the definition says
abbrev pub PutsSignature : List ℕ → List ℕ → Outcome → List ℕ → Type 0
PutsSignature text buffer outcome after =
    (f : Function) → text ≡ write_signature f → Does (written f.return_type 0 (write_signature f) buffer) outcome after

-- so is the signature of the name among the functions that a table holds
abbrev pub SignsIn : Table → Text → List ℕ → Outcome → List ℕ → Type 0
SignsIn lent name buffer outcome after =
    (table : List Function) → Holds lent table → Does (signature_in table name buffer) outcome after
