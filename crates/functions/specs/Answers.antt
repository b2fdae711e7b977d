-- What the answers of the functions that ask a table mean.
use Rattle.std.specs.Prelude.{ℕ, Bool, true, false, ◌&&◌, List, [], ◌∷◌, ◌≡◌, eqb, drop}
use Rattle.std.proofs.Math.Option.{Option, none, some}
use Rattle.page.specs.Read.{got}
use Rattle.page.specs.Text.{Text}
use Rattle.page.specs.Answers.{span_on}
use Rattle.page.specs.declared.text.Span.{Span}
use Rattle.records.specs.Signature.{Function, read_signature}
use Rattle.functions.specs.Table.{cut, place_of, Formed}
use Rattle.functions.specs.Lookup.{lookup, unlike}
use Rattle.functions.specs.declared.form.Table.{Table}
use Rattle.functions.specs.declared.carried.Carried.{Carried}
use Rattle.functions.specs.declared.carried.Carried.TheVariants as carried

-- the refusal of a call for its name or its signature
abbrev pub fault_meant : Carried → Option ℕ
fault_meant carried.Like = none
fault_meant carried.Unlike = some 38
fault_meant carried.Unknown = some 37

-- these bytes begin with that text
abbrev pub begins_with : List ℕ → List ℕ → Bool
begins_with [] bytes = true
begins_with (a ∷ text) [] = false
begins_with (a ∷ text) (b ∷ bytes) = eqb a b && begins_with text bytes

-- the texts of a table that lies in arrays: the names, then the signatures
abbrev pub texts_of : Table → List Text
texts_of lent = cut lent.letters.now lent.starts.now

-- the place of a name in it
abbrev pub place_in : Table → Text → Option ℕ
place_in lent name = place_of lent.letters.now lent.starts.now name

-- it is the table of these functions
abbrev pub Holds : Table → List Function → Type 0
Holds lent table = Formed lent.letters.now lent.starts.now table

-- of the table that lies in the arrays, and of any function whose name this part of the page is and whose signature
-- stands behind it: its fault beside the table
abbrev pub Compares : List ℕ → Span → Table → Carried → Type 0
Compares page name lent r =
    (table : List Function) → Holds lent table → (f : Function) (rest : List ℕ) → f.name ≡ span_on page name
    → got f rest ≡ read_signature f.name (drop name.end page) → fault_meant r ≡ unlike f (lookup table f.name)
