-- `functions::form::Table::compare_signature` meets its contract: the name is found, and what stands behind it begins
-- with the signature of its place, or not. Assumes nothing.
use Prim.Native.Nat.{ℕ, ◌<◌}
use mathlib.Core.Path.{◌≡◌, sym, ap, ◌∙◌}
use mathlib.Core.Bool.{Bool}
use mathlib.Core.List.{List}
use mathlib.Core.Option.{none, some}
use lib.ListN.{drop}
use Rattle.page.specs.Bytes.{pick}
use Rattle.page.specs.Answers.{span_on, option_of, itself}
use Rattle.page.specs.Read.{got}
use Rattle.records.specs.Signature.{Function, read_signature}
use Rattle.functions.specs.Table.{count_of}
use Rattle.functions.specs.Answers.{place_in, Holds}
use Rattle.functions.specs.Lookup.{lookup, unlike}
use Rattle.functions.proofs.SignatureLaws.{signed-written}
use Rattle.functions.proofs.TableLaws.{place_of-inside, compare-unknown, compare-found}
use Rattle.functions.proofs.form.Table.compare_signature.Goals as goal
use Rattle.functions.proofs.form.Table.compare_signature.Goals.{After-begins_at, In-Some}

-- the name stands at the place
found : (c : In-Some) →
    some c.in-Some.place ≡ place_in c.args.self.now (span_on c.args.page.now c.args.name)
found c =
    sym (ap (option_of itself) c.in-Some.is) ∙ rw c.text_at.ensures at c.find.ensures

inside : (c : In-Some) →
    c.in-Some.place < count_of c.args.self.now.starts.now
inside c =
    place_of-inside c.args.self.now.letters.now c.args.self.now.starts.now _ c.in-Some.place (found c)

-- the bytes behind the name begin with the signature of that place
compared : (c : After-begins_at) →
    some c.in-Some.place ≡ place_in c.args.self.now (span_on c.args.page.now c.args.name) →
    (b : Bool) → c.begins_at.result ≡ b →
    (table : List Function) → Holds c.args.self.now table →
    (f : Function) (rest : List ℕ) → f.name ≡ span_on c.args.page.now c.args.name →
    got f rest ≡ read_signature f.name (drop c.args.name.end c.args.page.now) →
    pick b none (some 38) ≡ unlike f (lookup table f.name)
compared c stands b e table formed f rest named signed =
    compare-found formed f c.in-Some.place (rw named stands) _ rest
    (signed-written c.args.page.now c.args.name.end f.name
    c.type_inv.page f rest signed) b
    (rw (← c.signature.ensures) (sym c.begins_at.ensures ∙ e))

pub signature-requires : goal.signature-requires
signature-requires c = inside (goal.at.signature-requires c).In-Some

pub returns-then-begins_at : goal.returns-then-begins_at
returns-then-begins_at c =
    compared (goal.at.returns-then-begins_at c).After-begins_at (found (goal.at.returns-then-begins_at c).In-Some) _
    c.if-begins_at.true

pub returns-else-begins_at : goal.returns-else-begins_at
returns-else-begins_at c =
    compared (goal.at.returns-else-begins_at c).After-begins_at (found (goal.at.returns-else-begins_at c).In-Some) _
    c.if-begins_at.false

pub returns-in-None : goal.returns-in-None
returns-in-None c =
    λ table formed f rest named signed.
    compare-unknown formed f (rw named (sym (ap (option_of itself) c.in-None.is)
    ∙ rw c.text_at.ensures at c.find.ensures))
