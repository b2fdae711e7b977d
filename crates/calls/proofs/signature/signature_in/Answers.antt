-- `calls::signature::signature_in` meets its contract: the signature at the place of the name is put, or the name is
-- unknown. Assumes nothing.
use Prim.Native.Nat.{◌<◌}
use native.Mathlib.Omega.{arith}
use mathlib.Core.Path.{◌≡◌, sym, ap, ◌∙◌}
use mathlib.Core.Option.{some}
use Rattle.functions.specs.Table.{count_of}
use Rattle.functions.specs.Answers.{place_in}
use Rattle.page.specs.Answers.{option_of, itself}
use Rattle.functions.proofs.CutLaws.{table-form}
use Rattle.functions.proofs.TableLaws.{place_of-inside}
use Rattle.calls.proofs.SignatureLaws.{text-some, signs-unknown, signs-found}
use Rattle.calls.proofs.signature.signature_in.Goals as goal
use Rattle.calls.proofs.signature.signature_in.Goals.{In-Some}

-- the name stands at the place
found : (c : In-Some) →
    some c.in-Some.place ≡ place_in c.args.table.now c.args.name.now
found c = sym (ap (option_of itself) c.in-Some.is) ∙ c.find.ensures

-- so there is a signature for it
inside : (c : In-Some) →
    c.in-Some.place < count_of c.args.table.now.starts.now
inside c =
    let table = c.args.table.now in place_of-inside table.letters.now table.starts.now _ c.in-Some.place (found c)

pub signature-requires : goal.signature-requires
signature-requires c = inside (goal.at.signature-requires c).In-Some

pub put_signature-requires : goal.put_signature-requires
put_signature-requires c =
    let table = c.args.table.now in
    let form = table-form table.letters.now table.starts.now table.formed in
    rw c.signature.ensures
    (text-some table _ (omega (arith, inside (goal.at.put_signature-requires c).In-Some, form.paired)))

pub returns-in-Some : goal.returns-in-Some
returns-in-Some c =
    signs-found c.args.table.now c.args.name.now c.args.out.now c.in-Some.place
    (found (goal.at.returns-in-Some c).In-Some)
    (rw (← c.signature.ensures) c.put_signature.ensures)

pub returns-in-None : goal.returns-in-None
returns-in-None c =
    signs-unknown c.args.table.now c.args.name.now c.args.out.now
    (sym (ap (option_of itself) c.in-None.is) ∙ c.find.ensures)
