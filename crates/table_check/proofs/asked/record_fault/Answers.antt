-- `table_check::asked::record_fault` meets its contract. The first byte tells a call from all others, the stored text
-- behind it is its name, and `compare_signature` asks the table about what follows. The laws stand in `FaultLaws`.
-- Assumes nothing.
use Prim.Native.Nat.{ℕ}
use mathlib.Core.Path.{◌≡◌}
use mathlib.Core.List.{List}
use lib.ListN.{drop}
use Rattle.page.specs.Read.{got}
use Rattle.records.specs.Signature.{Function}
use Rattle.records.specs.Record.{Record, read_record}
use Rattle.functions.specs.Lookup.{signature_fault}
use Rattle.functions.specs.Answers.{fault_meant, Holds}
use Rattle.functions.specs.declared.carried.Carried.{Carried}
use Rattle.functions.specs.declared.carried.Carried.TheVariants.{Like, Unlike, Unknown}
use Rattle.table_check.proofs.FaultLaws.{other-fault, record-inside, name-readable, call-fault}
use borrow.Author.Rules.{rules}
use Rattle.table_check.proofs.asked.record_fault.Goals as goal
use Rattle.table_check.proofs.asked.record_fault.Goals.{After-compare_signature}

-- what the table says of the name, and of the bytes behind it, is the fault of the record
compared : (c : After-compare_signature) (r : Carried) → c.compare_signature.result ≡ r →
    (table : List Function) → Holds c.args.table.now table
    → (item : Record) (rest : List ℕ)
    → got item rest ≡ read_record (drop c.args.at c.args.page.now) →
    fault_meant r ≡ signature_fault table item
compared c r e =
    call-fault c.args.page.now c.args.at c.type_inv.page
    c.requires c.if-page-at-ne-CALL.false c.stored_text.result
    c.stored_text.ensures.reads c.args.table.now r
    (rw e at c.compare_signature.ensures)

pub bounds-page-at : goal.bounds-page-at
bounds-page-at c =
    record-inside c.args.page.now c.args.at
    c.type_inv.page c.requires

pub returns-then-page-at-ne-CALL : goal.returns-then-page-at-ne-CALL
returns-then-page-at-ne-CALL c =
    λ table formed item rest e. other-fault c.args.page.now c.args.at
    c.type_inv.page table item rest c.if-page-at-ne-CALL.true e

pub overflow_add-at : goal.overflow_add-at
overflow_add-at c =
    let inside = record-inside c.args.page.now c.args.at
    c.type_inv.page c.requires in
    search rules

pub stored_text-requires : goal.stored_text-requires
stored_text-requires c =
    name-readable c.args.page.now c.args.at
    c.type_inv.page c.requires c.if-page-at-ne-CALL.false

pub returns-in-Like : goal.returns-in-Like
returns-in-Like c =
    compared (goal.at.returns-in-Like c).After-compare_signature Like c.in-Like.is

pub returns-in-Unlike : goal.returns-in-Unlike
returns-in-Unlike c =
    compared (goal.at.returns-in-Unlike c).After-compare_signature Unlike c.in-Unlike.is

pub returns-in-Unknown : goal.returns-in-Unknown
returns-in-Unknown c =
    compared (goal.at.returns-in-Unknown c).After-compare_signature Unknown c.in-Unknown.is
