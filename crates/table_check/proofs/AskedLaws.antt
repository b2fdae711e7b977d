-- The loop that asks the records one after the other: none of those so far has a fault. Assumes nothing.
use Prim.Native.Nat.{ℕ, ◌+◌, ◌<◌}
use mathlib.Core.Path.{◌≡◌, sym, subst}
use mathlib.Core.List.{List}
use mathlib.Core.Option.{none}
use native.Mathlib.Numerals.{add-one}
use lib.ListN.{get_or, take}
use Rattle.page.specs.Allowed.{Each}
use Rattle.records.specs.Record.{read_page}
use Rattle.records.specs.Signature.{Function}
use Rattle.ast.proofs.EachLaws.{each-one}
use Rattle.functions.specs.Answers.{Holds}
use Rattle.functions.specs.declared.form.Table.{Table}
use Rattle.functions.specs.Lookup.{signature_fault}
use Rattle.std.specs.Prelude.{Ok, Err}
use Rattle.rules.specs.declared.refusal.Refusal.{Refusal}
use Rattle.table_check.specs.Standing.{RecordStands, Standing}
use Rattle.table_check.specs.Answers.{FaultOf, FindsFirst}

-- the first i records have no fault beside any functions that the table holds
abbrev pub Faultless : List ℕ → Table → ℕ → Type 0
Faultless page lent i =
    (table : List Function) → Holds lent table → Each (λ r. signature_fault table r ≡ none) (take i (read_page page).records)

module _ {page starts : List ℕ} {count i : ℕ} (known : Standing page starts count) (below : i < count) where
  stands : RecordStands page (get_or starts i 0) i
  stands = known.entry i below

  module _ (lent : Table) (so_far : Faultless page lent i) where
    pub faultless-next : FaultOf page (get_or starts i 0) lent (Ok tt) → Faultless page lent (i + 1)
    faultless-next fault table holds =
        subst (λ (k : ℕ). Each (λ r. signature_fault table r ≡ none) (take k (read_page page).records)) (sym (add-one i))
        (each-one (λ r. signature_fault table r ≡ none) (read_page page).records i stands.listed (so_far table holds)
        (sym (fault table holds stands.item stands.rest stands.reads)))

    pub fault-first : (r : Refusal) → FaultOf page (get_or starts i 0) lent (Err r)
        → FindsFirst page count lent (Err (record { refusal = r; index = i }))
    fault-first r fault table holds = record {
      below = below;
      passed = so_far table holds;
      item = stands.item;
      later = _;
      stands = stands.listed;
      refuses = sym (fault table holds stands.item stands.rest stands.reads);
    }
