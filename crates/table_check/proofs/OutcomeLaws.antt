-- The outcome of the check with a table, from what the walk says and from the first fault among the records that it
-- came to. Assumes nothing.
use Prim.Native.Nat.{ℕ, ◌≤◌}
use mathlib.Core.Path.{◌≡◌, refl, sym, ap, ◌∙◌, subst}
use mathlib.Core.List.{List}
use mathlib.Core.Option.{none}
use native.Mathlib.Omega.{arith}
use lib.ListN.{length, take}
use Rattle.base.proofs.Cases.{by-lt}
use Rattle.page.specs.Allowed.{Each}
use Rattle.records.specs.Kind.{Kind}
use Rattle.records.specs.Signature.{Function}
use Rattle.records.specs.Record.{read_page}
use Rattle.records.specs.Outcome.{Outcome, answer, refusal}
use Rattle.ast.specs.Expr.{Expr}
use Rattle.ast.specs.Walk.{Checked, refused_at}
use Rattle.ast.specs.CheckPage.{check_page, outcome_of, check}
use Rattle.ast.specs.Table.{record_count}
use Rattle.ast.specs.Rules.{check_by}
use Rattle.ast.specs.Reached.{reached_count, FirstAsked}
use Rattle.ast.proofs.CheckLaws.{CheckedIn, check_page-in}
use Rattle.ast.proofs.RulesLaws.{check_page_by-none, check_page_by-first}
use Rattle.functions.specs.Lookup.{signature_fault, with_table}
use Rattle.functions.specs.declared.form.Table.{Table}
use Rattle.rules.specs.Answers.{refusal_number}
use Rattle.walk.specs.Answers.{Accepts, Refuses}
use Rattle.walk.proofs.ProgressLaws.{too_long}
use Rattle.table_check.specs.Standing.{Standing, Reaches}
use Rattle.table_check.specs.Answers.{Finds, fault_or, FaultFirst, ChecksWith}
use Rattle.walk.specs.declared.answer.Refused.{Refused}
use Rattle.std.specs.Prelude.{Result, Ok, Err}
use Rattle.table_check.proofs.StandingLaws.{tables-standing}

-- ## Where the records stand that the walk accepted

-- of a page above the limit none was read
no-records : (page starts : List ℕ) → Standing page starts 0
no-records page starts = record { sized = omega arith; entry = λ i below. absurd (omega arith) }

module _ {page starts firsts : List ℕ} where
  pub accepts-standing : {k : Kind} {n : ℕ} → Accepts (check_page page) page starts firsts k n → Standing page starts n
  accepts-standing says =
      by-lt 8192 (length page)
      (λ long. absurd (let never = too_long page long in let own = says.tree in let z : ◌≡◌ {A = ℕ} 0 1 = cc in omega arith))
      (λ short. tables-standing page short says.tables)

  pub refuses-standing : {n i : ℕ} → Refuses (check_page page) page starts firsts n i → Standing page starts i
  refuses-standing {n} {i} says =
      by-lt 8192 (length page)
      (λ long. subst (Standing page starts) (index (sym (too_long page long) ∙ says.refuses)) (no-records page starts))
      (λ short. tables-standing page short says.tables)
    where
      index : ◌≡◌ {A = Checked Expr} (refused_at 3 0) (refused_at n i) → 0 ≡ i
      index e = cc

  pub refuses-inside : {n i : ℕ} → Refuses (check_page page) page starts firsts n i → i ≤ record_count page
  refuses-inside says = (subst (CheckedIn (record_count page)) says.refuses (check_page-in page)).1

-- ## The outcome

module _ {page : List ℕ} {lent : Table} {count : ℕ} {own outcome : Outcome} (faults : FaultFirst page count lent own outcome)
    (reached : count ≡ reached_count page (check_page page)) (is-own : own ≡ check page) where
  by-fault : (table : List Function) (found : Result (Unit {0}) Refused) → Finds table page count found → fault_or found own ≡ check_by (with_table table) page
  by-fault table (Ok x) finds =
      is-own ∙ ap outcome_of (sym (check_page_by-none (with_table table) (λ r ks. refl) page
      (subst (λ (n : ℕ). Each (λ r. signature_fault table r ≡ none) (take n (read_page page).records)) reached finds)))
  by-fault table (Err r) finds =
      ap outcome_of (sym (check_page_by-first (with_table table) (λ r ks. refl) page (refusal_number r.refusal) r.index
      (subst (λ (n : ℕ). FirstAsked (signature_fault table) (read_page page).records n (refusal_number r.refusal) r.index) reached finds)))

  checks-with : ChecksWith page lent outcome
  checks-with table formed = faults.is ∙ by-fault table faults.found (faults.finds table formed)

module _ {page starts firsts : List ℕ} {lent : Table} {outcome : Outcome} where
  pub accepted-with : {k : Kind} {n : ℕ} → Accepts (check_page page) page starts firsts k n → FaultFirst page n lent (answer k 0) outcome
      → ChecksWith page lent outcome
  accepted-with says faults =
      checks-with faults (sym (ap (reached_count page) says.tree))
      (ap {B = Outcome} (λ k. answer k 0) (sym says.kind) ∙ sym (ap outcome_of says.tree))

  pub refused-with : {m i count : ℕ} {table : List ℕ} → Refuses (check_page page) page starts firsts m i → Reaches page i table count
      → FaultFirst page count lent (refusal m i) outcome → ChecksWith page lent outcome
  refused-with says reaches faults =
      checks-with faults (reaches.is_count ∙ sym (ap (reached_count page) says.refuses)) (sym (ap outcome_of says.refuses))
