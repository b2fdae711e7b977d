-- The check with a table, in the words of the request: which pages it accepts (`table-accepts`, `table-accepted`), and
-- what it refuses (`table-refused`, `table-fault`), for any table; of the repository's, that 29 never occurs and which
-- numbers do (`table-in`), and demand 3 of its signatures (`table-demand3`). These three hold of any table whose
-- functions without kinds are fixed (`table_of-..`). Read off the laws of a check by rules. Assumes nothing.
use Prim.Native.Nat.{ℕ, suc, ◌≤◌}
use mathlib.Core.Path.{◌≡◌, refl, sym, ap, ap₂, ◌∙◌, subst}
use mathlib.Core.Bool.{Bool, true, false, ◌&&◌, ◌||◌, not}
use mathlib.Core.List.{List, [], ◌∷◌, map}
use mathlib.Core.Option.{Option, none, some}
use native.Mathlib.Omega.{arith}
use borrow.Author.Tests.{eqb-true}
use lib.ListN.{take, drop}
use lib.Dec.{T, eqb}
use Rattle.page.specs.Allowed.{Each}
use Rattle.page.specs.Bytes.{all, pick}
use Rattle.records.specs.Kind.{Kind}
use Rattle.records.specs.Signature.{Function}
use Rattle.records.specs.Record.{Record, leaf, wrapper, binary, aggregate, call, Records, read_page}
use Rattle.records.specs.Outcome.{Outcome, answer, refusal}
use Rattle.ast.specs.Expr.{Expr}
use Rattle.ast.specs.Walk.{stack, stack_after}
use Rattle.ast.specs.CheckPage.{apply, check_page, outcome_of, check}
use Rattle.ast.specs.Table.{is_of_check, record_count, InTable}
use Rattle.ast.specs.Rules.{check_page_by, check_by}
use Rattle.ast.proofs.BareLaws.{is_bare, check-bare}
use Rattle.ast.proofs.CheckLaws.{answered, refused_with, index_below, check-in}
use Rattle.ast.proofs.EachLaws.{each_last}
use Rattle.ast.proofs.RulesLaws.{check_page_by-accepts, check_page_by-passes, check_page_by-unasked, check_page_by-asked}
use Rattle.ast.proofs.RefusedLaws.{Cause, before, document, after, check_page_by-refuses}
use Rattle.working_out.specs.WorkingOut.{work_page, is_set_aside}
use Rattle.working_out.specs.Demand3.{kind_refusals, Says}
use Rattle.agreement.proofs.Demand3.{check-demand3}
use Rattle.functions.specs.Functions.{functions}
use Rattle.functions.specs.Lookup.{lookup, equal_signature, unlike, signature_fault, with_table, check_table, check_table_of, is_of_table, signed_by, signed_records}
use Rattle.functions.specs.TableContract.{TableDemand3, TableDemand3Of, TableContractOf}
use Rattle.functions.proofs.SignedLaws.{signed-record, like-passes}

-- ## Any table

-- these records have no fault beside the table
abbrev pub Faultless : List Function → List Record → Type 0
Faultless table = Each (λ r. signature_fault table r ≡ none)

signed-records : (table : List Function) (rs : List Record) → Faultless table rs → map (signed_by table) rs ≡ rs
signed-records table [] h = refl
signed-records table (r ∷ rs) h = ap₂ {C = List Record} (λ x xs. x ∷ xs) (signed-record table r h.0) (signed-records table rs h.1)

module _ (table : List Function) (page : List ℕ) where
  -- a page that passes: document 01's check accepts it with the same kind, each call has a name of the table and its
  -- signature, and with the table's signatures in their place the records are the same
  pub record Passed (kind : Kind) (written : ℕ) : Type 0 where
    pub passes : check page ≡ answer kind written
    pub faultless : Faultless table (read_page page).records
    pub signed : map (signed_by table) (read_page page).records ≡ (read_page page).records

  pub table-accepted : (kind : Kind) (written : ℕ) → check_by (with_table table) page ≡ answer kind written → Passed kind written
  table-accepted kind written e =
      let found = answered (check_page_by (with_table table) page) kind written e in
      let own = check_page_by-accepts (with_table table) page found.0 found.1 found.2 in
      let passed = check_page_by-passes (with_table table) page found.0 found.1 found.2 in
      record {
        passes = ap outcome_of (own ∙ sym found.2) ∙ e;
        faultless = passed;
        signed = signed-records table (read_page page).records passed;
      }

  -- and every such page passes: one without fault is judged as by document 01's check
  pub table-accepts : Faultless table (read_page page).records → check_by (with_table table) page ≡ check page
  table-accepts h = ap outcome_of (check_page_by-unasked (with_table table) (λ r ks. refl) page h)

  -- what refuses a page: a call that has that fault, or document 01's check
  pub data Refuser (n i : ℕ) : Type 0 where
    call-refused : (f : Function) (count : ℕ) (later : List Record) → drop i (read_page page).records ≡ call f count ∷ later
        → unlike f (lookup table f.name) ≡ some n → Refuser n i
    own-refusal : check page ≡ refusal n i → Faultless table (take (suc i) (read_page page).records) → Refuser n i

  -- it is the first: no record before it has a fault, and document 01's check refuses none
  pub record Refused (n i : ℕ) : Type 0 where
    pub refuser : Refuser n i
    pub passed : Faultless table (take i (read_page page).records)
    pub first : (m j : ℕ) → check page ≡ refusal m j → i ≤ j

  record-refused : (n i : ℕ) (r : Record) (later : List Record) → drop i (read_page page).records ≡ r ∷ later
      → signature_fault table r ≡ some n → Refuser n i
  record-refused n i (leaf l) later s e = absurd (let z : ◌≡◌ {A = ℕ} 0 1 = cc in omega arith)
  record-refused n i (wrapper w) later s e = absurd (let z : ◌≡◌ {A = ℕ} 0 1 = cc in omega arith)
  record-refused n i (binary c m) later s e = absurd (let z : ◌≡◌ {A = ℕ} 0 1 = cc in omega arith)
  record-refused n i (aggregate c m k) later s e = absurd (let z : ◌≡◌ {A = ℕ} 0 1 = cc in omega arith)
  record-refused n i (call f k) later s e = call-refused f k later s e

  pub table-refused : (n i : ℕ) → check_by (with_table table) page ≡ refusal n i → Refused n i
  table-refused n i e =
      let under = check_page_by-refuses (with_table table) page n i (refused_with (check_page_by (with_table table) page) n i e) in
      record {
        refuser = by under.cause;
        passed = under.passed;
        first = λ m j q. under.first m j (refused_with (check_page page) m j q);
      }
    where
      by : Cause (with_table table) page n i → Refuser n i
      by (before r later s q) = record-refused n i r later s q
      by (document q passed) = own-refusal (ap outcome_of q) passed
      by (after r s t passed never) = absurd (let z : ◌≡◌ {A = ℕ} 0 1 = cc in omega arith)

  -- the first record with a fault is refused for it, where document 01's check comes so far
  pub table-fault : (i n : ℕ) (r : Record) (later : List Record) (s : List Expr) → drop i (read_page page).records ≡ r ∷ later
      → Faultless table (take i (read_page page).records) → stack_after apply i (read_page page) ≡ stack s
      → signature_fault table r ≡ some n → check_by (with_table table) page ≡ refusal n i
  table-fault i n r later s stands passed reached e =
      ap outcome_of (check_page_by-asked (with_table table) (λ r ks. refl) page i n r later s stands passed reached e)

-- demand 3 of the table's signatures
pub table_of-demand3 : (table : List Function) (page : List ℕ) → TableDemand3Of table page (check_table_of table page)
table_of-demand3 table page = by (check_table_of table page) refl
  where
    by : (o : Outcome) → check_table_of table page ≡ o → TableDemand3Of table page o
    by (answer k n) e = λ contents.
        let passed = table-accepted table page k n e in
        let same : signed_records table (read_page page) ≡ read_page page
        = ap {B = Records} (λ rs. record { records = rs; ending = (read_page page).ending }) passed.signed in
        subst (λ (rs : Records). Says kind_refusals (work_page is_set_aside contents rs) (answer k n)) (sym same)
        (subst (λ (o : Outcome). Says kind_refusals (work_page is_set_aside contents (read_page page)) o) passed.passes
        (check-demand3 page contents))
    by (refusal n i) e = tt

-- so the outcome of the check with the table is all that its contract asks for
pub table_of-contract : (table : List Function) (page : List ℕ) (o : Outcome) → o ≡ check_table_of table page
    → TableContractOf table page o
table_of-contract table page o is =
    record { is_check_table = is; demand3 = subst (TableDemand3Of table page) (sym is) (table_of-demand3 table page) }

-- ## Tables whose functions without kinds are fixed

abbrev pub none_bare : List Function → Bool
none_bare = all (λ f. not (is_bare f))

unlike-number : (f : Function) (found : Option Function) (n : ℕ) → unlike f found ≡ some n → T (eqb n 37 || eqb n 38)
unlike-number f none n e = let same : 37 ≡ n = cc in subst (λ (m : ℕ). T (eqb m 37 || eqb m 38)) same tt
unlike-number f (some g) n e = by (equal_signature f g) e
  where
    by : (b : Bool) → pick {A = Option ℕ} b none (some 38) ≡ some n → T (eqb n 37 || eqb n 38)
    by true e = absurd (let z : ◌≡◌ {A = ℕ} 0 1 = cc in omega arith)
    by false e = let same : 38 ≡ n = cc in subst (λ (m : ℕ). T (eqb m 37 || eqb m 38)) same tt

or_right : (a b c : Bool) → T (b || c) → T (a || b || c)
or_right true b c h = tt
or_right false b c h = h

own-number : (n : ℕ) → T (is_of_check n) → (n ≡ 29 → ⊥) → T (is_of_table n)
own-number n h other = by (is_of_check n) (eqb n 29) refl h
  where
    by : (a b : Bool) → eqb n 29 ≡ b → T a → T ((a && not b) || eqb n 37 || eqb n 38)
    by true true q h = absurd (other (eqb-true n 29 q))
    by true false q h = tt
    by false b q h = absurd h

module _ (table : List Function) (kinded : T (none_bare table)) (page : List ℕ) where
  -- 29 never occurs
  pub table_of-no-29 : (i : ℕ) → check_table_of table page ≡ refusal 29 i → ⊥
  table_of-no-29 i e = by (table-refused table page 29 i e).refuser
    where
      contradiction : (b : Bool) → T b → T (not b) → ⊥
      contradiction true h k = k
      contradiction false h k = h

      by : Refuser table page 29 i → ⊥
      by (call-refused f count later s q) = unlike-number f (lookup table f.name) 29 q
      by (own-refusal q passed) =
          let bare = check-bare page i q in
          let fine = each_last (λ r. signature_fault table r ≡ none) (read_page page).records i bare.stands passed in
          contradiction (is_bare bare.function) bare.bare (like-passes (λ f. not (is_bare f)) table kinded bare.function fine)

  -- a refusal is one of document 01's check but 29, or 37 or 38; its record is one of the page's, or their number
  pub table_of-in : InTable is_of_table page (check_table_of table page)
  table_of-in = by (check_table_of table page) refl
    where
      added : (n : ℕ) → T (eqb n 37 || eqb n 38) → T (is_of_table n)
      added n h = or_right (is_of_check n && not (eqb n 29)) (eqb n 37) (eqb n 38) h

      by-refuser : (n i : ℕ) → check_table_of table page ≡ refusal n i → Refuser table page n i → T (is_of_table n) × (i ≤ record_count page)
      by-refuser n i e (call-refused f count later s q) =
          (added n (unlike-number f (lookup table f.name) n q), index_below i (read_page page).records s)
      by-refuser n i e (own-refusal q passed) =
          let own = subst (InTable is_of_check page) q (check-in page) in
          (own-number n own.0 (λ same. table_of-no-29 i (e ∙ ap (λ (m : ℕ). refusal m i) same)), own.1)

      by : (o : Outcome) → check_table_of table page ≡ o → InTable is_of_table page o
      by (answer k n) e = tt
      by (refusal n i) e = by-refuser n i e (table-refused table page n i e).refuser

-- ## The repository's table

-- its six functions without kinds are fixed
pub functions-kinded : T (none_bare functions)
unfolding functions
functions-kinded = tt

module _ (page : List ℕ) where
  -- 29 never occurs
  pub table-no-29 : (i : ℕ) → check_table page ≡ refusal 29 i → ⊥
  table-no-29 = table_of-no-29 functions functions-kinded page

  -- a refusal is one of document 01's check but 29, or 37 or 38; its record is one of the page's, or their number
  pub table-in : InTable is_of_table page (check_table page)
  table-in = table_of-in functions functions-kinded page

  -- demand 3 of the table's signatures
  pub table-demand3 : TableDemand3 page (check_table page)
  table-demand3 = own (check_table page) (table_of-demand3 functions page)
    where
      own : (o : Outcome) → TableDemand3Of functions page o → TableDemand3 page o
      own (answer k n) h = h
      own (refusal n i) h = h
