-- What the answer says of a page, in the words of the request: which checks accept it (`generations-tells`), and that
-- no other answer says so (`tells-generations`); an answer other than neither means that document 01's check accepts
-- the page (`generations-check`). Read off the laws of a check with any table. Assumes nothing.
use Prim.Native.Nat.{ℕ}
use mathlib.Core.Path.{◌≡◌, refl, sym, ap, ap₂, ◌∙◌, subst}
use mathlib.Core.Bool.{Bool, true, false}
use mathlib.Core.List.{List}
use native.Mathlib.Omega.{arith}
use lib.Dec.{T}
use Rattle.records.specs.Kind.{Kind}
use Rattle.records.specs.Signature.{Function}
use Rattle.records.specs.Outcome.{Outcome, answer, refusal}
use Rattle.ast.specs.CheckPage.{check_page, outcome_of, check}
use Rattle.functions.specs.Lookup.{check_table_of}
use Rattle.functions.specs.TableContract.{TableDemand3Of}
use Rattle.functions.proofs.CheckTableLaws.{none_bare, table-accepted, table_of-demand3}
use Rattle.std.specs.Prelude.{Result, Ok, Err, is_ok}
use Rattle.walk.specs.Answers as walked
use Rattle.walk.specs.declared.answer.Accepted.{Accepted}
use Rattle.walk.specs.declared.answer.Refused.{Refused}
use Rattle.generations.specs.Older.{older_functions}
use Rattle.generations.specs.Newer.{newer_functions}
use Rattle.generations.specs.Generations.{accepts, accepted_by, generations}
use Rattle.generations.specs.declared.Generations.{Generations}
use Rattle.generations.specs.declared.Generations.TheVariants.{Neither, Older, Newer, Both}

-- ## An outcome that accepts, and one that refuses

pub record Accepts (outcome : Outcome) : Type 0 where
  pub kind : Kind
  pub written : ℕ
  pub is : outcome ≡ answer kind written

pub record Refuses (outcome : Outcome) : Type 0 where
  pub number : ℕ
  pub index : ℕ
  pub is : outcome ≡ refusal number index

-- what a test on an outcome says of it
abbrev Decided : Outcome → Bool → Type 0
Decided o true = Accepts o
Decided o false = Refuses o

decided : (o : Outcome) → Decided o (accepts o)
decided (answer k n) = record { kind = k; written = n; is = refl }
decided (refusal n i) = record { number = n; index = i; is = refl }

accepted : (o : Outcome) → Accepts o → accepts o ≡ true
accepted o a = ap accepts a.is

refused : (o : Outcome) → Refuses o → accepts o ≡ false
refused o r = ap accepts r.is

-- ## What an answer says of a page

abbrev pub Tells : List ℕ → Generations → Type 0
Tells page Neither = Refuses (check_table_of older_functions page) × Refuses (check_table_of newer_functions page)
Tells page Older = Accepts (check_table_of older_functions page) × Refuses (check_table_of newer_functions page)
Tells page Newer = Refuses (check_table_of older_functions page) × Accepts (check_table_of newer_functions page)
Tells page Both = Accepts (check_table_of older_functions page) × Accepts (check_table_of newer_functions page)

module _ (page : List ℕ) where
  pub generations-tells : Tells page (generations page)
  generations-tells =
      by (accepts (check_table_of older_functions page)) (accepts (check_table_of newer_functions page))
      (decided (check_table_of older_functions page)) (decided (check_table_of newer_functions page))
    where
      by : (a b : Bool) → Decided (check_table_of older_functions page) a → Decided (check_table_of newer_functions page) b
          → Tells page (accepted_by a b)
      by true true older newer = (older, newer)
      by true false older newer = (older, newer)
      by false true older newer = (older, newer)
      by false false older newer = (older, newer)

  pub tells-generations : (g : Generations) → Tells page g → generations page ≡ g
  tells-generations Neither (older, newer) = ap₂ accepted_by (refused _ older) (refused _ newer)
  tells-generations Older (older, newer) = ap₂ accepted_by (accepted _ older) (refused _ newer)
  tells-generations Newer (older, newer) = ap₂ accepted_by (refused _ older) (accepted _ newer)
  tells-generations Both (older, newer) = ap₂ accepted_by (accepted _ older) (accepted _ newer)

-- ## The check with a table that accepts

module _ (table : List Function) (page : List ℕ) where
  -- document 01's check gives the same answer
  pub accepts-check : Accepts (check_table_of table page) → check page ≡ check_table_of table page
  accepts-check a = (table-accepted table page a.kind a.written a.is).passes ∙ sym a.is

  -- and demand 3 holds of it with the table's signatures
  pub accepts-demand3 : Accepts (check_table_of table page) → TableDemand3Of table page (check page)
  accepts-demand3 a = subst (TableDemand3Of table page) (sym (accepts-check a)) (table_of-demand3 table page)

-- an answer other than neither: document 01's check accepts the page
pub generations-check : (page : List ℕ) → (generations page ≡ Neither → ⊥) → Accepts (check page)
generations-check page other = by (generations page) (generations-tells page) other
  where
    own : (table : List Function) → Accepts (check_table_of table page) → Accepts (check page)
    own table a = subst Accepts (sym (accepts-check table page a)) a

    by : (g : Generations) → Tells page g → (g ≡ Neither → ⊥) → Accepts (check page)
    by Neither tells other = absurd (other refl)
    by Older tells other = own older_functions tells.0
    by Newer tells other = own newer_functions tells.1
    by Both tells other = own older_functions tells.0

-- ## The numbers that both checks give

-- functions without kinds are fixed, so 29 is none of them
pub older-kinded : T (none_bare older_functions)
unfolding older_functions
older-kinded = tt

pub newer-kinded : T (none_bare newer_functions)
unfolding newer_functions
newer-kinded = tt

-- ## What the code answers

-- an outcome accepts where it is no refusal
pub ok-accepts : (outcome : Result Accepted Refused) → is_ok outcome ≡ accepts (walked.outcome_meant outcome)
ok-accepts (Ok a) = refl
ok-accepts (Err r) = refl

-- of a page that document 01's check refuses
pub refused-neither : {page starts firsts : List ℕ} {n i : ℕ} → walked.Refuses (check_page page) page starts firsts n i
    → Neither ≡ generations page
refused-neither {page} {starts} {firsts} {n} {i} says =
    sym (tells-generations page Neither (refuses older_functions, refuses newer_functions))
  where
    by : (table : List Function) (o : Outcome) → check_table_of table page ≡ o → Refuses o
    by table (answer k m) q =
        let own = accepts-check table page (record { kind = k; written = m; is = q }) in
        let both : ◌≡◌ {A = Outcome} (refusal n i) (answer k m) = sym (ap outcome_of says.refuses) ∙ own ∙ q in
        absurd (let z : ◌≡◌ {A = ℕ} 0 1 = cc in omega arith)
    by table (refusal m j) q = record { number = m; index = j; is = refl }

    refuses : (table : List Function) → Refuses (check_table_of table page)
    refuses table = by table (check_table_of table page) refl

-- from the outcomes of both checks
pub outcomes-generations : (page : List ℕ) {older newer : Outcome} {a b : Bool} {r : Generations}
    → older ≡ check_table_of older_functions page → newer ≡ check_table_of newer_functions page
    → a ≡ accepts older → b ≡ accepts newer → r ≡ accepted_by a b → r ≡ generations page
outcomes-generations page older newer a b r =
    r ∙ ap₂ accepted_by (a ∙ ap accepts older) (b ∙ ap accepts newer)
