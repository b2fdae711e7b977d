-- Two tables beside each other: a page without a call of the names that they differ in they judge alike
-- (`uncalled-alike`), what one accepts and the other refuses has a call of such a name (`apart-calls`), and what a
-- table accepts, one that has all its rows accepts too (`rows-accept`). For any tables. Assumes nothing.
use Prim.Native.Nat.{ℕ, suc}
use mathlib.Core.Path.{◌≡◌, refl, sym, ap, ◌∙◌, subst}
use mathlib.Core.Bool.{Bool, true, false}
use mathlib.Core.List.{List, [], ◌∷◌}
use mathlib.Core.Option.{Option, none, some}
use native.Mathlib.Omega.{arith}
use lib.ListN.{drop}
use lib.Dec.{T}
use Rattle.page.specs.Bytes.{pick, all, equal}
use Rattle.page.specs.Text.{Text}
use Rattle.records.specs.Signature.{Function}
use Rattle.records.specs.Record.{Record, leaf, wrapper, binary, aggregate, call, read_page}
use Rattle.records.specs.Outcome.{Outcome, answer, refusal}
use Rattle.ast.specs.Refusal.{unless, and_then}
use Rattle.ast.specs.Expr.{Expr}
use Rattle.ast.specs.CheckPage.{apply, outcome_of}
use Rattle.ast.specs.Rules.{guarded, apply_by}
use Rattle.ast.proofs.EachLaws.{each-places, each_take, each_last}
use Rattle.ast.proofs.RulesLaws.{check_page_by-same}
use Rattle.functions.specs.Lookup.{lookup, equal_signature, unlike, signature_fault, with_table, check_table_of}
use Rattle.functions.proofs.OrderLaws.{equal-texts}
use Rattle.functions.proofs.SignedLaws.{like-passes}
use Rattle.functions.proofs.CheckTableLaws.{Faultless, Refuser, call-refused, own-refusal}
use Rattle.functions.proofs.CheckTableLaws.{table-accepted, table-accepts, table-refused}
use Rattle.generations.specs.Apart.{without, is_alike, is_row_of}
use Rattle.generations.proofs.GenerationsLaws.{Accepts, Refuses, accepts-check}

-- ## without

-- other names are found as before
lookup-without : (table : List Function) (x name : Text) → equal x name ≡ false
    → lookup (without x table) name ≡ lookup table name
unfolding lookup
lookup-without [] x name e = refl
lookup-without (f ∷ fs) x name e = by (lookup-without fs x name e) (equal f.name x) refl
  where
    by : lookup (without x fs) name ≡ lookup fs name → (b : Bool) → equal f.name x ≡ b
        → lookup (pick b (without x fs) (f ∷ without x fs)) name ≡ pick (equal f.name name) (some f) (lookup fs name)
    by more true q =
        let same = equal-texts f.name x (subst (λ (b : Bool). T b) (sym q) tt) in
        more ∙ ap (λ (b : Bool). pick b (some f) (lookup fs name)) (sym (ap (λ (t : Text). equal t name) same ∙ e))
    by more false q = ap (pick (equal f.name name) (some f)) more

-- ## Calls of a page

abbrev CallAt : List Record → ℕ → Function → ℕ → List Record → Type 0
CallAt records i f n later = drop i records ≡ call f n ∷ later

pub record Calls (page : List ℕ) (name : Text) : Type 0 where
  pub place : ℕ
  pub function : Function
  pub count : ℕ
  pub later : List Record
  pub stands : drop place (read_page page).records ≡ call function count ∷ later
  pub named : function.name ≡ name

module _ (table : List Function) (page : List ℕ) (passes : Accepts (check_table_of table page)) where
  faultless : Faultless table (read_page page).records
  faultless = (table-accepted table page passes.kind passes.written passes.is).faultless

  -- no call of an accepted page has a fault beside the table
  call-like : (i : ℕ) (f : Function) (n : ℕ) (later : List Record) → CallAt (read_page page).records i f n later
      → unlike f (lookup table f.name) ≡ none
  call-like i f n later s =
      each_last (λ r. signature_fault table r ≡ none) (read_page page).records i s
      (each_take (λ r. signature_fault table r ≡ none) (suc i) (read_page page).records faultless)

  -- so none has a name that the table lacks
  pub accepts-known : (name : Text) → lookup table name ≡ none → Calls page name → ⊥
  accepts-known name lacks calls =
      let like = call-like calls.place calls.function calls.count calls.later calls.stands in
      let unknown = ap (unlike calls.function) (ap (lookup table) calls.named ∙ lacks) in
      let both : ◌≡◌ {A = Option ℕ} none (some 37) = sym like ∙ unknown in
      absurd (let z : ◌≡◌ {A = ℕ} 0 1 = cc in omega arith)

-- another name than this one, by the test
name-apart : (x name : Text) → (name ≡ x → ⊥) → equal x name ≡ false
name-apart x name apart = by (equal x name) refl
  where
    by : (b : Bool) → equal x name ≡ b → b ≡ false
    by true e = absurd (apart (sym (equal-texts x name (subst (λ (b : Bool). T b) (sym e) tt))))
    by false e = refl

-- ## Two tables that differ in one name

-- x is the name of the one, y that of the other, which the one lacks
pub record Apart (one other : List Function) (x y : Text) : Type 0 where
  pub alike : without x one ≡ without y other
  pub lacks : lookup one y ≡ none

module _ (one other : List Function) (x y : Text) (apart : Apart one other x y) where
  lookup-alike : (name : Text) → equal x name ≡ false → equal y name ≡ false → lookup one name ≡ lookup other name
  lookup-alike name p q =
      sym (lookup-without one x name p) ∙ ap (λ (table : List Function). lookup table name) apart.alike
      ∙ lookup-without other y name q

  -- a page that calls neither they judge alike
  pub uncalled-alike : (page : List ℕ) → (Calls page x → ⊥) → (Calls page y → ⊥)
      → check_table_of one page ≡ check_table_of other page
  uncalled-alike page no-x no-y =
      ap outcome_of (check_page_by-same (with_table one) (with_table other) page
      (each-places (λ r. (s : List Expr) → apply_by (with_table one) r s ≡ apply_by (with_table other) r s)
      (read_page page).records by))
    where
      unequal : (k : ℕ) (f : Function) (n : ℕ) (later : List Record) → CallAt (read_page page).records k f n later
          → (name : Text) → (Calls page name → ⊥) → equal name f.name ≡ false
      unequal k f n later e name none-called =
          name-apart name f.name
          (λ named. none-called (record { place = k; function = f; count = n; later = later; stands = e; named = named }))

      by : (k : ℕ) (r : Record) (later : List Record) → drop k (read_page page).records ≡ r ∷ later
          → (s : List Expr) → apply_by (with_table one) r s ≡ apply_by (with_table other) r s
      by k (leaf l) later e s = refl
      by k (wrapper w) later e s = refl
      by k (binary c m) later e s = refl
      by k (aggregate c m n) later e s = refl
      by k (call f n) later e s =
          let same = lookup-alike f.name (unequal k f n later e x no-x) (unequal k f n later e y no-y) in
          ap (λ (b : Option ℕ). guarded b (and_then (apply (call f n) s) (λ t. unless none t))) (ap (unlike f) same)

  -- what the one accepts and the other refuses has a call of x
  pub apart-calls : (page : List ℕ) → Accepts (check_table_of one page) → Refuses (check_table_of other page) → Calls page x
  apart-calls page passes fails = by (table-refused other page fails.number fails.index fails.is).refuser
    where
      found : (f : Function) (n : ℕ) (later : List Record) → CallAt (read_page page).records fails.index f n later
          → (name : Text) → T (equal name f.name) → Calls page name
      found f n later s name h = record {
        place = fails.index;
        function = f;
        count = n;
        later = later;
        stands = s;
        named = sym (equal-texts name f.name h);
      }

      which : (f : Function) (n : ℕ) (later : List Record) → CallAt (read_page page).records fails.index f n later
          → unlike f (lookup other f.name) ≡ some fails.number
          → (a b : Bool) → equal x f.name ≡ a → equal y f.name ≡ b → Calls page x
      which f n later s fault true b p q = found f n later s x (subst (λ (b : Bool). T b) (sym p) tt)
      which f n later s fault false true p q =
          let called = found f n later s y (subst (λ (b : Bool). T b) (sym q) tt) in
          absurd (accepts-known one page passes y apart.lacks called)
      which f n later s fault false false p q =
          let like = call-like one page passes fails.index f n later s in
          let both : ◌≡◌ {A = Option ℕ} none (some fails.number)
          = sym like ∙ ap (unlike f) (lookup-alike f.name p q) ∙ fault in
          absurd (let z : ◌≡◌ {A = ℕ} 0 1 = cc in omega arith)

      by : Refuser other page fails.number fails.index → Calls page x
      by (call-refused f n later s fault) = which f n later s fault (equal x f.name) (equal y f.name) refl refl
      by (own-refusal own passed) =
          let both : ◌≡◌ {A = Outcome} (refusal fails.number fails.index) (answer passes.kind passes.written)
          = sym own ∙ accepts-check one page passes ∙ passes.is in
          absurd (let z : ◌≡◌ {A = ℕ} 0 1 = cc in omega arith)

-- ## A table that has the rows of another

row-like : (table : List Function) (f : Function) → T (is_row_of table f) → unlike f (lookup table f.name) ≡ none
row-like table f h = by (lookup table f.name) h
  where
    like : (g : Function) (b : Bool) → T b → pick {A = Option ℕ} b none (some 38) ≡ none
    like g true h = refl
    like g false h = absurd h

    by : (found : Option Function) → T (is_alike (some f) found) → unlike f found ≡ none
    by none h = absurd h
    by (some g) h = like g (equal_signature f g) h

-- all rows of the one but those of the name x
module _ (one other : List Function) (x : Text) (rows : T (all (is_row_of other) (without x one))) where
  call-row : (f : Function) → unlike f (lookup one f.name) ≡ none → (f.name ≡ x → ⊥)
      → unlike f (lookup other f.name) ≡ none
  call-row f e apart =
      let others = lookup-without one x f.name (name-apart x f.name apart) in
      row-like other f (like-passes (is_row_of other) (without x one) rows f (ap (unlike f) others ∙ e))

  -- what the one accepts without a call of x, the other accepts with the same kind
  pub rows-accept : (page : List ℕ) → Accepts (check_table_of one page) → (Calls page x → ⊥)
      → check_table_of other page ≡ check_table_of one page
  rows-accept page passes no-x =
      table-accepts other page (each-places (λ r. signature_fault other r ≡ none) (read_page page).records by)
      ∙ accepts-check one page passes
    where
      by : (k : ℕ) (r : Record) (later : List Record) → drop k (read_page page).records ≡ r ∷ later
          → signature_fault other r ≡ none
      by k (leaf l) later e = refl
      by k (wrapper w) later e = refl
      by k (binary c m) later e = refl
      by k (aggregate c m n) later e = refl
      by k (call f n) later e =
          call-row f (call-like one page passes k f n later e)
          (λ named. no-x (record { place = k; function = f; count = n; later = later; stands = e; named = named }))
