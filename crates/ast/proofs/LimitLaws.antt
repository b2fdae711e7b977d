-- The check that follows the operators document, in the words of the request: which pages it accepts (`limit-accepts`,
-- `limit-accepted`), what it refuses (`limit-refused`, `limit-fault`), with which numbers and at which records
-- (`limit-in`, `limit-record`). A record that document 01 lets by has the fault 42 if it is a limitk or limit_ratio
-- whose parameter is no scalar, and only then; the rest is read off the laws of a check by rules. Assumes nothing.
use Prim.Native.Nat.{ℕ, ◌≤◌, ◌<◌}
use mathlib.Core.Path.{◌≡◌, refl, sym, ap, ap₂, subst, ◌∙◌}
use mathlib.Core.Bool.{Bool, true, false, ◌||◌}
use mathlib.Core.List.{List, [], ◌∷◌, map}
use mathlib.Core.Option.{Option, none, some}
use native.Mathlib.Omega.{arith}
use borrow.Author.Tests.{leb-true}
use lib.ListN.{length, take, drop, length-reverse}
use lib.Seq.{length-take-le}
use lib.Dec.{T, leb, eqb}
use Rattle.page.specs.Bytes.{pick}
use Rattle.page.specs.Limits.{record_limit}
use Rattle.records.specs.Kind.{Kind, is_scalar}
use Rattle.records.specs.Code.{is_count_values, rust_asks_scalar, is_limit, has_parameter}
use Rattle.records.specs.Stack.{operands_of}
use Rattle.records.specs.Modifier.{LabelModifier}
use Rattle.records.specs.Record.{Record, leaf, wrapper, binary, aggregate, call, read_page}
use Rattle.records.specs.Outcome.{Outcome, answer, refusal}
use Rattle.ast.specs.Refusal.{Result, refused, ok}
use Rattle.ast.specs.Expr.{Expr, value_type}
use Rattle.ast.specs.Construct.{new_aggregate, new_aggregate_of}
use Rattle.ast.specs.CheckPage.{push, apply, check_page, outcome_of, check}
use Rattle.ast.specs.Table.{is_of_check, record_count, InTable}
use Rattle.ast.specs.Rules.{check_page_by}
use Rattle.ast.specs.Limits.{parameter_fault, limit_fault, with_limits, check_operators, is_of_operators}
use Rattle.ast.proofs.CheckLaws.{answered, refused_with, index_below, check-in}
use Rattle.ast.proofs.WalkLaws.{page-limit}
use Rattle.ast.proofs.RulesLaws.{check_page_by-accepts}
use Rattle.ast.proofs.AfterLaws.{LetByAt, Unfaulted, check_page_by-faultless, check_page_by-unfaulted, check_page_by-faulted}
use Rattle.ast.proofs.RefusedLaws.{Cause, before, document, after, check_page_by-refuses}

-- ## One record

-- a limitk or limit_ratio, with its parameter and its operand on top of the stack
pub record LimitOn (r : Record) (s : List Expr) : Type 0 where
  pub code : ℕ
  pub modifier : Option LabelModifier
  pub parameter : Expr
  pub operand : Expr
  pub below : List Expr
  pub is_aggregate : r ≡ aggregate code modifier 2
  pub limits : is_limit code ≡ true
  pub stands : s ≡ operand ∷ parameter ∷ below

module _ {r : Record} {s : List Expr} where
  abbrev pub has_scalar : LimitOn r s → Bool
  has_scalar x = is_scalar (value_type x.parameter)

  limit-asks : (x : LimitOn r s) → limit_fault r (map value_type s) ≡ pick (has_scalar x) none (some 42)
  limit-asks x =
      ap₂ {C = Option ℕ} (λ y z. limit_fault y (map value_type z)) x.is_aggregate x.stands
      ∙ ap (λ (b : Bool). pick {A = Option ℕ} b (pick (has_scalar x) none (some 42)) none) x.limits

-- ### A limitk that document 01 lets by has two arguments

two-arguments : (c : ℕ) (m : Option LabelModifier) (es : List Expr) (a : Expr) → new_aggregate_of true c m es ≡ ok a → length es ≡ 2
two-arguments c m [] a e = absurd (let z : ◌≡◌ {A = ℕ} 0 1 = cc in omega arith)
two-arguments c m (p ∷ []) a e = absurd (let z : ◌≡◌ {A = ℕ} 0 1 = cc in omega arith)
two-arguments c m (p ∷ x ∷ []) a e = refl
two-arguments c m (p ∷ x ∷ y ∷ es) a e = absurd (let z : ◌≡◌ {A = ℕ} 0 1 = cc in omega arith)

limit-parameter : (c : ℕ) → is_limit c ≡ true → has_parameter c ≡ true
limit-parameter c e = ap (λ (b : Bool). is_count_values c || rust_asks_scalar c || b) e ∙ by (is_count_values c) (rust_asks_scalar c)
  where
    by : (a b : Bool) → (a || b || true) ≡ true
    by true b = refl
    by false true = refl
    by false false = refl

pushed : (made : Result Expr) (below t : List Expr) → push made below ≡ ok t → (a : Expr) × (made ≡ ok a)
pushed (refused n) below t e = absurd (let z : ◌≡◌ {A = ℕ} 0 1 = cc in omega arith)
pushed (ok a) below t e = (a, refl)

-- so many operands on a stack that has them
two_operands : (n : ℕ) (s : List Expr) → n ≤ length s → length (operands_of n s) ≡ 2 → n ≡ 2
two_operands n s h e = omega (arith, e, length-reverse (take n s), length-take-le n s h)

limit-on : (c : ℕ) (m : Option LabelModifier) (n : ℕ) (s t : List Expr) → is_limit c ≡ true → apply (aggregate c m n) s ≡ ok t
    → LimitOn (aggregate c m n) s
unfolding apply
limit-on c m n s t is e = by (leb n (length s)) refl e
  where
    top : (s : List Expr) → n ≡ 2 → n ≤ length s → LimitOn (aggregate c m n) s
    top [] two h = absurd (omega arith)
    top (a ∷ []) two h = absurd (omega arith)
    top (e ∷ p ∷ below) two h = record {
      code = c;
      modifier = m;
      parameter = p;
      operand = e;
      below = below;
      is_aggregate = ap {B = Record} (λ k. aggregate c m k) two;
      limits = is;
      stands = refl;
    }

    by : (b : Bool) → leb n (length s) ≡ b → pick b (push (new_aggregate c m (operands_of n s)) (drop n s)) (refused 2) ≡ ok t
        → LimitOn (aggregate c m n) s
    by true q e =
        let made = pushed (new_aggregate c m (operands_of n s)) (drop n s) t e in
        let parts = ap (λ (b : Bool). new_aggregate_of b c m (operands_of n s)) (sym (limit-parameter c is)) ∙ made.1 in
        let enough = leb-true n (length s) q in
        top s (two_operands n s enough (two-arguments c m (operands_of n s) made.0 parts)) enough
    by false q e = absurd (let z : ◌≡◌ {A = ℕ} 0 1 = cc in omega arith)

-- ### The fault of a record that document 01 lets by

pub record Fault (r : Record) (s : List Expr) (n : ℕ) : Type 0 where
  pub number : n ≡ 42
  pub limit : LimitOn r s
  pub other : has_scalar limit ≡ false

fault-of : (r : Record) (s t : List Expr) (n : ℕ) → apply r s ≡ ok t → limit_fault r (map value_type s) ≡ some n → Fault r s n
fault-of (leaf l) s t n passes e = absurd (let z : ◌≡◌ {A = ℕ} 0 1 = cc in omega arith)
fault-of (wrapper w) s t n passes e = absurd (let z : ◌≡◌ {A = ℕ} 0 1 = cc in omega arith)
fault-of (binary c m) s t n passes e = absurd (let z : ◌≡◌ {A = ℕ} 0 1 = cc in omega arith)
fault-of (aggregate c m k) s t n passes e = by (is_limit c) refl e
  where
    asked : (x : LimitOn (aggregate c m k) s) (b : Bool) → has_scalar x ≡ b → pick {A = Option ℕ} b none (some 42) ≡ some n
        → Fault (aggregate c m k) s n
    asked x true q e = absurd (let z : ◌≡◌ {A = ℕ} 0 1 = cc in omega arith)
    asked x false q e = let same : n ≡ 42 = cc in record { number = same; limit = x; other = q }

    by : (b : Bool) → is_limit c ≡ b → pick {A = Option ℕ} b (parameter_fault (operands_of k (map value_type s))) none ≡ some n
        → Fault (aggregate c m k) s n
    by true q f = let x = limit-on c m k s t q passes in asked x (has_scalar x) refl (sym (limit-asks x) ∙ e)
    by false q f = absurd (let z : ◌≡◌ {A = ℕ} 0 1 = cc in omega arith)
fault-of (call f k) s t n passes e = absurd (let z : ◌≡◌ {A = ℕ} 0 1 = cc in omega arith)

-- ## A page

module _ (page : List ℕ) where
  -- of the first so many records each limitk and limit_ratio that document 01's check lets by has a scalar parameter
  abbrev pub ScalarParameters : ℕ → Type 0
  ScalarParameters k =
      (i : ℕ) (r : Record) (s t : List Expr) → i < k → LetByAt page i r s t → (x : LimitOn r s) → has_scalar x ≡ true

  abbrev Passed : ℕ → Type 0
  Passed k = Unfaulted with_limits k 0 [] (read_page page).records

  scalar-passed : (k : ℕ) → ScalarParameters k → Passed k
  scalar-passed k h i r s t below x = by (limit_fault r (map value_type s)) refl
    where
      never : (b : Bool) → b ≡ true → b ≡ false → ⊥
      never true e f = let z : ◌≡◌ {A = ℕ} 0 1 = cc in omega arith
      never false e f = let z : ◌≡◌ {A = ℕ} 0 1 = cc in omega arith

      by : (f : Option ℕ) → limit_fault r (map value_type s) ≡ f → f ≡ none
      by none e = refl
      by (some n) e =
          let fault = fault-of r s t n x.passes e in
          absurd (never (has_scalar fault.limit) (h i r s t below x fault.limit) fault.other)

  passed-scalar : (k : ℕ) → Passed k → ScalarParameters k
  passed-scalar k h i r s t below x limit = by (has_scalar limit) (sym (limit-asks limit) ∙ h i r s t below x)
    where
      by : (b : Bool) → pick {A = Option ℕ} b none (some 42) ≡ none → b ≡ true
      by true e = refl
      by false e = absurd (let z : ◌≡◌ {A = ℕ} 0 1 = cc in omega arith)

  -- a page that it accepts: document 01's check accepts it with the same kind, and the parameters are scalars
  pub limit-accepted : (kind : Kind) (written : ℕ) → check_operators page ≡ answer kind written
      → (check page ≡ answer kind written) × ScalarParameters (record_count page)
  limit-accepted kind written e =
      let found = answered (check_page_by with_limits page) kind written e in
      let own = check_page_by-accepts with_limits page found.0 found.1 found.2 in (
        ap outcome_of (own ∙ sym found.2) ∙ e,
        passed-scalar (record_count page) (check_page_by-faultless with_limits page found.0 found.1 found.2),
      )

  -- and every page with such parameters is judged as by document 01's check
  pub limit-accepts : ScalarParameters (record_count page) → check_operators page ≡ check page
  limit-accepts h = ap outcome_of (check_page_by-unfaulted with_limits (λ r. refl) page (scalar-passed (record_count page) h))

  -- what refuses a page: a limitk or limit_ratio that document 01's check lets by, with a parameter that is no
  -- scalar; or that check
  pub data Refuser (n i : ℕ) : Type 0 where
    limit-refuses : n ≡ 42 → (r : Record) (s t : List Expr) → LetByAt page i r s t → (x : LimitOn r s) → has_scalar x ≡ false → Refuser n i
    own-refusal : check page ≡ refusal n i → Refuser n i

  -- it is the first: the parameters before it are scalars, and document 01's check refuses no record before it
  pub record Refused (n i : ℕ) : Type 0 where
    pub refuser : Refuser n i
    pub passed : ScalarParameters i
    pub first : (m j : ℕ) → check page ≡ refusal m j → i ≤ j

  pub limit-refused : (n i : ℕ) → check_operators page ≡ refusal n i → Refused n i
  limit-refused n i e =
      let under = check_page_by-refuses with_limits page n i (refused_with (check_page_by with_limits page) n i e) in
      record {
        refuser = by under.cause;
        passed = passed-scalar i under.unfaulted;
        first = λ m j q. under.first m j (refused_with (check_page page) m j q);
      }
    where
      by : Cause with_limits page n i → Refuser n i
      by (before r later s never) = absurd (let z : ◌≡◌ {A = ℕ} 0 1 = cc in omega arith)
      by (document q passed) = own-refusal (ap outcome_of q)
      by (after r s t x q) =
          let fault = fault-of r s t n x.passes q in limit-refuses fault.number r s t x fault.limit fault.other

  -- the first such record is refused with 42, where document 01's check lets it by
  pub limit-fault : (i : ℕ) (r : Record) (s t : List Expr) → LetByAt page i r s t → ScalarParameters i
      → (x : LimitOn r s) → has_scalar x ≡ false → check_operators page ≡ refusal 42 i
  limit-fault i r s t reached h x other =
      ap outcome_of
      (check_page_by-faulted with_limits (λ r. refl) page i 42 r s t reached (scalar-passed i h)
      (limit-asks x ∙ ap (λ (b : Bool). pick {A = Option ℕ} b none (some 42)) other))

  -- a refusal is one of document 01's check, or 42; its record is one of the page's, or their number
  pub limit-in : InTable is_of_operators page (check_operators page)
  limit-in = by (check_operators page) refl
    where
      own-number : (a b : Bool) → T a → T (a || b)
      own-number true b h = tt
      own-number false b h = absurd h

      added : (n : ℕ) → n ≡ 42 → T (is_of_operators n)
      added n same = subst (λ (m : ℕ). T (is_of_operators m)) (sym same) tt

      by-refuser : (n i : ℕ) → Refuser n i → T (is_of_operators n) × (i ≤ record_count page)
      by-refuser n i (limit-refuses same r s t x limit other) = (added n same, index_below i (read_page page).records x.stands)
      by-refuser n i (own-refusal q) =
          let own = subst (InTable is_of_check page) q (check-in page) in
          (own-number (is_of_check n) (eqb n 42) own.0, own.1)

      by : (o : Outcome) → check_operators page ≡ o → InTable is_of_operators page o
      by (answer k n) e = tt
      by (refusal n i) e = by-refuser n i (limit-refused n i e).refuser

  pub limit-record : (n i : ℕ) → check_operators page ≡ refusal n i → i ≤ 256
  limit-record n i e = within (subst (InTable is_of_operators page) e limit-in).1 (page-limit page)
    where
      within : i ≤ record_count page → record_count page ≤ record_limit → i ≤ 256
      within g l = omega arith
