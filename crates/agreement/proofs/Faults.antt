-- The faults of the check (`CheckAst`) against what the documents ask (`WorkingOut`), tree by tree, in terms of kinds.
-- Aggregates with the added check's row 42 behind check's rows; what check's rows say follows (`without-last`).
use Prim.Native.Nat.{ℕ, suc, ◌+◌, ◌-◌, min}
use mathlib.Core.Path.{◌≡◌, refl, sym, ap, ap₂, ◌∙◌, subst}
use mathlib.Core.Bool.{Bool, true, false, ◌&&◌, ◌||◌, not}
use mathlib.Core.List.{List, [], ◌∷◌, ◌++◌}
use mathlib.Core.Option.{Option, none, some}
use native.Mathlib.Nat.{min-zero, zero-min}
use native.Mathlib.Omega.{arith}
use lib.ListN.{length, get_or}
use lib.Dec.{T, ltb, eqb}
use Rattle.page.specs.Bytes.{pick, is_empty, any}
use Rattle.page.proofs.NumberLaws.{left-of, right_of}
use Rattle.records.specs.Kind.{Kind, vector, scalar, matrix, string, is_vector, is_scalar, is_string, equal_kind}
use Rattle.records.specs.Code.{is_operator, is_aggregator, is_comparison, is_set_operator, is_count_values, rust_asks_scalar, is_limit, has_parameter}
use Rattle.records.specs.Literal.{Literal}
use Rattle.records.specs.Field.{has}
use Rattle.records.specs.Modifier.{BinModifier}
use Rattle.records.specs.Signature.{Function, Variadic, fixed, unlimited, up_to}
use Rattle.ast.specs.Refusal.{Row, when, or_else, first_fault}
use Rattle.ast.specs.CheckAst.{returns_bool, is_joint, is_grouped, has_matching_labels, is_operand, binary_rows, aggregate_rows}
use Rattle.ast.specs.CheckAst.{arity_rows, args_match, args_rows, call_rows}
use Rattle.records.specs.LiteralException.{is_exempt}
use Rattle.working_out.specs.Asked.{Group, group_of, is_operator_group, is_aggregator_group, sides_allowed, has_bool, arguments_allowed, declared_kind, are_declared}
use Rattle.working_out.specs.Demand3.{documented_refusals}
use Rattle.agreement.proofs.Bools.{both, not-not, neither_left, neither_right, either-right, fails-left, fails-right}
use Rattle.agreement.proofs.Codes.{OperatorCase, is_arithmetic, is_comparing, is_set, operator_case, AggregatorCase}
use Rattle.agreement.proofs.Codes.{is_plain, is_counting, is_scaled, is_limiting, aggregator_case}

-- for kinds, in check or in the added check
abbrev pub is_kind_refusal : ℕ → Bool
is_kind_refusal n = any (eqb n) documented_refusals

-- no fault: a record not set aside is in place and its operands are as asked. A kind refusal: it is in place, and they
-- are not
abbrev pub Claimed : Bool → Bool → Bool → Option ℕ → Type 0
Claimed ordinary in_place allowed none = T ordinary → T in_place × T allowed
Claimed ordinary in_place allowed (some n) = T (is_kind_refusal n) → T in_place × T (not allowed)

-- the same as a record, from which antt reads the arguments off
pub record FaultClaim (ordinary in_place allowed : Bool) (f : Option ℕ) : Type 0 where
  pub claim : Claimed ordinary in_place allowed f

-- a row of the table: what holds where its test passes, and where it fails
module _ {o p a : Bool} where
  pub row : (b : Bool) (n : ℕ) (f : Option ℕ) → (T b → T (is_kind_refusal n) → T p × T (not a))
      → (T (not b) → FaultClaim o p a f) → FaultClaim o p a (or_else (when b n) f)
  row true n f yes' no' = record { claim = yes' tt }
  row false n f yes' no' = no' tt

  -- past the last row
  pub fine : (T o → T p × T a) → FaultClaim o p a none
  fine h = record { claim = h }

-- without its last row a table says the same of what that row does not refuse
pub without-last : {p a : Bool} (rows : List Row) (b : Bool) (n : ℕ) → FaultClaim true p a (first_fault (rows ++ when b n ∷ []))
    → FaultClaim (not b) p a (first_fault rows)
without-last [] true n h = fine (λ o. absurd o)
without-last [] false n h = h
without-last (when true m ∷ rows) b n h = record { claim = h.claim }
without-last (when false m ∷ rows) b n h = without-last rows b n h

-- ## Binary expressions

-- comparing scalars without bool
compared : (b l r : Bool) → T (((true && l) && r) && not b) → T (not (b || not (l && r)))
compared true l r h = absurd (right_of (l && r) false h)
compared false true true h = tt
compared false true false h = h
compared false false r h = h

compares : (b l r : Bool) → T (not (((true && l) && r) && not b)) → T (b || not (l && r))
compares true l r h = tt
compares false true true h = h
compares false true false h = tt
compares false false r h = tt

scalar-no-vector : (l r : Kind) → T (is_scalar l || is_scalar r) → T (not (is_vector l && is_vector r))
scalar-no-vector vector vector h = h
scalar-no-vector vector scalar h = tt
scalar-no-vector vector matrix h = tt
scalar-no-vector vector string h = tt
scalar-no-vector scalar r h = tt
scalar-no-vector matrix r h = tt
scalar-no-vector string r h = tt

no-operand-no-vector : (l r : Kind) → T (not (is_operand l && is_operand r)) → T (not (is_vector l && is_vector r))
no-operand-no-vector vector vector h = h
no-operand-no-vector vector scalar h = tt
no-operand-no-vector vector matrix h = tt
no-operand-no-vector vector string h = tt
no-operand-no-vector scalar r h = tt
no-operand-no-vector matrix r h = tt
no-operand-no-vector string r h = tt

vector-operand : (k : Kind) → T (not (is_scalar k)) → T (is_operand k) → T (is_vector k)
vector-operand vector h g = tt
vector-operand scalar h g = absurd h
vector-operand matrix h g = g
vector-operand string h g = g

abbrev Sides : Group → Bool → Bool → Bool → Bool → Bool → Bool → Kind → Kind → Type 0
Sides g cmp set b grouped labels j l r =
    FaultClaim true (is_operator_group g) (sides_allowed g b l r) (first_fault (
    when (b && not cmp) 17
    ∷ when (cmp && is_scalar l && is_scalar r && not b) 18
    ∷ when j 19
    ∷ when (set && (is_scalar l || is_scalar r)) 20
    ∷ when (set && is_vector l && is_vector r && grouped) 21
    ∷ when (not (is_operand l && is_operand r)) 22
    ∷ when (not (is_vector l && is_vector r) && labels) 23
    ∷ []))

sides : (g : Group) (cmp set : Bool) → OperatorCase g cmp set → (b grouped labels : Bool) (j : Bool) (l r : Kind) → Sides g cmp set b grouped labels j l r
sides g cmp set is_arithmetic b grouped labels j l r =
    row (b && true) 17 _ (λ h k. absurd k) λ h₁.
    row j 19 _ (λ h k. absurd k) λ h₀.
    (row (not (is_operand l && is_operand r)) 22 _ (λ h k. (tt, h)) λ h₂.
    row (not (is_vector l && is_vector r) && labels) 23 _ (λ h k. absurd k) λ h₃.
    fine (λ o. (tt, not-not (is_operand l && is_operand r) h₂)))
sides g cmp set is_comparing b grouped labels j l r =
    row (b && false) 17 _ (λ h k. absurd k) λ h₁.
    row (is_scalar l && is_scalar r && not b) 18 _ (λ h k. (tt, fails-right (is_operand l && is_operand r) _ (compared b (is_scalar l) (is_scalar r) h))) λ h₂.
    row j 19 _ (λ h k. absurd k) λ h₀.
    (row (not (is_operand l && is_operand r)) 22 _ (λ h k. (tt, fails-left (is_operand l && is_operand r) _ h)) λ h₃.
    row (not (is_vector l && is_vector r) && labels) 23 _ (λ h k. absurd k) λ h₄.
    fine (λ o. (tt, both (is_operand l && is_operand r) _ (not-not (is_operand l && is_operand r) h₃) (compares b (is_scalar l) (is_scalar r) h₂))))
sides g cmp set is_set b grouped labels j l r =
    row (b && true) 17 _ (λ h k. absurd k) λ h₁.
    row j 19 _ (λ h k. absurd k) λ h₀.
    (row (is_scalar l || is_scalar r) 20 _ (λ h k. (tt, scalar-no-vector l r h)) λ h₂.
    row (is_vector l && is_vector r && grouped) 21 _ (λ h k. absurd k) λ h₃.
    row (not (is_operand l && is_operand r)) 22 _ (λ h k. (tt, no-operand-no-vector l r h)) λ h₄.
    row (not (is_vector l && is_vector r) && labels) 23 _ (λ h k. absurd k) λ h₅.
    fine (λ o. (
      tt,
      both (is_vector l) (is_vector r)
          (vector-operand l (neither_left (is_scalar l) (is_scalar r) h₂) (left-of (is_operand l) (is_operand r) (not-not (is_operand l && is_operand r) h₄)))
          (vector-operand r (neither_right (is_scalar l) (is_scalar r) h₂) (right_of (is_operand l) (is_operand r) (not-not (is_operand l && is_operand r) h₄))),
    )))

pub binary_claim : (c : ℕ) (m : Option BinModifier) (l r : Kind)
    → FaultClaim true (is_operator_group (group_of c)) (sides_allowed (group_of c) (has_bool m) l r) (first_fault (binary_rows c m l r))
binary_claim c m l r =
    (row (not (is_operator c)) 16 _ (λ h k. absurd k) λ h.
    sides (group_of c) (is_comparison c) (is_set_operator c) (operator_case c (not-not (is_operator c) h)) (returns_bool m)
    (is_grouped m) (has_matching_labels m) (is_joint m) l r)

-- ## Aggregates

-- the added check's row, of the first argument
abbrev pub limit_row : ℕ → Kind → Row
limit_row c k = when (is_limit c && not (is_scalar k)) 42

abbrev One : Group → Bool → Bool → Bool → Kind → Type 0
One g counts scaled limits e =
    FaultClaim true (is_aggregator_group g) (is_vector e) (first_fault (
    when (not (is_vector e)) 25
    ∷ when (scaled && not (has is_scalar none)) 25
    ∷ when (counts && not (has is_string none)) 25
    ∷ when (limits && not (is_scalar e)) 42
    ∷ []))

one : (g : Group) (counts scaled limits : Bool) → AggregatorCase g counts scaled limits
    → T (not ((counts || scaled) || limits)) → (e : Kind) → One g counts scaled limits e
one g counts scaled limits is_plain n e = row (not (is_vector e)) 25 none (λ h k. (tt, h)) λ h. fine (λ o. (tt, not-not (is_vector e) h))
one g counts scaled limits is_counting n e = absurd n
one g counts scaled limits is_scaled n e = absurd n
one g counts scaled limits is_limiting n e = absurd n

-- an aggregate of one argument
pub aggregate_claim : (c : ℕ) → T (not (has_parameter c)) → (e : Kind)
    → FaultClaim true (is_aggregator_group (group_of c)) (is_vector e) (first_fault (aggregate_rows c none e ++ limit_row c e ∷ []))
aggregate_claim c n e =
    row (not (is_aggregator c)) 24 _ (λ h k. absurd k) λ h.
    one (group_of c) (is_count_values c) (rust_asks_scalar c) (is_limit c) (aggregator_case c (not-not (is_aggregator c) h)) n e

abbrev Two : Group → Bool → Bool → Bool → Kind → Kind → Type 0
Two g counts scaled limits p e =
    FaultClaim true (is_aggregator_group g) (arguments_allowed g (p ∷ e ∷ [])) (first_fault (
    when (not (is_vector e)) 25
    ∷ when (scaled && not (has is_scalar (some p))) 25
    ∷ when (counts && not (has is_string (some p))) 25
    ∷ when (limits && not (is_scalar p)) 42
    ∷ []))

two : (g : Group) (counts scaled limits : Bool) → AggregatorCase g counts scaled limits → (p e : Kind) → Two g counts scaled limits p e
two g counts scaled limits is_plain p e =
    row (not (is_vector e)) 25 none (λ h k. (tt, fails-left (is_vector e) _ h)) λ h. fine (λ o. (tt, both (is_vector e) _ (not-not (is_vector e) h) tt))
two g counts scaled limits is_counting p e =
    row (not (is_vector e)) 25 _ (λ h k. (tt, fails-left (is_vector e) _ h)) λ h.
    row (not (is_string p)) 25 none (λ h' k. (tt, fails-right (is_vector e) (is_string p) h')) λ h'.
    fine (λ o. (tt, both (is_vector e) (is_string p) (not-not (is_vector e) h) (not-not (is_string p) h')))
two g counts scaled limits is_scaled p e =
    row (not (is_vector e)) 25 _ (λ h k. (tt, fails-left (is_vector e) _ h)) λ h.
    row (not (is_scalar p)) 25 none (λ h' k. (tt, fails-right (is_vector e) (is_scalar p) h')) λ h'.
    fine (λ o. (tt, both (is_vector e) (is_scalar p) (not-not (is_vector e) h) (not-not (is_scalar p) h')))
two g counts scaled limits is_limiting p e =
    row (not (is_vector e)) 25 _ (λ h k. (tt, fails-left (is_vector e) _ h)) λ h.
    row (not (is_scalar p)) 42 none (λ h' k. (tt, fails-right (is_vector e) (is_scalar p) h')) λ h'.
    fine (λ o. (tt, both (is_vector e) (is_scalar p) (not-not (is_vector e) h) (not-not (is_scalar p) h')))

-- an aggregate of a parameter and an argument
pub aggregate_param_claim : (c : ℕ) (p e : Kind)
    → FaultClaim true (is_aggregator_group (group_of c)) (arguments_allowed (group_of c) (p ∷ e ∷ []))
    (first_fault (aggregate_rows c (some p) e ++ limit_row c p ∷ []))
aggregate_param_claim c p e =
    row (not (is_aggregator c)) 24 _ (λ h k. absurd k) λ h.
    two (group_of c) (is_count_values c) (rust_asks_scalar c) (is_limit c) (aggregator_case c (not-not (is_aggregator c) h)) p e

-- ## Calls

-- past its first entry a signature goes on as the rest of it; the last entry stays
declared-suc : (k j : Kind) (ks : List Kind) (i : ℕ) → declared_kind (k ∷ j ∷ ks) (suc i) ≡ declared_kind (j ∷ ks) i
declared-suc k j ks i = ap (λ (n : ℕ). get_or (k ∷ j ∷ ks) n vector) (suc-min i (length ks))
  where
    suc-min : (i n : ℕ) → min (suc i) (suc (suc n) - 1) ≡ suc (min i (suc n - 1))
    suc-min i n = omega arith

declared-last : (k : Kind) (i : ℕ) → declared_kind (k ∷ []) i ≡ k
declared-last k i = ap (λ (n : ℕ). get_or (k ∷ []) n vector) (min-zero i)

are-suc : (k j : Kind) (ks : List Kind) (i : ℕ) (args : List Kind) → are_declared (k ∷ j ∷ ks) (suc i) args ≡ are_declared (j ∷ ks) i args
are-suc k j ks i [] = refl
are-suc k j ks i (a ∷ more) = ap₂ (λ (d : Kind) (b : Bool). equal_kind d a && b) (declared-suc k j ks i) (are-suc k j ks (suc i) more)

are-last : (k : Kind) (i : ℕ) (args : List Kind) → are_declared (k ∷ []) (suc i) args ≡ are_declared (k ∷ []) i args
are-last k i [] = refl
are-last k i (a ∷ more) = ap₂ (λ (d : Kind) (b : Bool). equal_kind d a && b) (declared-last k (suc i) ∙ sym (declared-last k i)) (are-last k (suc i) more)

declared-first : (k : Kind) (ks : List Kind) → declared_kind (k ∷ ks) 0 ≡ k
declared-first k ks = ap (λ (n : ℕ). get_or (k ∷ ks) n vector) (zero-min (suc (length ks) - 1))

matches : (k : Kind) (ks args : List Kind) → args_match (k ∷ ks) args ≡ are_declared (k ∷ ks) 0 args
matches k ks [] = refl
matches k [] (a ∷ more) = ap₂ (λ (d : Kind) (b : Bool). equal_kind d a && b) (sym (declared-first k [])) (matches k [] more ∙ sym (are-last k 0 more))
matches k (j ∷ js) (a ∷ more) =
    ap₂ (λ (d : Kind) (b : Bool). equal_kind d a && b) (sym (declared-first k (j ∷ js)))
    (matches j js more ∙ sym (are-suc k j js 0 more))

-- an argument list and a signature that do not end the working-out
abbrev signed : List Kind → List Kind → Bool
signed ks args = eqb (length args) 0 || not (is_empty ks)

args_claim : (ks args : List Kind) → FaultClaim true (signed ks args) (are_declared ks 0 args) (first_fault (args_rows ks args))
args_claim [] [] = fine (λ o. (tt, tt))
args_claim [] (a ∷ more) = record { claim = λ k. absurd k }
args_claim (k ∷ ks) args =
    subst (λ (b : Bool). FaultClaim true (signed (k ∷ ks) args) b (first_fault (args_rows (k ∷ ks) args))) (matches k ks args)
    (row (not (args_match (k ∷ ks) args)) 30 none
    (λ h _. (either-right (eqb (length args) 0) true tt, h))
    (λ h. fine (λ o. (either-right (eqb (length args) 0) true tt, not-not (args_match (k ∷ ks) args) h))))

exempt_claim : (ex : Bool) (p a : Bool) (rows : List Row) → FaultClaim true p a (first_fault rows) → FaultClaim (not ex) p a (first_fault (pick ex [] rows))
exempt_claim true p a rows h = fine (λ o. absurd o)
exempt_claim false p a rows h = h

arity_claim : (v : Variadic) (kinds args : ℕ) (o p a : Bool) (rows : List Row) → FaultClaim o p a (first_fault rows)
    → FaultClaim o p a (first_fault (arity_rows v kinds args ++ rows))
arity_claim fixed kinds args o p a rows h = row (not (eqb kinds args)) 26 _ (λ _ k. absurd k) (λ _. h)
arity_claim unlimited kinds args o p a rows h = row (ltb args (kinds - 1)) 27 _ (λ _ k. absurd k) (λ _. h)
arity_claim (up_to n) kinds args o p a rows h =
    row (ltb args (kinds - 1)) 27 _ (λ _ k. absurd k) λ _. row (ltb (kinds - 1 + n) args) 28 _ (λ _ k. absurd k) (λ _. h)

pub call_claim : (f : Function) (first : Option Literal) (args : List Kind)
    → FaultClaim (not (is_exempt f.name first)) (signed f.arg_types args) (are_declared f.arg_types 0 args) (first_fault (call_rows f first args))
call_claim f first args =
    arity_claim f.variadic (length f.arg_types) (length args) _ _ _ (pick (is_exempt f.name first) [] (args_rows f.arg_types args))
    (exempt_claim (is_exempt f.name first) (signed f.arg_types args) (are_declared f.arg_types 0 args) (args_rows f.arg_types args)
    (args_claim f.arg_types args))
