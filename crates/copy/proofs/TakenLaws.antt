-- Range, subquery, @, offset, unary and paren in a walk over plain records: each is taken over, as it stands, into the
-- records of the tree that it makes of the one on top. What might have changed it, a unary on a number or an @ behind an
-- offset, does not follow. Assumes nothing.
use Prim.Native.Nat.{ℕ}
use mathlib.Core.Path.{◌≡◌, refl, sym, ap, subst, ◌∙◌}
use mathlib.Core.Bool.{Bool, true, false, ◌&&◌}
use mathlib.Core.List.{List, [], ◌∷◌, ◌++◌, append_assoc}
use mathlib.Core.Option.{Option, none, some, none-ne-some}
use native.Mathlib.Omega.{arith}
use Rattle.records.specs.Literal.{Literal, negate}
use Rattle.records.specs.Matcher.{Selector}
use Rattle.records.specs.Time.{Times, AtModifier, Offset}
use Rattle.records.specs.Record.{Wrapper, selector, range, subquery, at, offset, unary, paren, Record, leaf, wrapper}
use Rattle.ast.specs.Refusal.{Result, refused, ok, first_fault}
use Rattle.ast.specs.Expr.{Expr, Aggregate, AggregateParam, Unary, Binary, Paren, Subquery, NumberLiteral}
use Rattle.ast.specs.Expr.{StringLiteral, VectorSelector, MatrixSelector, Call, value_type, scalar_value, times_of, with_times}
use Rattle.ast.specs.Construct.{new_unary, no_times}
use Rattle.ast.specs.CheckAst.{unary_rows, subquery_rows, check_ast}
use Rattle.ast.specs.Operand.{is_set}
use Rattle.ast.specs.CheckPage.{push, apply}
use Rattle.ast.proofs.ConstructLaws.{new_matrix_selector-by, times_of-by}
use Rattle.copy.specs.Settled.{start_with}
use Rattle.copy.specs.Tree.{times_records, records_of}
use Rattle.copy.proofs.TimesLaws.{no-success, checked-gives, with_at, with_offset, at-sets, offset-sets}
use Rattle.copy.proofs.FlatLaws.{flat}
use Rattle.copy.proofs.PlainLaws.{Plain}

abbrev has_offset : Option Times → Bool
has_offset none = false
has_offset (some t) = is_set t.offset

-- these records do not change the last one of the tree on top: no unary follows a number, no @ an offset
abbrev pub Clear : List Expr → List Record → Type 0
Clear [] rs = Unit {0}
Clear (e ∷ s) rs = ((is_set (scalar_value e) && start_with 7 rs) ≡ false) × ((has_offset (times_of e) && start_with 5 rs) ≡ false)

-- a record, before others: it stands last in the records of the next stack
abbrev pub Taken : Record → List Record → List Expr → List Expr → Type 0
Taken r rs s u = (flat u ≡ flat s ++ (r ∷ [])) × Clear u rs

changed : {B : Type 0} → true ≡ false → B
changed e = absurd (let z : ◌≡◌ {A = ℕ} 0 1 = cc in omega arith)

module _ (r : Record) (rs : List Record) where
  pub taken : (s u : List Expr) (y : Expr) (below : List Expr) → u ≡ y ∷ below → flat (y ∷ below) ≡ flat s ++ (r ∷ [])
      → Clear (y ∷ below) rs → Taken r rs s u
  taken s u y below next records clear = subst (Taken r rs s) (sym next) (records, clear)

  -- it makes a tree of the one on top
  over : (e y : Expr) (below u : List Expr) → u ≡ y ∷ below → records_of y ≡ records_of e ++ (r ∷ [])
      → Clear (y ∷ below) rs → Taken r rs (e ∷ below) u
  over e y below u next records =
      taken (e ∷ below) u y below next
      (ap (λ (x : List Record). flat below ++ x) records ∙ sym (append_assoc (flat below) (records_of e) (r ∷ [])))

-- ## @ and offset

module _ (r : Record) (rs : List Record) (v : Times) where
  -- a tree with times, and with these: one record more
  times-taken : (e : Expr) (t : Times) → times_of e ≡ some t → times_records v ≡ times_records t ++ (r ∷ [])
      → (is_set v.offset && start_with 5 rs) ≡ false → (below u : List Expr) → u ≡ with_times v e ∷ below → Taken r rs (e ∷ below) u
  times-taken =
      times_of-by
      (λ e t. times_records v ≡ times_records t ++ (r ∷ []) → (is_set v.offset && start_with 5 rs) ≡ false → (below u : List Expr)
      → u ≡ with_times v e ∷ below → Taken r rs (e ∷ below) u)
      (λ e n s t more clear below u next.
      over r rs (Subquery e n s t) (Subquery e n s v) below u next
      (ap (λ (x : List Record). records_of e ++ (wrapper (subquery n s) ∷ x)) more
      ∙ sym (append_assoc (records_of e) (wrapper (subquery n s) ∷ times_records t) (r ∷ [])))
      (refl, clear))
      (λ s t more clear below u next.
      over r rs (VectorSelector s t) (VectorSelector s v) below u next (ap {B = List Record} (λ x. leaf (selector s) ∷ x) more) (refl, clear))
      (λ s t n more clear below u next.
      over r rs (MatrixSelector s t n) (MatrixSelector s v n) below u next
      (ap {B = List Record} (λ x. leaf (selector s) ∷ wrapper (range n) ∷ x) more) (refl, clear))

-- both are free where an @ comes
at_last : (a : AtModifier) (b : Option AtModifier) (o : Option Offset) → b ≡ none → (is_set o && true) ≡ false
    → (o ≡ none) × (times_records (record { at = some a; offset = o }) ≡ times_records (record { at = b; offset = o }) ++ (wrapper (at a) ∷ []))
at_last a (some b) o free clear = absurd (none-ne-some b (sym free))
at_last a none none free clear = (refl, refl)
at_last a none (some o) free clear = changed clear

offset-last : (o : Offset) (a : Option AtModifier) (p : Option Offset) → p ≡ none
    → times_records (record { at = a; offset = some o }) ≡ times_records (record { at = a; offset = p }) ++ (wrapper (offset o) ∷ [])
offset-last o a (some p) free = absurd (none-ne-some p (sym free))
offset-last o none none free = refl
offset-last o (some a) none free = refl

module _ (rs : List Record) (e : Expr) (below u : List Expr) where
  at-taken : (a : AtModifier) → apply (wrapper (at a)) (e ∷ below) ≡ ok u → Clear (e ∷ below) (wrapper (at a) ∷ rs)
      → Taken (wrapper (at a)) rs (e ∷ below) u
  at-taken a h clear =
      let set = at-sets a e below u h in
      let t = set.times in
      let (none-set, last) = at_last a t.at t.offset set.is_free (sym (ap (λ (x : Option Times). has_offset x && true) set.is_times) ∙ clear.1) in
      times-taken (wrapper (at a)) rs (with_at a t) e t set.is_times last
      (ap (λ (x : Option Offset). is_set x && start_with 5 rs) none-set) below u set.is_next

  offset-taken : (o : Offset) → apply (wrapper (offset o)) (e ∷ below) ≡ ok u → start_with 5 rs ≡ false
      → Taken (wrapper (offset o)) rs (e ∷ below) u
  offset-taken o h clear =
      let set = offset-sets o e below u h in
      let t = set.times in
      times-taken (wrapper (offset o)) rs (with_offset o t) e t set.is_times (offset-last o t.at t.offset set.is_free)
      clear below u set.is_next

-- ## Range

range-on : (n : ℕ) (s : Selector) (a : Option AtModifier) (o : Option Offset) (rs : List Record) (below u : List Expr)
    → apply (wrapper (range n)) (VectorSelector s (record { at = a; offset = o }) ∷ below) ≡ ok u
    → Taken (wrapper (range n)) rs (VectorSelector s (record { at = a; offset = o }) ∷ below) u
unfolding apply check_ast
range-on n s a (some o) rs below u h = no-success 7 u h
range-on n s (some a) none rs below u h = no-success 8 u h
range-on n s none none rs below u h =
    over (wrapper (range n)) rs (VectorSelector s no_times) (MatrixSelector s no_times n) below u
    (checked-gives none (MatrixSelector s no_times n) below u h).1 refl (refl, refl)

range-taken : (n : ℕ) (e : Expr) (rs : List Record) (below u : List Expr) → apply (wrapper (range n)) (e ∷ below) ≡ ok u
    → Taken (wrapper (range n)) rs (e ∷ below) u
unfolding apply
range-taken n e rs below u h =
    let (s, t, is) = selector-of h in
    subst (λ (x : Expr). Taken (wrapper (range n)) rs (x ∷ below) u) (sym is)
    (range-on n s t.at t.offset rs below u (subst (λ (x : Expr). apply (wrapper (range n)) (x ∷ below) ≡ ok u) is h))
  where
    selector-of : apply (wrapper (range n)) (e ∷ below) ≡ ok u → (s : Selector) × (t : Times) × (e ≡ VectorSelector s t)
    selector-of =
        new_matrix_selector-by (λ made. push made below ≡ ok u → (s : Selector) × (t : Times) × (e ≡ VectorSelector s t)) n e
        (no-success 7 u) (no-success 8 u) (no-success 9 u) (λ s t is k. (s, t, is))

-- ## Unary

-- the negated number, or a tree of the operand
module _ (P : Expr → Result Expr → Type 0) (six : (e : Expr) → P e (refused 6))
    (negated : (l : Literal) → P (NumberLiteral l) (ok (NumberLiteral (negate l)))) (made : (e : Expr) → P e (ok (Unary e)))
  where
    new_unary-by : (e : Expr) → P e (new_unary e)
    new_unary-by (Aggregate c m e) = made (Aggregate c m e)
    new_unary-by (AggregateParam c m p e) = made (AggregateParam c m p e)
    new_unary-by (Unary e) = made (Unary e)
    new_unary-by (Binary c m l r) = made (Binary c m l r)
    new_unary-by (Paren e) = made (Paren e)
    new_unary-by (Subquery e r s t) = made (Subquery e r s t)
    new_unary-by (NumberLiteral l) = negated l
    new_unary-by (StringLiteral t) = six (StringLiteral t)
    new_unary-by (VectorSelector s t) = made (VectorSelector s t)
    new_unary-by (MatrixSelector s t r) = six (MatrixSelector s t r)
    new_unary-by (Call f es) = made (Call f es)

unary-taken : (e : Expr) (rs : List Record) (below u : List Expr) → apply (wrapper unary) (e ∷ below) ≡ ok u
    → Clear (e ∷ below) (wrapper unary ∷ rs) → Taken (wrapper unary) rs (e ∷ below) u
unfolding apply check_ast
unary-taken e rs below u =
    new_unary-by (λ e made. push made below ≡ ok u → Clear (e ∷ below) (wrapper unary ∷ rs) → Taken (wrapper unary) rs (e ∷ below) u)
    (λ e h clear. no-success 6 u h)
    (λ l h clear. changed clear.0)
    (λ e h clear. over (wrapper unary) rs e (Unary e) below u
    (checked-gives (first_fault (unary_rows (value_type e))) (Unary e) below u h).1 refl (refl, refl))
    e

-- ## Any of them

pub wrapper-taken : (w : Wrapper) (e : Expr) (rs : List Record) (below u : List Expr) → apply (wrapper w) (e ∷ below) ≡ ok u
    → Plain (wrapper w) rs → Clear (e ∷ below) (wrapper w ∷ rs) → Taken (wrapper w) rs (e ∷ below) u
unfolding apply check_ast
wrapper-taken (range n) e rs below u h plain clear = range-taken n e rs below u h
wrapper-taken (subquery r s) e rs below u h plain clear =
    over (wrapper (subquery r s)) rs e (Subquery e r s no_times) below u
    (checked-gives (first_fault (subquery_rows (value_type e))) (Subquery e r s no_times) below u h).1 refl (refl, refl)
wrapper-taken (at a) e rs below u h plain clear = at-taken rs e below u a h clear
wrapper-taken (offset o) e rs below u h plain clear = offset-taken rs e below u o h plain
wrapper-taken unary e rs below u h plain clear = unary-taken e rs below u h clear
wrapper-taken paren e rs below u h plain clear = over (wrapper paren) rs e (Paren e) below u (cc) refl (refl, refl)
