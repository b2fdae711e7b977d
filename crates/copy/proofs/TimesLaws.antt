-- What @ and offset do to the stack: the tree on top has times, the one to be set is free, and the stack after is the
-- same with it set. Whether the check of such a tree passes does not depend on its times; so offset and then @ lead
-- where @ and then offset do, and to no @ again. Assumes nothing.
use Prim.Native.Nat.{ℕ}
use mathlib.Core.Path.{◌≡◌, refl, sym, ap, subst, ◌∙◌}
use mathlib.Core.List.{List, [], ◌∷◌}
use mathlib.Core.Option.{Option, none, some, none-ne-some, some-injective}
use native.Mathlib.Omega.{arith}
use Rattle.records.specs.Time.{Times, AtModifier, Offset}
use Rattle.records.specs.Record.{Wrapper, at, offset, wrapper}
use Rattle.ast.specs.Refusal.{Result, refused, ok, first_fault, unless, and_then}
use Rattle.ast.specs.Expr.{Expr, Aggregate, AggregateParam, Unary, Binary, Paren, Subquery, NumberLiteral}
use Rattle.ast.specs.Expr.{StringLiteral, VectorSelector, MatrixSelector, Call, value_type, times_of, with_times}
use Rattle.ast.specs.Construct.{set_at, at_with, set_offset, offset_with}
use Rattle.ast.specs.CheckAst.{subquery_rows, selector_rows, check_ast}
use Rattle.ast.specs.CheckPage.{push, apply}
use Rattle.ast.proofs.ConstructLaws.{at_expr-by, offset_expr-by, times_of-by}

-- ## A tree that its rows let through is put on the stack

pub no-success : {B : Type 0} (n : ℕ) (u : List Expr) → refused n ≡ ok u → B
no-success n u e = absurd (let z : ◌≡◌ {A = ℕ} 0 1 = cc in omega arith)

pub checked-gives : (q : Option ℕ) (x : Expr) (below u : List Expr) → and_then (unless q x) (λ e. ok (e ∷ below)) ≡ ok u → (q ≡ none) × (u ≡ x ∷ below)
checked-gives none x below u e = (refl, cc)
checked-gives (some n) x below u e = no-success n u e

-- ## Trees with times

-- of a tree that has times, what the check of it finds, whatever they are
abbrev fault_of : Expr → Option ℕ
fault_of (Aggregate c m e) = none
fault_of (AggregateParam c m p e) = none
fault_of (Unary e) = none
fault_of (Binary c m l r) = none
fault_of (Paren e) = none
fault_of (Subquery e r s t) = first_fault (subquery_rows (value_type e))
fault_of (NumberLiteral l) = none
fault_of (StringLiteral t) = none
fault_of (VectorSelector s t) = first_fault (selector_rows s)
fault_of (MatrixSelector s t r) = none
fault_of (Call f es) = none

-- a tree and its times: with others it is another of the kind
pub record Timed (e : Expr) (t : Times) : Type 0 where
  pub is_checked : (u : Times) → check_ast (with_times u e) ≡ unless (fault_of e) (with_times u e)
  pub is_fault : (u : Times) → fault_of (with_times u e) ≡ fault_of e
  pub is_timed : (u : Times) → times_of (with_times u e) ≡ some u
  pub is_last : (u v : Times) → with_times u (with_times v e) ≡ with_times u e

pub timed : (e : Expr) (t : Times) → times_of e ≡ some t → Timed e t
unfolding check_ast
timed = times_of-by Timed
    (λ e r s t. record { is_checked = λ u. refl; is_fault = λ u. refl; is_timed = λ u. refl; is_last = λ u v. refl })
    (λ s t. record { is_checked = λ u. refl; is_fault = λ u. refl; is_timed = λ u. refl; is_last = λ u v. refl })
    (λ s t r. record { is_checked = λ u. refl; is_fault = λ u. refl; is_timed = λ u. refl; is_last = λ u v. refl })

-- ## One time set

abbrev pub with_at : AtModifier → Times → Times
with_at a t = record { at = some a; offset = t.offset }

abbrev pub with_offset : Offset → Times → Times
with_offset o t = record { at = t.at; offset = some o }

-- a tree has times, one of which is free, and is on the stack with that one set
pub record Sets (Free : Times → Type 0) (set : Times → Times) (e : Expr) (below v : List Expr) : Type 0 where
  pub times : Times
  pub is_times : times_of e ≡ some times
  pub is_free : Free times
  pub is_sound : fault_of e ≡ none
  pub is_next : v ≡ with_times (set times) e ∷ below

module _ (e : Expr) (t : Times) (below : List Expr) (is : times_of e ≡ some t) (u : Times) where
  set_gives : (v : List Expr) → push (ok (with_times u e)) below ≡ ok v → (fault_of e ≡ none) × (v ≡ with_times u e ∷ below)
  set_gives v h =
      checked-gives (fault_of e) (with_times u e) below v
      (sym (ap (λ (x : Result Expr). and_then x (λ y. ok (y ∷ below))) ((timed e t is).is_checked u)) ∙ h)

  set-passes : fault_of e ≡ none → push (ok (with_times u e)) below ≡ ok (with_times u e ∷ below)
  set-passes sound =
      ap (λ (x : Result Expr). and_then x (λ y. ok (y ∷ below)))
      ((timed e t is).is_checked u ∙ ap (λ (q : Option ℕ). unless q (with_times u e)) sound)

  set-as : (Free : Times → Type 0) (set : Times → Times) → u ≡ set t → Free t → (v : List Expr) → push (ok (with_times u e)) below ≡ ok v
      → Sets Free set e below v
  set-as Free set same free v h =
      let given = set_gives v h in
      record {
        times = t;
        is_times = is;
        is_free = free;
        is_sound = given.0;
        is_next = given.1 ∙ ap (λ (x : Times). with_times x e ∷ below) same;
      }

module _ (a : AtModifier) (e : Expr) (below : List Expr) where
  pub at-sets : (v : List Expr) → apply (wrapper (at a)) (e ∷ below) ≡ ok v → Sets (λ t. t.at ≡ none) (with_at a) e below v
  unfolding apply
  at-sets v =
      at_expr-by (λ made. push made below ≡ ok v → Sets (λ t. t.at ≡ none) (with_at a) e below v) a e (no-success 10 v) (no-success 11 v)
      (λ t is free. set-as e t below is (with_at a t) (λ t. t.at ≡ none) (with_at a) refl free v)

  pub at-passes : (t : Times) → times_of e ≡ some t → t.at ≡ none → fault_of e ≡ none
      → apply (wrapper (at a)) (e ∷ below) ≡ ok (with_times (with_at a t) e ∷ below)
  unfolding apply
  at-passes t is free sound =
      ap (λ (x : Option Times). push (at_with a x e) below) is
      ∙ ap (λ (x : Option AtModifier). push (set_at a x t e) below) free
      ∙ set-passes e t below is (with_at a t) sound

module _ (o : Offset) (e : Expr) (below : List Expr) where
  pub offset-sets : (v : List Expr) → apply (wrapper (offset o)) (e ∷ below) ≡ ok v → Sets (λ t. t.offset ≡ none) (with_offset o) e below v
  unfolding apply
  offset-sets v =
      offset_expr-by (λ made. push made below ≡ ok v → Sets (λ t. t.offset ≡ none) (with_offset o) e below v) o e (no-success 12 v) (no-success 13 v)
      (λ t is free. set-as e t below is (with_offset o t) (λ t. t.offset ≡ none) (with_offset o) refl free v)

  pub offset-passes : (t : Times) → times_of e ≡ some t → t.offset ≡ none → fault_of e ≡ none
      → apply (wrapper (offset o)) (e ∷ below) ≡ ok (with_times (with_offset o t) e ∷ below)
  unfolding apply
  offset-passes t is free sound =
      ap (λ (x : Option Times). push (offset_with o x e) below) is
      ∙ ap (λ (x : Option Offset). push (set_offset o x t e) below) free
      ∙ set-passes e t below is (with_offset o t) sound

-- ## Two times set

-- a record that sets one of the times
record Setter (w : Wrapper) : Type 1 where
  Free : Times → Type 0
  set : Times → Times
  sets : (e : Expr) (below v : List Expr) → apply (wrapper w) (e ∷ below) ≡ ok v → Sets Free set e below v

abbrev at-setter : (a : AtModifier) → Setter (at a)
at-setter a = record { Free = λ t. t.at ≡ none; set = with_at a; sets = at-sets a }

abbrev offset-setter : (o : Offset) → Setter (offset o)
offset-setter o = record { Free = λ t. t.offset ≡ none; set = with_offset o; sets = offset-sets o }

module _ {w x : Wrapper} (first : Setter w) (second : Setter x) where
  -- the tree on top has times; the one record finds its own free, the other too once that is set
  record SetsBoth (s v : List Expr) : Type 0 where
    top : Expr
    below : List Expr
    times : Times
    is_stack : s ≡ top ∷ below
    is_times : times_of top ≡ some times
    is_sound : fault_of top ≡ none
    first_free : first.Free times
    second_free : second.Free (first.set times)
    is_next : v ≡ with_times (second.set (first.set times)) top ∷ below

  sets-both : (s u v : List Expr) → apply (wrapper w) s ≡ ok u → apply (wrapper x) u ≡ ok v → SetsBoth s v
  unfolding apply
  sets-both [] u v h k = no-success 2 u h
  sets-both (e ∷ below) u v h k =
      let one = first.sets e below u h in
      let t = one.times in
      let is = one.is_times in
      let given : Times = first.set t in
      let other = second.sets (with_times given e) below v (subst (λ (y : List Expr). apply (wrapper x) y ≡ ok v) one.is_next k) in
      let same : other.times ≡ given = sym
      (some-injective given other.times (sym ((timed e t is).is_timed given) ∙ other.is_times)) in
      record {
        top = e;
        below = below;
        times = t;
        is_stack = refl;
        is_times = is;
        is_sound = one.is_sound;
        first_free = one.is_free;
        second_free = subst second.Free same other.is_free;
        is_next =
            other.is_next ∙ ap (λ (y : Times). with_times (second.set y) (with_times given e) ∷ below) same
            ∙ ap (λ (y : Expr). y ∷ below) ((timed e t is).is_last (second.set given) given);
      }

-- from a stack, @ and then offset lead to another
abbrev Swapped : Offset → AtModifier → List Expr → List Expr → Type 0
Swapped o a s v = (w : List Expr) × (apply (wrapper (at a)) s ≡ ok w) × (apply (wrapper (offset o)) w ≡ ok v)

pub swapped : (o : Offset) (a : AtModifier) (s u v : List Expr) → apply (wrapper (offset o)) s ≡ ok u → apply (wrapper (at a)) u ≡ ok v → Swapped o a s v
swapped o a s u v h k =
    let both = sets-both (offset-setter o) (at-setter a) s u v h k in
    let e = both.top in
    let below = both.below in
    let t = both.times in
    let of = timed e t both.is_times in
    let with-at = with_times (with_at a t) e ∷ below in
    let at_first = at-passes a e below t both.is_times both.second_free both.is_sound in
    let then-offset = offset-passes o (with_times (with_at a t) e) below (with_at a t) (of.is_timed (with_at a t)) both.first_free
    (of.is_fault (with_at a t) ∙ both.is_sound) in (
      with-at,
      subst (λ (y : List Expr). apply (wrapper (at a)) y ≡ ok with-at) (sym both.is_stack) at_first,
      then-offset
          ∙ ap ok (ap (λ (y : Expr). y ∷ below) (of.is_last (with_offset o (with_at a t)) (with_at a t)) ∙ sym both.is_next),
    )

-- a time is set once
pub at_once : {B : Type 0} (a b : AtModifier) (s u v : List Expr) → apply (wrapper (at a)) s ≡ ok u → apply (wrapper (at b)) u ≡ ok v → B
at_once a b s u v h k = absurd (none-ne-some a (sym (sets-both (at-setter a) (at-setter b) s u v h k).second_free))

pub offset-once : {B : Type 0} (o p : Offset) (s u v : List Expr) → apply (wrapper (offset o)) s ≡ ok u → apply (wrapper (offset p)) u ≡ ok v → B
offset-once o p s u v h k = absurd (none-ne-some o (sym (sets-both (offset-setter o) (offset-setter p) s u v h k).second_free))
