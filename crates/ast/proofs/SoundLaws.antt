-- Trees that can stand on the stack: their own check has passed, and their numbers are exact. Every record keeps this,
-- one case for each constructor of a tree.
use Prim.Native.Nat.{ℕ, zero, suc}
use mathlib.Core.Path.{◌≡◌, refl}
use mathlib.Core.Bool.{Bool, true, false}
use mathlib.Core.List.{List, [], ◌∷◌, reverse_aux}
use mathlib.Core.Option.{Option, none, some}
use lib.ListN.{length, take, drop}
use lib.Dec.{leb}
use Rattle.page.specs.Bytes.{pick}
use Rattle.records.specs.Code.{has_parameter}
use Rattle.records.specs.Literal.{Literal, plus, minus, nan, negate}
use Rattle.records.specs.Float.{IsExact}
use Rattle.records.specs.Modifier.{LabelModifier}
use Rattle.records.specs.Time.{Times, AtModifier, Offset}
use Rattle.records.specs.Stack.{operands_of}
use Rattle.records.specs.Record.{Leaf, number, string, selector, Wrapper, range, subquery, at, offset, unary, paren}
use Rattle.records.specs.Record.{Record, leaf, wrapper, binary, aggregate, call}
use Rattle.ast.specs.Refusal.{first_fault, Result, refused, ok, unless, and_then}
use Rattle.ast.specs.Expr.{Expr, Aggregate, AggregateParam, Unary, Binary, Paren, Subquery, NumberLiteral}
use Rattle.ast.specs.Expr.{StringLiteral, VectorSelector, MatrixSelector, Call, args_of, value_type, times_of}
use Rattle.ast.specs.Expr.{with_times}
use Rattle.ast.specs.Construct.{new_unary, new_matrix_selector, at_expr, offset_expr, new_aggregate, new_aggregate_of}
use Rattle.ast.specs.CheckAst.{binary_rows, checked_modifier, aggregate_rows, call_rows, kinds_of, first_literal}
use Rattle.ast.specs.CheckAst.{unary_rows, subquery_rows, selector_rows, check_ast}
use Rattle.ast.specs.CheckPage.{leaf_expr, wrap, push, apply}
use Rattle.records.specs.Allowed.{IsAllowed}
use Rattle.ast.proofs.ConstructLaws.{new_matrix_selector-by, at_expr-by, offset_expr-by, times_of-by}

-- a tree that can stand on the stack
abbrev pub Sound : Expr → Type 0
Sound (Aggregate c m e) = Unit {0}
Sound (AggregateParam c m p e) = Unit {0}
Sound (Unary e) = Unit {0}
Sound (Binary c m l r) = Unit {0}
Sound (Paren e) = Unit {0}
Sound (Subquery e r s t) = first_fault (subquery_rows (value_type e)) ≡ none
Sound (NumberLiteral l) = IsExact l
Sound (StringLiteral t) = Unit {0}
Sound (VectorSelector s t) = first_fault (selector_rows s) ≡ none
Sound (MatrixSelector s t r) = Unit {0}
Sound (Call f es) = Unit {0}

abbrev pub AllSound : List Expr → Type 0
AllSound [] = Unit {0}
AllSound (e ∷ es) = Sound e × AllSound es

abbrev IsSound : Result Expr → Type 0
IsSound (refused n) = Unit {0}
IsSound (ok e) = Sound e

abbrev pub SoundStack : Result (List Expr) → Type 0
SoundStack (refused n) = Unit {0}
SoundStack (ok es) = AllSound es

sound-take : (n : ℕ) (es : List Expr) → AllSound es → AllSound (take n es)
sound-take zero es h = tt
sound-take (suc n) [] h = tt
sound-take (suc n) (e ∷ es) h = (h.0, sound-take n es h.1)

sound-reverse : (es fs : List Expr) → AllSound es → AllSound fs → AllSound (reverse_aux es fs)
sound-reverse [] fs h k = k
sound-reverse (e ∷ es) fs h k = sound-reverse es (e ∷ fs) h.1 (h.0, k)

sound-drop : (n : ℕ) (es : List Expr) → AllSound es → AllSound (drop n es)
sound-drop zero es h = h
sound-drop (suc n) [] h = tt
sound-drop (suc n) (e ∷ es) h = sound-drop n es h.1

pub sound-operands_of : (n : ℕ) (es : List Expr) → AllSound es → AllSound (operands_of n es)
sound-operands_of n es h = sound-reverse (take n es) [] (sound-take n es h) tt

-- ## check_ast

-- a tree whose own number, if it is one, is exact
abbrev HasExact : Expr → Type 0
HasExact (Aggregate c m e) = Unit {0}
HasExact (AggregateParam c m p e) = Unit {0}
HasExact (Unary e) = Unit {0}
HasExact (Binary c m l r) = Unit {0}
HasExact (Paren e) = Unit {0}
HasExact (Subquery e r s t) = Unit {0}
HasExact (NumberLiteral l) = IsExact l
HasExact (StringLiteral t) = Unit {0}
HasExact (VectorSelector s t) = Unit {0}
HasExact (MatrixSelector s t r) = Unit {0}
HasExact (Call f es) = Unit {0}

-- a tree that passed its check, from the fault found
unless-sound : (f : Option ℕ) (e : Expr) → (f ≡ none → Sound e) → IsSound (unless f e)
unless-sound none e h = h refl
unless-sound (some n) e h = tt

check_ast-sound : (e : Expr) → HasExact e → IsSound (check_ast e)
unfolding check_ast
check_ast-sound (Aggregate c m e) h = unless-sound (first_fault (aggregate_rows c none (value_type e))) (Aggregate c m e) (λ f. tt)
check_ast-sound (AggregateParam c m p e) h = unless-sound (first_fault (aggregate_rows c (some (value_type p)) (value_type e))) (AggregateParam c m p e) (λ f. tt)
check_ast-sound (Unary e) h = unless-sound (first_fault (unary_rows (value_type e))) (Unary e) (λ f. tt)
check_ast-sound (Binary c m l r) h = unless-sound (first_fault (binary_rows c m (value_type l) (value_type r))) (Binary c (checked_modifier c m) l r) (λ f. tt)
check_ast-sound (Paren e) h = tt
check_ast-sound (Subquery e r s t) h = unless-sound (first_fault (subquery_rows (value_type e))) (Subquery e r s t) (λ f. f)
check_ast-sound (NumberLiteral l) h = h
check_ast-sound (StringLiteral t) h = tt
check_ast-sound (VectorSelector s t) h = unless-sound (first_fault (selector_rows s)) (VectorSelector s t) (λ f. f)
check_ast-sound (MatrixSelector s t r) h = tt
check_ast-sound (Call f es) h = unless-sound (first_fault (call_rows f (first_literal es) (kinds_of es))) (Call f es) (λ g. tt)

-- ## The constructors

abbrev MadeExact : Result Expr → Type 0
MadeExact (refused n) = Unit {0}
MadeExact (ok e) = HasExact e

negate-exact : (l : Literal) → IsExact l → IsExact (negate l)
negate-exact (plus m) h = h
negate-exact (minus m) h = h
negate-exact nan h = tt

unary-exact : (e : Expr) → Sound e → MadeExact (new_unary e)
unary-exact (Aggregate c m e) h = tt
unary-exact (AggregateParam c m p e) h = tt
unary-exact (Unary e) h = tt
unary-exact (Binary c m l r) h = tt
unary-exact (Paren e) h = tt
unary-exact (Subquery e r s t) h = tt
unary-exact (NumberLiteral l) h = negate-exact l h
unary-exact (StringLiteral t) h = tt
unary-exact (VectorSelector s t) h = tt
unary-exact (MatrixSelector s t r) h = tt
unary-exact (Call f es) h = tt

range-exact : (n : ℕ) (e : Expr) → MadeExact (new_matrix_selector n e)
range-exact n e = new_matrix_selector-by MadeExact n e tt tt tt (λ s t q. tt)

-- a tree with other @ and offset is no number
with_times-exact : (u : Times) (e : Expr) (t : Times) → times_of e ≡ some t → HasExact (with_times u e)
with_times-exact u = times_of-by (λ e t. HasExact (with_times u e)) (λ e r s t. tt) (λ s t. tt) (λ s t r. tt)

at_exact : (a : AtModifier) (e : Expr) → MadeExact (at_expr a e)
at_exact a e = at_expr-by MadeExact a e tt tt (λ t q free. with_times-exact _ e t q)

offset-exact : (o : Offset) (e : Expr) → MadeExact (offset_expr o e)
offset-exact o e = offset_expr-by MadeExact o e tt tt (λ t q free. with_times-exact _ e t q)

wrap-exact : (w : Wrapper) (e : Expr) → Sound e → MadeExact (wrap w e)
wrap-exact (range n) e h = range-exact n e
wrap-exact (subquery r s) e h = tt
wrap-exact (at a) e h = at_exact a e
wrap-exact (offset o) e h = offset-exact o e
wrap-exact unary e h = unary-exact e h
wrap-exact paren e h = tt

aggregate-exact : (has : Bool) (c : ℕ) (m : Option LabelModifier) (es : List Expr) → MadeExact (new_aggregate_of has c m es)
aggregate-exact has c m [] = tt
aggregate-exact true c m (p ∷ []) = tt
aggregate-exact true c m (p ∷ e ∷ []) = tt
aggregate-exact true c m (p ∷ e ∷ x ∷ es) = tt
aggregate-exact false c m (e ∷ []) = tt
aggregate-exact false c m (e ∷ x ∷ es) = tt

-- ## apply

pushed-sound : (made : Result Expr) (below : List Expr) → IsSound made → AllSound below → SoundStack (and_then {B = List Expr} made (λ e. ok (e ∷ below)))
pushed-sound (refused n) below h k = tt
pushed-sound (ok e) below h k = (h, k)

push-sound : (made : Result Expr) (below : List Expr) → MadeExact made → AllSound below → SoundStack (push made below)
push-sound (refused n) below h k = tt
push-sound (ok e) below h k = pushed-sound (check_ast e) below (check_ast-sound e h) k

arguments_sound : (b : Bool) (made : Result Expr) (below : List Expr) → MadeExact made → AllSound below → SoundStack (pick b (push made below) (refused 2))
arguments_sound true made below h k = push-sound made below h k
arguments_sound false made below h k = tt

leaf-exact : (l : Leaf) → IsAllowed (leaf l) → HasExact (leaf_expr l)
leaf-exact (number l) h = h
leaf-exact (string t) h = tt
leaf-exact (selector s) h = tt

pub apply-sound : (r : Record) (stack : List Expr) → IsAllowed r → AllSound stack → SoundStack (apply r stack)
unfolding apply
apply-sound (leaf l) stack x h = push-sound (ok (leaf_expr l)) stack (leaf-exact l x) h
apply-sound (wrapper w) [] x h = tt
apply-sound (wrapper w) (e ∷ below) x h = push-sound (wrap w e) below (wrap-exact w e h.0) h.1
apply-sound (binary c m) [] x h = tt
apply-sound (binary c m) (r ∷ []) x h = tt
apply-sound (binary c m) (r ∷ l ∷ below) x h = push-sound (ok (Binary c m l r)) below tt h.1.1
apply-sound (aggregate c m n) stack x h =
    arguments_sound (leb n (length stack)) (new_aggregate c m (operands_of n stack)) (drop n stack)
    (aggregate-exact (has_parameter c) c m (operands_of n stack)) (sound-drop n stack h)
apply-sound (call f n) stack x h =
    arguments_sound (leb n (length stack)) (ok (Call f (args_of (operands_of n stack)))) (drop n stack) tt (sound-drop n stack h)
