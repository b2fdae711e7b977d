-- Constructors and `check_ast` depend on trees through their operands alone: the judgement of a record on the operands
-- of a stack is the operand of what `apply` puts there. Each record is a case on the operand's tree. @ and offset have
-- the check of a selector or a subquery run again, so the trees on the stack have passed it (`Sound`); their numbers
-- are exact, so that tests on floats are those on literals.
use Prim.Native.Nat.{ℕ}
use mathlib.Core.Path.{◌≡◌, refl, sym, ap, ap₂, ◌∙◌}
use mathlib.Core.Bool.{Bool, true, false}
use mathlib.Core.List.{List, [], ◌∷◌, map}
use mathlib.Core.Option.{Option, none, some}
use native.Mathlib.Omega.{arith}
use lib.ListN.{length, drop, length-map}
use lib.Dec.{leb}
use Rattle.page.specs.Bytes.{pick}
use Rattle.page.specs.Text.{Text}
use Rattle.records.specs.Kind.{Kind, scalar}
use Rattle.records.specs.Code.{has_parameter}
use Rattle.records.specs.LiteralException.{is_exempt}
use Rattle.records.specs.Matcher.{Selector}
use Rattle.records.specs.Modifier.{LabelModifier, BinModifier}
use Rattle.records.specs.Time.{Times, AtModifier, Offset}
use Rattle.records.specs.Signature.{Function}
use Rattle.records.specs.Stack.{operands_of}
use Rattle.records.specs.Record.{Leaf, number, string, selector, Wrapper, range, subquery, at, offset, unary, paren}
use Rattle.records.specs.Record.{Record, leaf, wrapper, binary, aggregate, call, operands}
use Rattle.ast.specs.Refusal.{first_fault, Result, refused, ok, unless, and_then}
use Rattle.ast.specs.Expr.{Expr, Aggregate, AggregateParam, Unary, Binary, Paren, Subquery, NumberLiteral}
use Rattle.ast.specs.Expr.{StringLiteral, VectorSelector, MatrixSelector, Call, args_of, value_type, scalar_value}
use Rattle.ast.specs.Expr.{with_times}
use Rattle.ast.specs.Construct.{new_unary, new_matrix_selector, range_after, set_at, at_expr, set_offset, offset_expr, new_aggregate, new_aggregate_of, no_times}
use Rattle.ast.specs.CheckAst.{binary_rows, checked_modifier, aggregate_rows, call_rows, kinds_of, first_literal}
use Rattle.ast.specs.CheckAst.{unary_rows, subquery_rows, selector_rows, check_ast}
use Rattle.ast.specs.CheckPage.{leaf_expr, wrap, push, apply}
use Rattle.ast.specs.Operand.{Operand, selector_operand, range_operand, subquery_operand, other_operand, operand_kind, is_set, operand_of}
use Rattle.ast.specs.Judge.{put, judge_unary, range_after_marks, judge_range, set_mark, judge_at, judge_offset}
use Rattle.ast.specs.Judge.{judge_wrapper, judge_binary, judge_arguments, judge_aggregate}
use Rattle.ast.specs.Judge.{is_exempt_operand, is_exempt_call, judge_call, judge_leaf, judgement, judged, judged_by}
use Rattle.ast.specs.Rules.{Rules, guarded, apply_by}
use Rattle.ast.proofs.LiteralLaws.{by-literal, literal-negated, literal-exempt}
use Rattle.ast.proofs.StackLaws.{map-drop, map-operands_of}
use Rattle.ast.proofs.SoundLaws.{Sound, AllSound, sound-operands_of}

abbrev pub map_result : {A B : Type 0} → (A → B) → Result A → Result B
map_result f (refused n) = refused n
map_result f (ok a) = ok (f a)

-- the kind of a tree is that of its operand
pub operand_of-kind : (e : Expr) → operand_kind (operand_of e) ≡ value_type e
operand_of-kind (Aggregate c m e) = refl
operand_of-kind (AggregateParam c m p e) = refl
operand_of-kind (Unary e) = refl
operand_of-kind (Binary c m l r) = refl
operand_of-kind (Paren e) = refl
operand_of-kind (Subquery e r s t) = refl
operand_of-kind (NumberLiteral l) = by-literal (λ x. operand_kind x ≡ scalar) (λ x. refl) (λ s. refl) l
operand_of-kind (StringLiteral t) = refl
operand_of-kind (VectorSelector s t) = refl
operand_of-kind (MatrixSelector s t r) = refl
operand_of-kind (Call f es) = refl

-- an operand for a tree, under the same fault
unless-operand : (f : Option ℕ) (e : Expr) → unless f (operand_of e) ≡ map_result operand_of (unless f e)
unless-operand none e = refl
unless-operand (some n) e = refl

-- ## One operand

judge_unary-operand : (e : Expr) → judge_unary (operand_of e) ≡ map_result operand_of (and_then (new_unary e) check_ast)
unfolding check_ast
judge_unary-operand (Aggregate c m e) = refl
judge_unary-operand (AggregateParam c m p e) = refl
judge_unary-operand (Unary e) = unless-operand (first_fault (unary_rows (value_type e))) (Unary (Unary e))
judge_unary-operand (Binary c m l r) = unless-operand (first_fault (unary_rows (value_type (Binary c m l r)))) (Unary (Binary c m l r))
judge_unary-operand (Paren e) = unless-operand (first_fault (unary_rows (value_type e))) (Unary (Paren e))
judge_unary-operand (Subquery e r s t) = refl
judge_unary-operand (NumberLiteral l) = literal-negated l
judge_unary-operand (StringLiteral t) = refl
judge_unary-operand (VectorSelector s t) = refl
judge_unary-operand (MatrixSelector s t r) = refl
judge_unary-operand (Call f es) = unless-operand (first_fault (unary_rows f.return_type)) (Unary (Call f es))

range-marks : (n : ℕ) (s : Selector) (o : Option Offset) (a : Option AtModifier)
    → range_after_marks (is_set a) (is_set o) ≡ map_result operand_of (and_then (range_after o a (MatrixSelector s (record { at = a; offset = o }) n)) check_ast)
unfolding check_ast
range-marks n s none none = refl
range-marks n s none (some a) = refl
range-marks n s (some o) none = refl
range-marks n s (some o) (some a) = refl

judge_range-operand : (n : ℕ) (e : Expr) → judge_range (operand_of e) ≡ map_result operand_of (and_then (new_matrix_selector n e) check_ast)
judge_range-operand n (Aggregate c m e) = refl
judge_range-operand n (AggregateParam c m p e) = refl
judge_range-operand n (Unary e) = refl
judge_range-operand n (Binary c m l r) = refl
judge_range-operand n (Paren e) = refl
judge_range-operand n (Subquery e r s t) = refl
judge_range-operand n (NumberLiteral l) = by-literal (λ x. judge_range x ≡ refused 9) (λ x. refl) (λ s. refl) l
judge_range-operand n (StringLiteral t) = refl
judge_range-operand n (VectorSelector s t) = range-marks n s t.offset t.at
judge_range-operand n (MatrixSelector s t r) = refl
judge_range-operand n (Call f es) = refl

-- a check that has passed passes again
passed : {A : Type 0} {f : Option ℕ} → f ≡ none → (a : A) → ok a ≡ unless f a
passed e a = sym (ap {B = Result _} (λ g. unless g a) e)

at-marks : (a : AtModifier) (x : Option AtModifier) (t : Times) (e : Expr) (y : Operand)
    → ok y ≡ map_result operand_of (check_ast (with_times (record { at = some a; offset = t.offset }) e))
    → set_mark 10 (is_set x) y ≡ map_result operand_of (and_then (set_at a x t e) check_ast)
at-marks a none t e y h = h
at-marks a (some b) t e y h = refl

judge_at-operand : (a : AtModifier) (e : Expr) → Sound e → judge_at (operand_of e) ≡ map_result operand_of (and_then (at_expr a e) check_ast)
unfolding check_ast
judge_at-operand a (Aggregate c m e) h = refl
judge_at-operand a (AggregateParam c m p e) h = refl
judge_at-operand a (Unary e) h = refl
judge_at-operand a (Binary c m l r) h = refl
judge_at-operand a (Paren e) h = refl
judge_at-operand a (Subquery e r s t) h =
    at-marks a t.at t (Subquery e r s t) (subquery_operand true (is_set t.offset))
    (ap (map_result operand_of) (passed h (Subquery e r s (record { at = some a; offset = t.offset }))))
judge_at-operand a (NumberLiteral l) h = by-literal (λ x. judge_at x ≡ refused 11) (λ x. refl) (λ s. refl) l
judge_at-operand a (StringLiteral t) h = refl
judge_at-operand a (VectorSelector s t) h =
    at-marks a t.at t (VectorSelector s t) (selector_operand true (is_set t.offset))
    (ap (map_result operand_of) (passed h (VectorSelector s (record { at = some a; offset = t.offset }))))
judge_at-operand a (MatrixSelector s t r) h = at-marks a t.at t (MatrixSelector s t r) (range_operand true (is_set t.offset)) refl
judge_at-operand a (Call f es) h = refl

offset-marks : (o : Offset) (x : Option Offset) (t : Times) (e : Expr) (y : Operand)
    → ok y ≡ map_result operand_of (check_ast (with_times (record { at = t.at; offset = some o }) e))
    → set_mark 12 (is_set x) y ≡ map_result operand_of (and_then (set_offset o x t e) check_ast)
offset-marks o none t e y h = h
offset-marks o (some b) t e y h = refl

judge_offset-operand : (o : Offset) (e : Expr) → Sound e → judge_offset (operand_of e) ≡ map_result operand_of (and_then (offset_expr o e) check_ast)
unfolding check_ast
judge_offset-operand o (Aggregate c m e) h = refl
judge_offset-operand o (AggregateParam c m p e) h = refl
judge_offset-operand o (Unary e) h = refl
judge_offset-operand o (Binary c m l r) h = refl
judge_offset-operand o (Paren e) h = refl
judge_offset-operand o (Subquery e r s t) h =
    offset-marks o t.offset t (Subquery e r s t) (subquery_operand (is_set t.at) true)
    (ap (map_result operand_of) (passed h (Subquery e r s (record { at = t.at; offset = some o }))))
judge_offset-operand o (NumberLiteral l) h = by-literal (λ x. judge_offset x ≡ refused 13) (λ x. refl) (λ s. refl) l
judge_offset-operand o (StringLiteral t) h = refl
judge_offset-operand o (VectorSelector s t) h =
    offset-marks o t.offset t (VectorSelector s t) (selector_operand (is_set t.at) true)
    (ap (map_result operand_of) (passed h (VectorSelector s (record { at = t.at; offset = some o }))))
judge_offset-operand o (MatrixSelector s t r) h = offset-marks o t.offset t (MatrixSelector s t r) (range_operand (is_set t.at) true) refl
judge_offset-operand o (Call f es) h = refl

judge_wrapper-operand : (w : Wrapper) (e : Expr) → Sound e → judge_wrapper w (operand_of e) ≡ map_result operand_of (and_then (wrap w e) check_ast)
unfolding check_ast
judge_wrapper-operand (range n) e h = judge_range-operand n e
judge_wrapper-operand (subquery r s) e h =
    ap {B = Result Operand} (λ k. put (subquery_rows k) (subquery_operand false false)) (operand_of-kind e)
    ∙ unless-operand (first_fault (subquery_rows (value_type e))) (Subquery e r s no_times)
judge_wrapper-operand (at a) e h = judge_at-operand a e h
judge_wrapper-operand (offset o) e h = judge_offset-operand o e h
judge_wrapper-operand unary e h = judge_unary-operand e
judge_wrapper-operand paren e h = ap {B = Result Operand} (λ k. ok (other_operand k)) (operand_of-kind e)

-- ## Two operands, and arguments

judge_binary-operand : (c : ℕ) (m : Option BinModifier) (l r : Expr)
    → judge_binary c m (operand_kind (operand_of l)) (operand_kind (operand_of r))
    ≡ map_result operand_of (check_ast (Binary c m l r))
unfolding check_ast
judge_binary-operand c m l r =
    ap₂ {C = Result Operand} (λ j k. judge_binary c m j k) (operand_of-kind l) (operand_of-kind r)
    ∙ unless-operand (first_fault (binary_rows c m (value_type l) (value_type r))) (Binary c (checked_modifier c m) l r)

judge_arguments-operand : (has : Bool) (c : ℕ) (m : Option LabelModifier) (es : List Expr)
    → judge_arguments has c (map value_type es) ≡ map_result operand_of (and_then (new_aggregate_of has c m es) check_ast)
unfolding check_ast
judge_arguments-operand has c m [] = refl
judge_arguments-operand true c m (p ∷ []) = refl
judge_arguments-operand true c m (p ∷ e ∷ []) = unless-operand (first_fault (aggregate_rows c (some (value_type p)) (value_type e))) (AggregateParam c m p e)
judge_arguments-operand true c m (p ∷ e ∷ x ∷ es) = refl
judge_arguments-operand false c m (e ∷ []) = unless-operand (first_fault (aggregate_rows c none (value_type e))) (Aggregate c m e)
judge_arguments-operand false c m (e ∷ x ∷ es) = refl

exempt-operand : (name : Text) (e : Expr) → Sound e → is_exempt_operand name (operand_of e) ≡ is_exempt name (scalar_value e)
exempt-operand name (Aggregate c m e) h = refl
exempt-operand name (AggregateParam c m p e) h = refl
exempt-operand name (Unary e) h = refl
exempt-operand name (Binary c m l r) h = refl
exempt-operand name (Paren e) h = refl
exempt-operand name (Subquery e r s t) h = refl
exempt-operand name (NumberLiteral l) h = literal-exempt name l h
exempt-operand name (StringLiteral t) h = refl
exempt-operand name (VectorSelector s t) h = refl
exempt-operand name (MatrixSelector s t r) h = refl
exempt-operand name (Call f es) h = refl

exempt-call : (name : Text) (es : List Expr) → AllSound es → is_exempt_call name (map operand_of es) ≡ is_exempt name (first_literal (args_of es))
exempt-call name [] h = refl
exempt-call name (e ∷ es) h = exempt-operand name e h.0

pub kinds-operands : (es : List Expr) → map operand_kind (map operand_of es) ≡ map value_type es
kinds-operands [] = refl
kinds-operands (e ∷ es) = ap₂ {C = List Kind} (λ k ks. k ∷ ks) (operand_of-kind e) (kinds-operands es)

kinds-args : (es : List Expr) → map value_type es ≡ kinds_of (args_of es)
kinds-args [] = refl
kinds-args (e ∷ es) = ap {B = List Kind} (λ ks. value_type e ∷ ks) (kinds-args es)

judge_call-operand : (f : Function) (es : List Expr) → AllSound es → judge_call f (map operand_of es) ≡ map_result operand_of (check_ast (Call f (args_of es)))
unfolding check_ast
judge_call-operand f es h =
    rw (
      exempt-call f.name es h,
      kinds-operands es,
      length-map es operand_of,
      ← length-map es value_type,
      kinds-args es,
    )
    (unless-operand (first_fault (call_rows f (first_literal (args_of es)) (kinds_of (args_of es)))) (Call f (args_of es)))

-- ## A record

judge_leaf-operand : (l : Leaf) → judge_leaf l ≡ map_result operand_of (check_ast (leaf_expr l))
unfolding check_ast
judge_leaf-operand (number l) = refl
judge_leaf-operand (string t) = refl
judge_leaf-operand (selector s) = unless-operand (first_fault (selector_rows s)) (VectorSelector s no_times)

-- an operand on the operands below it
pushed : (made : Result Expr) (below : List Expr)
    → and_then (map_result operand_of made) (λ x. ok (x ∷ map operand_of below)) ≡ map_result (map operand_of) (and_then made (λ e. ok (e ∷ below)))
pushed (refused n) below = refl
pushed (ok e) below = refl

on : (x : Result Operand) (made : Result Expr) (n : ℕ) (stack : List Expr) → x ≡ map_result operand_of (and_then made check_ast)
    → and_then x (λ y. ok (y ∷ drop n (map operand_of stack))) ≡ map_result (map operand_of) (push made (drop n stack))
on x made n stack e =
    ap₂ {C = Result (List Operand)} (λ y below. and_then y (λ z. ok (z ∷ below))) e (sym (map-drop operand_of n stack))
    ∙ pushed (and_then made check_ast) (drop n stack)

-- so many arguments, or 2
on-arguments : (b : Bool) (x : Result Operand) (made : Result Expr) (n : ℕ) (stack : List Expr) → x ≡ map_result operand_of (and_then made check_ast)
    → and_then (pick b x (refused 2)) (λ y. ok (y ∷ drop n (map operand_of stack))) ≡ map_result (map operand_of) (pick b (push made (drop n stack)) (refused 2))
on-arguments true x made n stack e = on x made n stack e
on-arguments false x made n stack e = refl

-- the operands' effect of a record is the trees'
pub judged-operand : (r : Record) (stack : List Expr) → AllSound stack → judged r (map operand_of stack) ≡ map_result (map operand_of) (apply r stack)
unfolding judgement apply
judged-operand (leaf l) stack h = on (judge_leaf l) (ok (leaf_expr l)) 0 stack (judge_leaf-operand l)
judged-operand (wrapper w) [] h = refl
judged-operand (wrapper w) (e ∷ below) h = on (judge_wrapper w (operand_of e)) (wrap w e) 1 (e ∷ below) (judge_wrapper-operand w e h.0)
judged-operand (binary c m) [] h = refl
judged-operand (binary c m) (r ∷ []) h = refl
judged-operand (binary c m) (r ∷ l ∷ below) h =
    on (judge_binary c m (operand_kind (operand_of l)) (operand_kind (operand_of r))) (ok (Binary c m l r)) 2 (r ∷ l ∷ below) (judge_binary-operand c m l r)
judged-operand (aggregate c m n) stack h =
    rw (length-map stack operand_of, ← map-operands_of operand_of n stack, kinds-operands (operands_of n stack))
    (on-arguments (leb n (length stack)) (judge_aggregate c (map value_type (operands_of n stack))) (new_aggregate c m (operands_of n stack)) n stack
    (judge_arguments-operand (has_parameter c) c m (operands_of n stack)))
judged-operand (call f n) stack h =
    rw (length-map stack operand_of, ← map-operands_of operand_of n stack)
    (on-arguments (leb n (length stack)) (judge_call f (map operand_of (operands_of n stack))) (ok (Call f (args_of (operands_of n stack)))) n stack
    (judge_call-operand f (operands_of n stack) (sound-operands_of n stack h)))

-- ## Under rules

-- what operands and trees come to stays alike under the same faults
under-faults : (before after : Option ℕ) (below : List Operand) (verdict : Result Operand) (trees : Result (List Expr))
    → and_then verdict (λ x. ok (x ∷ below)) ≡ map_result (map operand_of) trees
    → and_then (guarded before (and_then verdict (λ x. unless after x))) (λ x. ok (x ∷ below))
    ≡ map_result (map operand_of) (guarded before (and_then trees (λ s. unless after s)))
under-faults (some n) after below verdict trees e = refl
under-faults none after below (refused m) (refused n) e = e
under-faults none after below (refused m) (ok s) e = absurd (let z : ◌≡◌ {A = ℕ} 0 1 = cc in omega arith)
under-faults none after below (ok x) (refused n) e = absurd (let z : ◌≡◌ {A = ℕ} 0 1 = cc in omega arith)
under-faults none none below (ok x) (ok s) e = e
under-faults none (some n) below (ok x) (ok s) e = refl

pub judged_by-operand : (rules : Rules) (r : Record) (stack : List Expr) → AllSound stack
    → judged_by rules r (map operand_of stack) ≡ map_result (map operand_of) (apply_by rules r stack)
judged_by-operand rules r stack h =
    rw (kinds-operands stack)
    (under-faults (rules.before r) (rules.after r (map value_type stack)) (drop (operands r) (map operand_of stack))
    (judgement r (map operand_of stack)) (apply r stack) (judged-operand r stack h))
