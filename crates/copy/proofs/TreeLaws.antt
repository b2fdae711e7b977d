-- One tree, one copy: the copy of an accepted page is the records of its tree. In a walk over plain records each is taken
-- over into the stack's trees as it stands, and the records of a copy are plain. With `copy_page-tree` both directions.
-- Assumes nothing.
use Prim.Native.Nat.{ℕ, suc, ◌≤◌}
use mathlib.Core.Path.{◌≡◌, refl, sym, ap, ap₂, ◌∙◌}
use mathlib.Core.Bool.{Bool, true, false}
use mathlib.Core.Logic.{◌↔◌}
use mathlib.Core.List.{List, [], ◌∷◌, ◌++◌, append_assoc, append-nil}
use mathlib.Core.Option.{Option, none, some}
use native.Mathlib.Omega.{arith}
use lib.ListN.{length, take, drop, length-reverse, length-take}
use lib.Dec.{leb}
use borrow.Author.Tests.{leb-true}
use Rattle.page.specs.Bytes.{pick}
use Rattle.page.specs.Text.{write_all}
use Rattle.records.specs.Code.{has_parameter}
use Rattle.records.specs.Modifier.{LabelModifier, BinModifier}
use Rattle.records.specs.Signature.{Function}
use Rattle.records.specs.Stack.{operands_of}
use Rattle.records.specs.Record.{number, string, selector, Record, leaf, wrapper, binary, aggregate, call, write_record, read_page}
use Rattle.ast.specs.Refusal.{Result, refused, ok, first_fault}
use Rattle.ast.specs.Expr.{Expr, Args, args_of, Aggregate, AggregateParam, Binary, NumberLiteral, StringLiteral}
use Rattle.ast.specs.Expr.{VectorSelector, Call, value_type}
use Rattle.ast.specs.Construct.{new_aggregate_of, new_aggregate, no_times}
use Rattle.ast.specs.CheckAst.{binary_rows, aggregate_rows, call_rows, first_literal, kinds_of, selector_rows, checked_modifier, check_ast}
use Rattle.ast.specs.Walk.{stack, accepted, walk}
use Rattle.ast.specs.CheckPage.{push, push_call, apply, check_page}
use Rattle.ast.proofs.WalkLaws.{walk_first}
use Rattle.copy.specs.Copy.{copy_records, copy_page}
use Rattle.copy.specs.Tree.{records_of}
use Rattle.copy.proofs.CopyLaws.{accepted-walks, copy_records-walk, copy_page-tree}
use Rattle.copy.proofs.TimesLaws.{no-success, checked-gives}
use Rattle.copy.proofs.FlatLaws.{flat, flat-split, list_records, list_records-args, arg_count-args}
use Rattle.copy.proofs.PlainLaws.{Plain, AllPlain, copy_records-plain}
use Rattle.copy.proofs.TakenLaws.{Clear, Taken, taken, wrapper-taken}

-- ## Two operands

-- the records below, of both sides and of the operator
sides : (xs ls rs : List Record) (o : Record) → (((xs ++ ls) ++ rs) ++ (o ∷ [])) ≡ xs ++ (ls ++ (rs ++ (o ∷ [])))
sides xs ls rs o = append_assoc (xs ++ ls) rs (o ∷ []) ∙ append_assoc xs ls (rs ++ (o ∷ []))

binary-taken : (c : ℕ) (m : Option BinModifier) (l r : Expr) (rs : List Record) (below u : List Expr) → apply (binary c m) (r ∷ l ∷ below) ≡ ok u
    → Plain (binary c m) rs → Taken (binary c m) rs (r ∷ l ∷ below) u
unfolding apply check_ast
binary-taken c m l r rs below u h plain =
    let q = checked_modifier c m in
    taken (binary c m) rs (r ∷ l ∷ below) u (Binary c q l r) below
    (checked-gives (first_fault (binary_rows c m (value_type l) (value_type r))) (Binary c q l r) below u h).1
    (sym (sides (flat below) (records_of l) (records_of r) (binary c q))
    ∙ ap (λ (x : Option BinModifier). flat (r ∷ l ∷ below) ++ (binary c x ∷ [])) plain)
    (refl, refl)

-- ## Arguments

enough : (n : ℕ) (s : List Expr) → n ≤ length s → length (operands_of n s) ≡ n
enough n s h = omega (arith, length-reverse (take n s), length-take n s)

-- so many arguments are there
push_call-gives : (n : ℕ) (make : List Expr → Result Expr) (s u : List Expr) → push_call n make s ≡ ok u
    → (length (operands_of n s) ≡ n) × (push (make (operands_of n s)) (drop n s) ≡ ok u)
push_call-gives n make s u = by (leb n (length s)) refl
  where
    by : (b : Bool) → leb n (length s) ≡ b → pick b (push (make (operands_of n s)) (drop n s)) (refused 2) ≡ ok u
        → (length (operands_of n s) ≡ n) × (push (make (operands_of n s)) (drop n s) ≡ ok u)
    by true h k = (enough n s (leb-true n (length s) h), k)
    by false h k = no-success 2 u k

-- a tree of some arguments, on what lies below them
abbrev TreeOf : Record → List Record → List Expr → List Expr → List Expr → Type 0
TreeOf r rs es below u = (y : Expr) × (u ≡ y ∷ below) × (records_of y ≡ list_records es ++ (r ∷ [])) × Clear (y ∷ below) rs

aggregate-tree : (has : Bool) (c : ℕ) (m : Option LabelModifier) (n : ℕ) (rs : List Record) (es below u : List Expr) → length es ≡ n
    → push (new_aggregate_of has c m es) below ≡ ok u → TreeOf (aggregate c m n) rs es below u
unfolding check_ast
aggregate-tree has c m n rs [] below u k h = no-success 14 u h
aggregate-tree true c m n rs (p ∷ []) below u k h = no-success 15 u h
aggregate-tree true c m n rs (p ∷ e ∷ []) below u k h = (
  AggregateParam c m p e,
  (checked-gives (first_fault (aggregate_rows c (some (value_type p)) (value_type e))) (AggregateParam c m p e) below u h).1,
  sym (append_assoc (records_of p) (records_of e) (aggregate c m 2 ∷ []))
      ∙ ap₂ (λ (z : List Record) (j : ℕ). (records_of p ++ z) ++ (aggregate c m j ∷ [])) (sym (append-nil (records_of e))) k,
  (refl, refl),
)
aggregate-tree true c m n rs (p ∷ e ∷ x ∷ es) below u k h = no-success 15 u h
aggregate-tree false c m n rs (e ∷ []) below u k h = (
  Aggregate c m e,
  (checked-gives (first_fault (aggregate_rows c none (value_type e))) (Aggregate c m e) below u h).1,
  ap₂ (λ (z : List Record) (j : ℕ). z ++ (aggregate c m j ∷ [])) (sym (append-nil (records_of e))) k,
  (refl, refl),
)
aggregate-tree false c m n rs (e ∷ x ∷ es) below u k h = no-success 15 u h

arguments-taken : (r : Record) (rs : List Record) (n : ℕ) (s u : List Expr) (y : Expr) → u ≡ y ∷ drop n s
    → records_of y ≡ list_records (operands_of n s) ++ (r ∷ []) → Clear (y ∷ drop n s) rs → Taken r rs s u
arguments-taken r rs n s u y next records =
    taken r rs s u y (drop n s) next
    (ap (λ (x : List Record). flat (drop n s) ++ x) records
    ∙ sym (append_assoc (flat (drop n s)) (list_records (operands_of n s)) (r ∷ []))
    ∙ ap (λ (x : List Record). x ++ (r ∷ [])) (sym (flat-split n s)))

aggregate-taken : (c : ℕ) (m : Option LabelModifier) (n : ℕ) (rs : List Record) (s u : List Expr) → apply (aggregate c m n) s ≡ ok u
    → Taken (aggregate c m n) rs s u
unfolding apply
aggregate-taken c m n rs s u h =
    let (count, made) = push_call-gives n (new_aggregate c m) s u h in
    let (y, next, records, clear) = aggregate-tree (has_parameter c) c m n rs (operands_of n s) (drop n s) u count made in
    arguments-taken (aggregate c m n) rs n s u y next records clear

call-taken : (f : Function) (n : ℕ) (rs : List Record) (s u : List Expr) → apply (call f n) s ≡ ok u → Taken (call f n) rs s u
unfolding apply check_ast
call-taken f n rs s u h =
    let (count, made) = push_call-gives n (λ es. ok (Call f (args_of es))) s u h in
    let es : Args = args_of (operands_of n s) in
    arguments-taken (call f n) rs n s u (Call f es)
    (checked-gives (first_fault (call_rows f (first_literal es) (kinds_of es))) (Call f es) (drop n s) u made).1
    (ap₂ (λ (z : List Record) (j : ℕ). z ++ (call f j ∷ [])) (list_records-args (operands_of n s)) (arg_count-args (operands_of n s) ∙ count))
    (refl, refl)

-- ## Any record, and a walk

record-taken : (r : Record) (rs : List Record) (s u : List Expr) → apply r s ≡ ok u → Plain r rs → Clear s (r ∷ rs) → Taken r rs s u
unfolding apply check_ast
record-taken (leaf (number l)) rs s u h plain clear =
    taken (leaf (number l)) rs s u (NumberLiteral l) s (cc) refl (plain, refl)
record-taken (leaf (string t)) rs s u h plain clear =
    taken (leaf (string t)) rs s u (StringLiteral t) s (cc) refl (refl, refl)
record-taken (leaf (selector x)) rs s u h plain clear =
    taken (leaf (selector x)) rs s u (VectorSelector x no_times) s
    (checked-gives (first_fault (selector_rows x)) (VectorSelector x no_times) s u h).1 refl (refl, refl)
record-taken (wrapper w) rs [] u h plain clear = no-success 2 u h
record-taken (wrapper w) rs (e ∷ s) u h plain clear = wrapper-taken w e rs s u h plain clear
record-taken (binary c m) rs [] u h plain clear = no-success 2 u h
record-taken (binary c m) rs (r ∷ []) u h plain clear = no-success 2 u h
record-taken (binary c m) rs (r ∷ l ∷ s) u h plain clear = binary-taken c m l r rs s u h plain
record-taken (aggregate c m n) rs s u h plain clear = aggregate-taken c m n rs s u h
record-taken (call f n) rs s u h plain clear = call-taken f n rs s u h

walk-taken : (rs : List Record) (i : ℕ) (s t : List Expr) → AllPlain rs → Clear s rs → walk apply i s rs ≡ stack t → flat s ++ rs ≡ flat t
walk-taken [] i s t plain clear h =
    let same : s ≡ t = cc in
    append-nil (flat s) ∙ ap flat same
walk-taken (r ∷ rs) i s t plain clear h =
    let (u, first, more) = walk_first apply r rs i s t h in
    let (last, next) = record-taken r rs s u first plain.0 clear in
    sym (append_assoc (flat s) (r ∷ []) rs)
    ∙ ap (λ (x : List Record). x ++ rs) (sym last)
    ∙ walk-taken rs (suc i) u t plain.1 next more

-- ## Accepted pages

-- the records of the copy are those of the tree
pub copy-of-tree : (p : List ℕ) (e : Expr) (n : ℕ) → check_page p ≡ accepted e n → copy_records (read_page p).records ≡ records_of e
unfolding check_page
copy-of-tree p e n h =
    let rs : List Record = (read_page p).records in
    walk-taken (copy_records rs) 0 [] (e ∷ []) (copy_records-plain rs) tt
    (copy_records-walk rs 0 [] (e ∷ []) (accepted-walks (read_page p) e n h).1 0)

-- so the copy is the records of the tree, written
pub copy_page-records : (p : List ℕ) (e : Expr) (n : ℕ) → check_page p ≡ accepted e n → copy_page p ≡ write_all write_record (records_of e)
unfolding copy_page
copy_page-records p e n h = ap (write_all write_record) (copy-of-tree p e n h)

-- document 02, No. 14: "two accepted pages have equal copies when, and only when, their checked trees and pattern flags
-- agree in every field": a flag is a field of its matcher. Of copies of any length
pub one-copy : (p q : List ℕ) (e f : Expr) (m n : ℕ) → check_page p ≡ accepted e m → check_page q ≡ accepted f n
    → (copy_page p ≡ copy_page q) ↔ (e ≡ f)
one-copy p q e f m n h k = (
  copy_page-tree p q e f m n h k,
  λ same. copy_page-records p e m h ∙ ap (λ (x : Expr). write_all write_record (records_of x)) same ∙ sym (copy_page-records q f n k),
)
