-- The records of a stack's trees, the deepest first, and of arguments: those on top of a stack stand last in its records.
-- Assumes nothing.
use Prim.Native.Nat.{ℕ, zero, suc}
use mathlib.Core.Path.{◌≡◌, refl, sym, ap, ◌∙◌}
use mathlib.Core.List.{List, [], ◌∷◌, ◌++◌, reverse, reverse-cons, append_assoc, append-nil}
use lib.ListN.{length, take, drop}
use Rattle.records.specs.Record.{Record}
use Rattle.ast.specs.Expr.{Expr, args_of}
use Rattle.copy.specs.Tree.{arg_count, records_of, arg_records}

abbrev pub flat : List Expr → List Record
flat [] = []
flat (e ∷ s) = flat s ++ records_of e

-- ## Arguments

abbrev pub list_records : List Expr → List Record
list_records [] = []
list_records (e ∷ es) = records_of e ++ list_records es

list_records-end : (es : List Expr) (e : Expr) → list_records (es ++ (e ∷ [])) ≡ list_records es ++ records_of e
list_records-end [] e = append-nil (records_of e)
list_records-end (x ∷ es) e =
    ap (λ (y : List Record). records_of x ++ y) (list_records-end es e)
    ∙ sym (append_assoc (records_of x) (list_records es) (records_of e))

pub list_records-args : (es : List Expr) → arg_records (args_of es) ≡ list_records es
list_records-args [] = refl
list_records-args (e ∷ es) = ap (λ (y : List Record). records_of e ++ y) (list_records-args es)

pub arg_count-args : (es : List Expr) → arg_count (args_of es) ≡ length es
arg_count-args [] = refl
arg_count-args (e ∷ es) = ap suc (arg_count-args es)

-- the arguments on top of a stack
pub flat-split : (n : ℕ) (s : List Expr) → flat s ≡ flat (drop n s) ++ list_records (reverse (take n s))
flat-split zero s = sym (append-nil (flat s))
flat-split (suc n) [] = refl
flat-split (suc n) (e ∷ s) =
    ap (λ (y : List Record). y ++ records_of e) (flat-split n s)
    ∙ append_assoc (flat (drop n s)) (list_records (reverse (take n s))) (records_of e)
    ∙ ap (λ (y : List Record). flat (drop n s) ++ y)
    (sym (list_records-end (reverse (take n s)) e) ∙ ap list_records (sym (reverse-cons e (take n s))))
