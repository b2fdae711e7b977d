-- Settled records are their own copy, so a settled page is its own copy, byte for byte: no field of it is lost in its
-- tree. Assumes nothing.
use Prim.Native.Nat.{ℕ}
use mathlib.Core.Path.{◌≡◌, refl, sym, ap, ◌∙◌}
use mathlib.Core.Bool.{Bool, true, false, ◌||◌, not}
use mathlib.Core.List.{List, [], ◌∷◌}
use mathlib.Core.Option.{Option, none, some}
use lib.Dec.{T}
use Rattle.page.specs.Bytes.{pick, all}
use Rattle.page.specs.Text.{write_all}
use Rattle.page.proofs.NumberLaws.{is_byte, left-of, right_of}
use Rattle.records.specs.Code.{is_set_operator}
use Rattle.records.specs.Field.{has}
use Rattle.records.specs.Modifier.{Cardinality, one_to_one, many_to_many, many_to_one, one_to_many, BinModifier}
use Rattle.records.specs.Record.{number, string, selector, range, subquery, at, offset, unary, paren, Record, leaf}
use Rattle.records.specs.Record.{wrapper, binary, aggregate, call, write_record, read_page}
use Rattle.records.proofs.PageLaws.{read_page-written}
use Rattle.ast.specs.Expr.{Expr}
use Rattle.ast.specs.CheckAst.{many_to_many_of, set_operator_modifier, checked_modifier}
use Rattle.ast.specs.Walk.{accepted}
use Rattle.ast.specs.CheckPage.{check_page}
use Rattle.copy.specs.Copy.{copy_page}
use Rattle.copy.specs.Settled.{start_with, is_many_to_many, is_settled_modifier, is_settled_before, is_settled}
use Rattle.copy.proofs.PlainLaws.{Plain, AllPlain, plain-own}
use Rattle.copy.proofs.CopyLaws.{accepted-walks}
use Rattle.copy.proofs.TreeLaws.{one-copy}

-- ## Records

-- a test that does not pass
no_false : (b : Bool) → T (not b) → b ≡ false
no_false true h = absurd h
no_false false h = refl

many_to_many-kept : (c : Cardinality) → T (is_many_to_many c) → many_to_many_of c ≡ c
many_to_many-kept one_to_one h = absurd h
many_to_many-kept many_to_many h = refl
many_to_many-kept (many_to_one ls) h = absurd h
many_to_many-kept (one_to_many ls) h = absurd h

set_operator_modifier-kept : (m : Option BinModifier) → T (has (λ x. is_many_to_many x.card) m) → some (set_operator_modifier m) ≡ m
set_operator_modifier-kept none h = absurd h
set_operator_modifier-kept (some m) h =
    ap (λ (c : Cardinality). some (record { return_bool = m.return_bool; matching = m.matching; card = c; fill_values = m.fill_values }))
    (many_to_many-kept m.card h)

checked_modifier-kept : (c : ℕ) (m : Option BinModifier) → T (is_settled_modifier c m) → checked_modifier c m ≡ m
checked_modifier-kept c m = by (is_set_operator c)
  where
    by : (b : Bool) → T (not b || has (λ x. is_many_to_many x.card) m) → pick b (some (set_operator_modifier m)) m ≡ m
    by true h = set_operator_modifier-kept m h
    by false h = refl

settled_before : (r : Record) (rs : List Record) → T (is_settled_before r rs) → Plain r rs
settled_before (leaf (number l)) rs h = no_false (start_with 7 rs) h
settled_before (leaf (string t)) rs h = tt
settled_before (leaf (selector s)) rs h = tt
settled_before (wrapper (range n)) rs h = tt
settled_before (wrapper (subquery r s)) rs h = tt
settled_before (wrapper (at a)) rs h = tt
settled_before (wrapper (offset o)) rs h = no_false (start_with 5 rs) h
settled_before (wrapper unary) rs h = tt
settled_before (wrapper paren) rs h = tt
settled_before (binary c m) rs h = checked_modifier-kept c m h
settled_before (aggregate c m n) rs h = tt
settled_before (call f n) rs h = tt

settled_plain : (rs : List Record) → T (is_settled rs) → AllPlain rs
settled_plain [] h = tt
settled_plain (r ∷ rs) h = (
  settled_before r rs (left-of (is_settled_before r rs) (is_settled rs) h),
  settled_plain rs (right_of (is_settled_before r rs) (is_settled rs) h),
)

-- ## Pages

-- an accepted page whose records are settled is its own copy
pub copy-settled : (p : List ℕ) (e : Expr) (n : ℕ) → T (all is_byte p) → check_page p ≡ accepted e n → T (is_settled (read_page p).records) → copy_page p ≡ p
unfolding check_page copy_page
copy-settled p e n bytes h settled =
    ap (write_all write_record) (plain-own (read_page p).records (settled_plain (read_page p).records settled))
    ∙ sym (read_page-written p bytes (accepted-walks (read_page p) e n h).0)

-- so such pages with one tree are one page
pub settled_same : (p q : List ℕ) (e : Expr) (m n : ℕ) → T (all is_byte p) → T (all is_byte q)
    → check_page p ≡ accepted e m → check_page q ≡ accepted e n
    → T (is_settled (read_page p).records) → T (is_settled (read_page q).records) → p ≡ q
settled_same p q e m n bytes others h k settled too =
    sym (copy-settled p e m bytes h settled) ∙ (one-copy p q e e m n h k).1 refl ∙ copy-settled q e n others k too
