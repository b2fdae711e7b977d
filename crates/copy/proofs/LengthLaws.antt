-- No copy has more than 8,827 bytes: a record grows by at most 5 bytes, and only a binary one; a binary record takes an
-- operand more than it puts back, so of at most 256 records at most 127 are binary. Assumes nothing.
use Prim.Native.Nat.{ℕ, suc, ◌+◌, ◌*◌, ◌≤◌}
use mathlib.Core.Path.{◌≡◌, refl, ap, ◌∙◌}
use mathlib.Core.Bool.{Bool, true, false}
use mathlib.Core.List.{List, [], ◌∷◌}
use mathlib.Core.Option.{Option, none, some}
use native.Mathlib.Omega.{arith}
use lib.ListN.{length, drop, length-append, length-drop}
use lib.Dec.{T, leb}
use Rattle.page.specs.Bytes.{pick, all}
use Rattle.page.specs.Text.{write_all}
use Rattle.page.specs.Allowed.{Each}
use Rattle.page.proofs.NumberLaws.{is_byte}
use Rattle.records.specs.Code.{is_code, is_set_operator}
use Rattle.records.specs.Literal.{Literal, whole, fraction, infinite, plus, minus, nan, negate, write_literal}
use Rattle.records.specs.Modifier.{BinModifier}
use Rattle.records.specs.Time.{Offset}
use Rattle.records.specs.Record.{number, string, selector, range, subquery, at, offset, unary, paren, Record, leaf}
use Rattle.records.specs.Record.{wrapper, binary, aggregate, call, write_record, read_page}
use Rattle.records.specs.Stack.{operands_of}
use Rattle.records.specs.Allowed.{IsAllowed}
use Rattle.records.proofs.PageLaws.{read_page-written, read_page-allowed}
use Rattle.ast.specs.Refusal.{Result, refused, ok, and_then}
use Rattle.ast.specs.Expr.{Expr, Binary, Call, args_of}
use Rattle.ast.specs.Construct.{new_aggregate}
use Rattle.ast.specs.CheckAst.{set_operator_modifier, checked_modifier, check_ast}
use Rattle.ast.specs.Walk.{stack, accepted, walk}
use Rattle.ast.specs.CheckPage.{leaf_expr, wrap, push, push_call, apply, check_page}
use Rattle.ast.proofs.WalkLaws.{walk_first, page-limit}
use Rattle.copy.specs.Copy.{copy_number, copy_offset, copy_records, copy_page}
use Rattle.copy.specs.RecordCopy.{set_cardinality}
use Rattle.copy.proofs.FrontLaws.{copy_number-by, copy_offset-bytes}
use Rattle.copy.proofs.ModifierLaws.{form_of, before, after, modifier-written, modifier-set, binary-written}
use Rattle.copy.proofs.StartsLaws.{read_page-reads}
use Rattle.copy.proofs.CopyLaws.{accepted-walks}

-- ## How many records are binary

abbrev binaries : List Record → ℕ
binaries [] = 0
binaries (leaf l ∷ rs) = binaries rs
binaries (wrapper w ∷ rs) = binaries rs
binaries (binary c m ∷ rs) = suc (binaries rs)
binaries (aggregate c m n ∷ rs) = binaries rs
binaries (call f n ∷ rs) = binaries rs

-- one entry is put back
push-length : {t : List Expr} (made : Result Expr) (below : List Expr) → push made below ≡ ok t → length t ≡ suc (length below)
push-length {t} made below e = by (and_then made check_ast) e
  where
    by : (x : Result Expr) → and_then x (λ a. ok (a ∷ below)) ≡ ok t → length t ≡ suc (length below)
    by (refused n) q = absurd (let z : ◌≡◌ {A = ℕ} 0 1 = cc in omega arith)
    by (ok a) q = let same : t ≡ a ∷ below = cc in ap length same

push_call-length : {t : List Expr} (n : ℕ) (make : List Expr → Result Expr) (s : List Expr) → push_call n make s ≡ ok t → length t ≤ suc (length s)
push_call-length {t} n make s e = by (leb n (length s)) e
  where
    by : (b : Bool) → pick b (push (make (operands_of n s)) (drop n s)) (refused 2) ≡ ok t → length t ≤ suc (length s)
    by true q = omega (arith, push-length (make (operands_of n s)) (drop n s) q, length-drop n s)
    by false q = absurd (let z : ◌≡◌ {A = ℕ} 0 1 = cc in omega arith)

refused-never : {B : Type 0} {t : List Expr} (n : ℕ) → refused n ≡ ok t → B
refused-never n e = absurd (let z : ◌≡◌ {A = ℕ} 0 1 = cc in omega arith)

-- a record puts back one entry; a binary one takes two
apply-length : (r : Record) (rs : List Record) (s t : List Expr) → apply r s ≡ ok t
    → length t + binaries (r ∷ rs) + binaries (r ∷ rs) + length rs ≤ length s + binaries rs + binaries rs + length (r ∷ rs)
unfolding apply
apply-length (leaf l) rs s t e = omega (arith, push-length (ok (leaf_expr l)) s e)
apply-length (wrapper w) rs [] t e = refused-never 2 e
apply-length (wrapper w) rs (a ∷ s) t e = omega (arith, push-length (wrap w a) s e)
apply-length (binary c m) rs [] t e = refused-never 2 e
apply-length (binary c m) rs (a ∷ []) t e = refused-never 2 e
apply-length (binary c m) rs (a ∷ b ∷ s) t e = omega (arith, push-length (ok (Binary c m b a)) s e)
apply-length (aggregate c m n) rs s t e = omega (arith, push_call-length n (new_aggregate c m) s e)
apply-length (call f n) rs s t e = omega (arith, push_call-length n (λ es. ok (Call f (args_of es))) s e)

walk-length : (rs : List Record) (i : ℕ) (s t : List Expr) → walk apply i s rs ≡ stack t → length t + binaries rs + binaries rs ≤ length s + length rs
walk-length [] i s t e = let same : s ≡ t = cc in omega (arith, ap length same)
walk-length (r ∷ rs) i s t e =
    let (u, first, more) = walk_first apply r rs i s t e in
    omega (arith, apply-length r rs s u first, walk-length rs (suc i) u t more)

-- ## How much a record grows

literal-length : (l : Literal) → length (write_literal (negate l)) ≡ length (write_literal l)
literal-length (plus (whole n)) = refl
literal-length (minus (whole n)) = refl
literal-length nan = refl
literal-length (plus infinite) = refl
literal-length (minus infinite) = refl
literal-length (plus (fraction d p)) = refl
literal-length (minus (fraction d p)) = refl

bytes_of : List Record → ℕ
bytes_of rs = length (write_all write_record rs)

bytes_of-more : (r : Record) (rs : List Record) → bytes_of (r ∷ rs) ≡ length (write_record r) + bytes_of rs
unfolding bytes_of
bytes_of-more r rs = length-append (write_record r) (write_all write_record rs)

number-length : (l : Literal) → length (write_record (leaf (number l))) ≡ suc (length (write_literal l))
unfolding write_record
number-length l = refl

-- a number with the unary records after it
copy_number-bytes : (l : Literal) (rs : List Record) → bytes_of (copy_number l rs) ≤ suc (length (write_literal l)) + bytes_of rs
copy_number-bytes =
    copy_number-by (λ l rs qs. bytes_of qs ≤ suc (length (write_literal l)) + bytes_of rs)
    (λ l rs h. omega (arith, bytes_of-more (leaf (number l)) rs, number-length l))
    (λ l rs qs more. omega (arith, more, literal-length l, bytes_of-more (wrapper unary) rs))

-- an offset, wherever it goes
offset-bytes : (o : Offset) (rs : List Record) → bytes_of (copy_offset o rs) ≡ length (write_record (wrapper (offset o))) + bytes_of rs
unfolding bytes_of
offset-bytes o rs = copy_offset-bytes o rs

-- a binary record
modifier-bytes : (c : ℕ) → T (is_code c) → (m : Option BinModifier)
    → length (write_record (binary c (some (set_operator_modifier m)))) ≤ length (write_record (binary c m)) + 5
modifier-bytes c h none =
    omega (arith, ap length (binary-written c h none), ap length (binary-written c h (some (set_operator_modifier none))))
modifier-bytes c h (some m) =
    omega (
      arith,
      ap length (modifier-set c h m) ∙ length-append (before c m) (set_cardinality (form_of m.card) ∷ after m),
      ap length (modifier-written c h m) ∙ length-append (before c m) (form_of m.card ∷ after m),
    )

binary-bytes : (c : ℕ) → T (is_code c) → (m : Option BinModifier)
    → length (write_record (binary c (checked_modifier c m))) ≤ length (write_record (binary c m)) + 5
binary-bytes c h m = by (is_set_operator c)
  where
    by : (b : Bool) → length (write_record (binary c (pick b (some (set_operator_modifier m)) m))) ≤ length (write_record (binary c m)) + 5
    by true = modifier-bytes c h m
    by false = omega arith

copy_records-bytes : (rs : List Record) → Each IsAllowed rs → bytes_of (copy_records rs) ≤ bytes_of rs + 5 * binaries rs
copy_records-bytes [] h = omega arith
copy_records-bytes (leaf (number l) ∷ rs) (g, h) =
    omega (
      arith,
      copy_number-bytes l (copy_records rs),
      copy_records-bytes rs h,
      bytes_of-more (leaf (number l)) rs,
      number-length l,
    )
copy_records-bytes (leaf (string t) ∷ rs) (g, h) =
    omega (
      arith,
      copy_records-bytes rs h,
      bytes_of-more (leaf (string t)) rs,
      bytes_of-more (leaf (string t)) (copy_records rs),
    )
copy_records-bytes (leaf (selector s) ∷ rs) (g, h) =
    omega (
      arith,
      copy_records-bytes rs h,
      bytes_of-more (leaf (selector s)) rs,
      bytes_of-more (leaf (selector s)) (copy_records rs),
    )
copy_records-bytes (wrapper (range n) ∷ rs) (g, h) =
    omega (
      arith,
      copy_records-bytes rs h,
      bytes_of-more (wrapper (range n)) rs,
      bytes_of-more (wrapper (range n)) (copy_records rs),
    )
copy_records-bytes (wrapper (subquery r s) ∷ rs) (g, h) =
    omega (
      arith,
      copy_records-bytes rs h,
      bytes_of-more (wrapper (subquery r s)) rs,
      bytes_of-more (wrapper (subquery r s)) (copy_records rs),
    )
copy_records-bytes (wrapper (at a) ∷ rs) (g, h) =
    omega (
      arith,
      copy_records-bytes rs h,
      bytes_of-more (wrapper (at a)) rs,
      bytes_of-more (wrapper (at a)) (copy_records rs),
    )
copy_records-bytes (wrapper (offset o) ∷ rs) (g, h) =
    omega (arith, copy_records-bytes rs h, bytes_of-more (wrapper (offset o)) rs, offset-bytes o (copy_records rs))
copy_records-bytes (wrapper unary ∷ rs) (g, h) =
    omega
    (arith, copy_records-bytes rs h, bytes_of-more (wrapper unary) rs, bytes_of-more (wrapper unary) (copy_records rs))
copy_records-bytes (wrapper paren ∷ rs) (g, h) =
    omega
    (arith, copy_records-bytes rs h, bytes_of-more (wrapper paren) rs, bytes_of-more (wrapper paren) (copy_records rs))
copy_records-bytes (binary c m ∷ rs) (g, h) =
    omega (
      arith,
      copy_records-bytes rs h,
      bytes_of-more (binary c m) rs,
      bytes_of-more (binary c (checked_modifier c m)) (copy_records rs),
      binary-bytes c g.0 m,
    )
copy_records-bytes (aggregate c m n ∷ rs) (g, h) =
    omega (
      arith,
      copy_records-bytes rs h,
      bytes_of-more (aggregate c m n) rs,
      bytes_of-more (aggregate c m n) (copy_records rs),
    )
copy_records-bytes (call f n ∷ rs) (g, h) = omega (arith, copy_records-bytes rs h, bytes_of-more (call f n) rs, bytes_of-more (call f n) (copy_records rs))

-- ## The copy of an accepted page

pub copy_page-length : (page : List ℕ) (e : Expr) (n : ℕ) → T (all is_byte page) → check_page page ≡ accepted e n → length (copy_page page) ≤ 8827
unfolding check_page copy_page bytes_of
copy_page-length page e n bytes h =
    let (ending, walked) = accepted-walks (read_page page) e n h in
    omega (
      arith,
      copy_records-bytes (read_page page).records (read_page-allowed page),
      ap length (read_page-written page bytes ending),
      (read_page-reads page ending).0,
      walk-length (read_page page).records 0 [] (e ∷ []) walked,
      page-limit page,
    )
