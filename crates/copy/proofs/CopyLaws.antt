-- The copy of an accepted page is a page again where it is short enough: it is read as the records of the copy, it is
-- accepted with the same tree, and it is its own copy. The walk over the copy's records goes through the same stacks.
-- Assumes nothing.
use Prim.Native.Nat.{ℕ, suc, ◌≤◌}
use mathlib.Core.Path.{◌≡◌, refl, sym, ap, ap₂, ◌∙◌, subst}
use mathlib.Core.Bool.{Bool, true, false}
use mathlib.Core.List.{List, [], ◌∷◌}
use mathlib.Core.Option.{Option, none, some}
use native.Mathlib.Omega.{arith}
use lib.ListN.{length}
use Rattle.page.specs.Bytes.{pick}
use Rattle.page.specs.Limits.{page_limit, record_limit}
use Rattle.page.specs.Text.{write_all}
use Rattle.page.specs.Allowed.{Each}
use Rattle.records.specs.Kind.{Kind}
use Rattle.records.specs.Code.{is_set_operator}
use Rattle.records.specs.Literal.{Literal, negate}
use Rattle.records.specs.Time.{Offset}
use Rattle.records.specs.Modifier.{Cardinality, one_to_one, many_to_many, many_to_one, one_to_many, BinModifier}
use Rattle.records.specs.Record.{number, string, selector, range, subquery, at, offset, unary, paren, Record, leaf}
use Rattle.records.specs.Record.{wrapper, binary, aggregate, call, write_record, Ending, end, unreadable, Records}
use Rattle.records.specs.Record.{read_page}
use Rattle.records.proofs.PageLaws.{whole, write_records-injective, read_page-back, read_page-allowed}
use Rattle.records.specs.Allowed.{IsAllowed}
use Rattle.records.specs.Outcome.{answer, refusal}
use Rattle.ast.specs.Refusal.{Result, ok, Row, first_fault, unless, and_then}
use Rattle.ast.specs.Expr.{Expr, NumberLiteral, Binary, value_type}
use Rattle.ast.specs.CheckAst.{group_labels, is_grouping, binary_rows, many_to_many_of, set_operator_modifier, checked_modifier, check_ast}
use Rattle.ast.specs.Walk.{Walked, stack, stopped, Checked, accepted, refused_at, at_end, finished, walk, walk_page}
use Rattle.ast.specs.CheckPage.{apply, check_page, outcome_of, check}
use Rattle.ast.proofs.WalkLaws.{walk_first, walk-then, walk-index, page-limit}
use Rattle.copy.specs.Copy.{copy_number, copy_offset, copy_record, copy_records, copy_page}
use Rattle.copy.proofs.FrontLaws.{copy_number-by, copy_offset-by}
use Rattle.copy.proofs.TimesLaws.{swapped}
use Rattle.copy.proofs.CopyRecordsLaws.{checked_modifier-once, copy_records-allowed, copy_records-length}
use Rattle.copy.proofs.PlainLaws.{copy_records-once}

-- ## The check of a binary record with the modifier that the check gave it

many_to_many_of-group_labels : (c : Cardinality) → group_labels (many_to_many_of c) ≡ group_labels c
many_to_many_of-group_labels one_to_one = refl
many_to_many_of-group_labels many_to_many = refl
many_to_many_of-group_labels (many_to_one ls) = refl
many_to_many_of-group_labels (one_to_many ls) = refl

many_to_many_of-is_grouping : (c : Cardinality) → is_grouping (many_to_many_of c) ≡ is_grouping c
many_to_many_of-is_grouping one_to_one = refl
many_to_many_of-is_grouping many_to_many = refl
many_to_many_of-is_grouping (many_to_one ls) = refl
many_to_many_of-is_grouping (one_to_many ls) = refl

-- the rows see the modifier through four tests alone, and the change alters none of them
set_operator_modifier-rows : (c : ℕ) (m : Option BinModifier) (l r : Kind) → binary_rows c (some (set_operator_modifier m)) l r ≡ binary_rows c m l r
set_operator_modifier-rows c none l r = refl
set_operator_modifier-rows c (some m) l r = rw (many_to_many_of-group_labels m.card, many_to_many_of-is_grouping m.card)

checked_modifier-rows : (c : ℕ) (m : Option BinModifier) (l r : Kind) → binary_rows c (checked_modifier c m) l r ≡ binary_rows c m l r
checked_modifier-rows c m l r = by (is_set_operator c)
  where
    by : (b : Bool) → binary_rows c (pick b (some (set_operator_modifier m)) m) l r ≡ binary_rows c m l r
    by true = set_operator_modifier-rows c m l r
    by false = refl

check_ast-once : (c : ℕ) (m : Option BinModifier) (l r : Expr) → check_ast (Binary c (checked_modifier c m) l r) ≡ check_ast (Binary c m l r)
unfolding check_ast
check_ast-once c m l r =
    ap₂ (λ (rows : List Row) (x : Option BinModifier). unless (first_fault rows) (Binary c x l r))
    (checked_modifier-rows c m (value_type l) (value_type r)) (checked_modifier-once c m)

pub apply-once : (c : ℕ) (m : Option BinModifier) (s : List Expr) → apply (binary c (checked_modifier c m)) s ≡ apply (binary c m) s
unfolding apply
apply-once c m [] = refl
apply-once c m (r ∷ []) = refl
apply-once c m (r ∷ l ∷ below) = ap (λ (x : Result Expr). and_then x (λ e. ok (e ∷ below))) (check_ast-once c m l r)

-- ## The walk over the copy's records

number-applied : (l : Literal) (s : List Expr) → apply (leaf (number l)) s ≡ ok (NumberLiteral l ∷ s)
unfolding apply check_ast
number-applied l s = refl

-- a walk to the end, from any index
abbrev pub Ends : List Expr → List Record → List Expr → Type 0
Ends s rs t = (i : ℕ) → walk apply i s rs ≡ stack t

record-in-front : (r : Record) (rs : List Record) (s t u : List Expr) → apply r s ≡ ok u → Ends u rs t → Ends s (r ∷ rs) t
record-in-front r rs s t u e h i = walk-then apply r rs i s t u e (h (suc i))

unary-behind : (l : Literal) (rs : List Record) (s t : List Expr) → Ends (NumberLiteral l ∷ s) (wrapper unary ∷ rs) t → Ends (NumberLiteral (negate l) ∷ s) rs t
unfolding apply check_ast
unary-behind l rs s t h i = walk-index apply rs 1 i (NumberLiteral (negate l) ∷ s) t (h 0)

copy_number-walk : (l : Literal) (rs : List Record) (s t : List Expr) → Ends (NumberLiteral l ∷ s) rs t → Ends s (copy_number l rs) t
copy_number-walk =
    copy_number-by (λ l rs qs. (s t : List Expr) → Ends (NumberLiteral l ∷ s) rs t → Ends s qs t)
    (λ l rs h s t walks. record-in-front (leaf (number l)) rs s t (NumberLiteral l ∷ s) (number-applied l s) walks)
    (λ l rs qs more s t walks. more s t (unary-behind l rs s t walks))

-- an offset behind an @: from the stack before it the @ and then the offset lead to the same stack
copy_offset-walk : (o : Offset) (rs : List Record) (s t u : List Expr) → apply (wrapper (offset o)) s ≡ ok u → Ends u rs t → Ends s (copy_offset o rs) t
copy_offset-walk o =
    copy_offset-by o (λ rs qs. (s t u : List Expr) → apply (wrapper (offset o)) s ≡ ok u → Ends u rs t → Ends s qs t)
    (λ rs h s t u e walks. record-in-front (wrapper (offset o)) rs s t u e walks)
    (λ a rs qs more s t u e walks.
    let (v, e-at, behind) = walk_first apply (wrapper (at a)) rs 0 u t (walks 0) in
    let (w, at_first, then-offset) = swapped o a s u v e e-at in
    record-in-front (wrapper (at a)) qs s t w at_first (more w t v then-offset (λ i. walk-index apply rs 1 i v t behind)))

copy_record-walk : (r : Record) (rs : List Record) (s t u : List Expr) → apply r s ≡ ok u → Ends u rs t → Ends s (copy_record r rs) t
copy_record-walk (leaf (number l)) rs s t u e h = copy_number-walk l rs s t (subst (λ (x : List Expr). Ends x rs t) same h)
  where
    same : u ≡ NumberLiteral l ∷ s
    same = let q = number-applied l s in cc
copy_record-walk (leaf (string x)) rs s t u e h = record-in-front (leaf (string x)) rs s t u e h
copy_record-walk (leaf (selector x)) rs s t u e h = record-in-front (leaf (selector x)) rs s t u e h
copy_record-walk (wrapper (range n)) rs s t u e h = record-in-front (wrapper (range n)) rs s t u e h
copy_record-walk (wrapper (subquery r x)) rs s t u e h = record-in-front (wrapper (subquery r x)) rs s t u e h
copy_record-walk (wrapper (at a)) rs s t u e h = record-in-front (wrapper (at a)) rs s t u e h
copy_record-walk (wrapper (offset o)) rs s t u e h = copy_offset-walk o rs s t u e h
copy_record-walk (wrapper unary) rs s t u e h = record-in-front (wrapper unary) rs s t u e h
copy_record-walk (wrapper paren) rs s t u e h = record-in-front (wrapper paren) rs s t u e h
copy_record-walk (binary c m) rs s t u e h = record-in-front (binary c (checked_modifier c m)) rs s t u (apply-once c m s ∙ e) h
copy_record-walk (aggregate c m n) rs s t u e h = record-in-front (aggregate c m n) rs s t u e h
copy_record-walk (call f n) rs s t u e h = record-in-front (call f n) rs s t u e h

-- records that can be walked to the end are copied to records with the same stack
pub copy_records-walk : (rs : List Record) (i : ℕ) (s t : List Expr) → walk apply i s rs ≡ stack t → Ends s (copy_records rs) t
copy_records-walk [] i s t e = λ j. e
copy_records-walk (r ∷ rs) i s t e =
    let first = walk_first apply r rs i s t e in
    copy_record-walk r (copy_records rs) s t first.0 first.1 (copy_records-walk rs (suc i) first.0 t first.2)

-- ## The copy of an accepted page

-- an accepted page can be read to its end, and its walk leaves the tree
abbrev pub WalksTo : Records → Expr → Type 0
WalksTo page e = (page.ending ≡ end) × (walk apply 0 [] page.records ≡ stack (e ∷ []))

pub accepted-walks : (page : Records) (e : Expr) (n : ℕ) → walk_page apply page ≡ accepted e n → WalksTo page e
accepted-walks page e n = by (walk apply 0 [] page.records) refl
  where
    refused-never : {B : Type 0} (k j : ℕ) → refused_at k j ≡ accepted e n → B
    refused-never k j q = absurd (let z : ◌≡◌ {A = ℕ} 0 1 = cc in omega arith)

    left : (x : Ending) (s : List Expr) → at_end x (length page.records) s ≡ accepted e n → (x ≡ end) × (s ≡ e ∷ [])
    left (unreadable f) s q = refused-never _ _ q
    left end [] q = refused-never _ _ q
    left end (a ∷ []) q = (refl, (let same : a ≡ e = cc in ap {B = List Expr} (λ x. x ∷ []) same))
    left end (a ∷ b ∷ s) q = refused-never _ _ q

    by : (w : Walked Expr) → walk apply 0 [] page.records ≡ w → finished page.ending (length page.records) w ≡ accepted e n → WalksTo page e
    by (stopped k j) h q = refused-never k j q
    by (stack s) h q = let l = left page.ending s q in (l.0, h ∙ ap stack l.1)

module _ (page : List ℕ) (short : length (copy_page page) ≤ page_limit) where
  -- it is read as the records of the copy
  pub copy_page-read : read_page (copy_page page) ≡ whole (copy_records (read_page page).records)
  unfolding copy_page
  copy_page-read =
      read_page-back (copy_records (read_page page).records) (copy_records-allowed (read_page page).records (read_page-allowed page))
      (few (copy_records-length (read_page page).records) (page-limit page)) short
    where
      few : length (copy_records (read_page page).records) ≤ length (read_page page).records
          → length (read_page page).records ≤ record_limit
          → length (copy_records (read_page page).records) ≤ record_limit
      few h k = omega arith

  -- it is its own copy
  pub copy_page-once : copy_page (copy_page page) ≡ copy_page page
  unfolding copy_page
  copy_page-once =
      ap (λ (x : Records). write_all write_record (copy_records x.records)) copy_page-read
      ∙ ap (write_all write_record) (copy_records-once (read_page page).records)

  -- it is accepted with the checked tree
  pub copy_page-check_page : (e : Expr) (n : ℕ) → check_page page ≡ accepted e n
      → check_page (copy_page page) ≡ accepted e (length (copy_records (read_page page).records))
  unfolding check_page
  copy_page-check_page e n h =
      ap (walk_page apply) copy_page-read
      ∙ ap (finished end (length (copy_records (read_page page).records)))
      (copy_records-walk (read_page page).records 0 [] (e ∷ []) (accepted-walks (read_page page) e n h).1 0)

  -- and so with the same kind
  pub copy_page-check : (k : Kind) (n : ℕ) → check page ≡ answer k n → check (copy_page page) ≡ check page
  copy_page-check k n = by (check_page page) refl
    where
      refused-never : {B : Type 0} (m j : ℕ) → refusal m j ≡ answer k n → B
      refused-never m j q = absurd (let z : ◌≡◌ {A = ℕ} 0 1 = cc in omega arith)

      by : (c : Checked Expr) → check_page page ≡ c → outcome_of c ≡ answer k n → check (copy_page page) ≡ check page
      by (refused_at m j) h q = refused-never m j q
      by (accepted e m) h q = ap outcome_of (copy_page-check_page e m h) ∙ sym (ap outcome_of h)

-- ## Pages with one copy

-- accepted pages with equal copies, of any length, have one tree
pub copy_page-tree : (p q : List ℕ) (e f : Expr) (m n : ℕ) → check_page p ≡ accepted e m → check_page q ≡ accepted f n → copy_page p ≡ copy_page q → e ≡ f
unfolding check_page copy_page
copy_page-tree p q e f m n h k same =
    let one : walk apply 0 [] (copied p) ≡ stack (e ∷ []) = copy_records-walk (read_page p).records 0 [] (e ∷ []) (accepted-walks (read_page p) e m h).1 0 in
    let other : walk apply 0 [] (copied q) ≡ stack (f ∷ []) = copy_records-walk (read_page q).records 0 [] (f ∷ []) (accepted-walks (read_page q) f n k).1 0 in
    let records : copied p ≡ copied q = write_records-injective (copied p) (copied q) (allowed p) (allowed q) same in
    cc
  where
    copied : List ℕ → List Record
    copied page = copy_records (read_page page).records

    allowed : (page : List ℕ) → Each IsAllowed (copy_records (read_page page).records)
    allowed page = copy_records-allowed (read_page page).records (read_page-allowed page)
