-- How much longer a node's text is than its operands' texts: at most four bytes for each byte of its record and a fixed
-- number of bytes, where each operand is counted with the two bytes of a separator. Assumes nothing.
use Prim.Native.Nat.{ℕ, zero, suc, ◌+◌, ◌*◌, ◌≤◌}
use native.Mathlib.Omega.{arith}
use mathlib.Core.Path.{◌≡◌, refl, sym, ap, ◌∙◌}
use mathlib.Core.Bool.{Bool, true, false}
use mathlib.Core.List.{List, [], ◌∷◌, ◌++◌, reverse_aux}
use mathlib.Core.Option.{Option, none, some}
use lib.ListN.{length, take, drop, length-append}
use Rattle.page.specs.Bytes.{bytes, join, join_rest}
use Rattle.page.specs.Number.{write_number}
use Rattle.page.specs.Text.{write_text, write_list}
use Rattle.page.specs.Allowed.{IsNumber}
use Rattle.page.proofs.LengthLaws.{write_text-some}
use Rattle.records.specs.Stack.{operands_of}
use Rattle.records.specs.Literal.{Literal, negate}
use Rattle.records.specs.Field.{write_option}
use Rattle.records.specs.Matcher.{write_matcher}
use Rattle.records.specs.Modifier.{LabelModifier, BinModifier, write_label_modifier, write_bin_modifier}
use Rattle.records.specs.Time.{Times}
use Rattle.records.specs.Signature.{Function, write_signature, write_function}
use Rattle.records.specs.Record.{Leaf, number, string, selector, Wrapper, range, subquery, at, offset, unary, paren, leaf, binary, aggregate, call, write_record}
use Rattle.records.specs.Allowed.{IsLeaf, IsWrapper, IsOptionOf, IsBinModifier}
use Rattle.leaves.specs.Duration.{display_duration}
use Rattle.leaves.proofs.LengthLaws.{quote-short, display_literal-short}
use Rattle.ast.specs.Refusal.{ok}
use Rattle.ast.specs.Expr.{Expr, Aggregate, AggregateParam, Unary, Binary, Paren, Subquery, NumberLiteral}
use Rattle.ast.specs.Expr.{StringLiteral, VectorSelector, MatrixSelector, Call, args_of, scalar_value}
use Rattle.ast.specs.Construct.{new_aggregate_of, no_times}
use Rattle.ast.specs.CheckAst.{checked_modifier}
use Rattle.ast.specs.CheckPage.{leaf_expr, wrap}
use Rattle.text.specs.Display.{optional, display_operator, display_times, display_suffix, display_aggregator, display_selector, enclosed, display, display_all}
use Rattle.text.specs.Layout.{display_range}
use Rattle.text.specs.Chain.{overlaid, with_at, with_offset, settled}
use Rattle.text.proofs.DisplayLaws.{display_operator-checked}
use Rattle.text.proofs.TreeLaws.{checked_expr}
use Rattle.text.proofs.EntryLaws.{negated, UnaryOf, unary-of}
use Rattle.text.proofs.LaidOutLaws.{number_is}
use Rattle.text.proofs.ChainLaws.{settled-nothing, range-settled, at-settled, offset-settled}
use Rattle.text.proofs.ShortLaws.{display_operator-short, display_range-short, at-times-short, offset-times-short}
use Rattle.text.proofs.ShortLaws.{display_suffix-short, times-short, display_literal-negate, display_selector-short}

-- the texts of expressions, each with a separator
unfoldable pub total : List Expr → ℕ
total [] = 0
total (e ∷ es) = 2 + length (display e) + total es

-- ## Operands

total-reverse : (l r : List Expr) → total (reverse_aux l r) ≡ total l + total r
unfolding total
total-reverse [] r = omega arith
total-reverse (e ∷ l) r = omega (arith, total-reverse l (e ∷ r))

total-split : (n : ℕ) (s : List Expr) → total (take n s) + total (drop n s) ≡ total s
unfolding total
total-split zero s = omega arith
total-split (suc n) [] = omega arith
total-split (suc n) (e ∷ s) = omega (arith, total-split n s)

-- what a record takes off the stack, and what it leaves
pub total-operands : (n : ℕ) (s : List Expr) → total (operands_of n s) + total (drop n s) ≡ total s
unfolding total
total-operands n s = omega (arith, total-reverse (take n s) [], total-split n s)

join_rest-short : (es : List Expr) → length (join_rest (bytes ", ") (display_all (args_of es))) ≤ total es
unfolding total display
join_rest-short [] = omega arith
join_rest-short (e ∷ es) = omega (arith, length-append (display e) (join_rest (bytes ", ") (display_all (args_of es))), join_rest-short es)

join-short : (es : List Expr) → length (join (bytes ", ") (display_all (args_of es))) ≤ total es
unfolding total display
join-short [] = omega arith
join-short (e ∷ es) = omega (arith, length-append (display e) (join_rest (bytes ", ") (display_all (args_of es))), join_rest-short es)

enclosed-short : (head : List ℕ) (es : List Expr) → length (enclosed head (display_all (args_of es))) ≤ length head + total es + 2
enclosed-short head es =
    let inner = join (bytes ", ") (display_all (args_of es)) in
    omega (
      arith,
      length-append (head ++ bytes "(" ++ inner) (bytes ")"),
      length-append (head ++ bytes "(") inner,
      length-append head (bytes "("),
      join-short es,
    )

-- ## Records on one operand

subquery-short : (e : Expr) (r : ℕ) (s : Option ℕ) → IsNumber r → IsOptionOf IsNumber s → length (display (Subquery e r s no_times)) ≤ length (display e) + 83
unfolding display
subquery-short e r s h k = omega (arith, length-append (display e) (display_suffix r s no_times), display_suffix-short r s h k)

paren-short : (e : Expr) → length (display (Paren e)) ≤ length (display e) + 83
unfolding display total
paren-short e = omega (arith, enclosed-short [] (e ∷ []))

-- a range, @ and offset settled on a tree: its text gets no longer than by theirs
settled-short : (n : Option ℕ) (u : Times) (e : Expr)
    → length (display (settled n u e)) ≤ length (display e) + length (display_range n) + length (display_times u)
unfolding settled display
settled-short n u (Aggregate c m e) = omega arith
settled-short n u (AggregateParam c m p e) = omega arith
settled-short n u (Unary e) = omega arith
settled-short n u (Binary c m x y) = omega arith
settled-short n u (Paren e) = omega arith
settled-short n u (Subquery e q s t) =
    let front = bytes "[" ++ display_duration q ++ bytes ":" ++ optional display_duration s ++ bytes "]" in
    omega (arith, length-append (display e) (display_suffix q s (overlaid t u)), length-append (display e) (display_suffix q s t), times-short front t u)
settled-short n u (NumberLiteral l) = omega arith
settled-short n u (StringLiteral x) = omega arith
settled-short none u (VectorSelector s t) = omega (arith, times-short (display_selector s) t u)
settled-short (some r) u (VectorSelector s t) =
    let front = display_selector s ++ bytes "[" ++ display_duration r ++ bytes "]" in
    omega (
      arith,
      times-short front t u,
      length-append front (display_times t),
      length-append (display_selector s ++ bytes "[" ++ display_duration r) (bytes "]"),
      length-append (display_selector s ++ bytes "[") (display_duration r),
      length-append (display_selector s) (bytes "["),
      length-append (display_duration r) (bytes "]"),
      length-append (display_selector s) (display_times t),
    )
settled-short n u (MatrixSelector s t q) = omega (arith, times-short (display_selector s ++ bytes "[" ++ display_duration q ++ bytes "]") t u)
settled-short n u (Call f es) = omega arith

part-short : (n : Option ℕ) (u : Times) (e made : Expr) → settled none no_times made ≡ settled n u e
    → length (display made) ≤ length (display e) + length (display_range n) + length (display_times u)
part-short n u e made h = omega (arith, ap (λ (x : Expr). length (display x)) (sym (settled-nothing made) ∙ h), settled-short n u e)

unary-short : (e made : Expr) → UnaryOf e made → length (display made) ≤ suc (length (display e))
unfolding display
unary-short e made w = by (scalar_value e) refl
  where
    size : {a b : Expr} → a ≡ b → length (display a) ≡ length (display b)
    size k = ap (λ (x : Expr). length (display x)) k

    by : (v : Option Literal) → scalar_value e ≡ v → length (display made) ≤ suc (length (display e))
    by none h = omega (arith, size (w.other h))
    by (some l) h = omega (arith, size (number_is made (negate l) (w.value ∙ ap negated h)), size (number_is e l h), display_literal-negate l)

pub wrap-short : (w : Wrapper) (e node : Expr) → IsWrapper w → wrap w e ≡ ok node → length (display (checked_expr node)) ≤ length (display e) + 83
wrap-short (range r) e node a h = omega (arith, part-short (some r) no_times e _ (range-settled r none no_times e node h), display_range-short r a)
wrap-short (subquery r t) e node a h = let same : node ≡ Subquery e r t no_times = cc in rw same (subquery-short e r t a.0 a.1)
wrap-short (at x) e node a h = omega (arith, part-short none (with_at x no_times) e _ (at-settled x none no_times e node h), at-times-short x a)
wrap-short (offset o) e node a h = omega (arith, part-short none (with_offset o no_times) e _ (offset-settled o none no_times e node h), offset-times-short o a)
wrap-short unary e node a h = omega (arith, unary-short e _ (unary-of e node h))
wrap-short paren e node a h = let same : node ≡ Paren e = cc in rw same (paren-short e)

-- ## Records

pub leaf-short : (l : Leaf) (node : Expr) → IsLeaf l → ok (leaf_expr l) ≡ ok node → length (display (checked_expr node)) ≤ 4 * length (write_record (leaf l)) + 17
unfolding display write_record
leaf-short (number l) node a h = let same : node ≡ NumberLiteral l = cc in rw same (omega (arith, display_literal-short l a))
leaf-short (string t) node a h = let same : node ≡ StringLiteral t = cc in rw same (omega (arith, quote-short t, write_text-some t))
leaf-short (selector s) node a h =
    let same : node ≡ VectorSelector s no_times = cc in
    rw same (omega (
      arith,
      length-append (display_selector s) [],
      display_selector-short s,
      length-append (2 ∷ write_text s.name) (write_list write_matcher s.matchers),
    ))

pub binary-short : (c : ℕ) (m : Option BinModifier) (l r node : Expr) → IsOptionOf IsBinModifier m → ok (Binary c m l r) ≡ ok node
    → length (display (checked_expr node)) ≤ length (display l) + length (display r) + 4 * length (write_record (binary c m)) + 107
unfolding display write_record
binary-short c m l r node a h =
    let same : node ≡ Binary c m l r = cc in
    let operator = display_operator c (checked_modifier c m) in
    rw same (omega (
      arith,
      length-append (display l ++ bytes " " ++ operator ++ bytes " ") (display r),
      length-append (display l ++ bytes " " ++ operator) (bytes " "),
      length-append (display l ++ bytes " ") operator,
      length-append (display l) (bytes " "),
      ap length (display_operator-checked c m),
      display_operator-short c m a,
      length-append (9 ∷ write_number c) (write_option write_bin_modifier m),
    ))

pub aggregate-short : (c : ℕ) (m : Option LabelModifier) (b : Bool) (es : List Expr) (node : Expr) → new_aggregate_of b c m es ≡ ok node
    → length (display (checked_expr node)) ≤ length (display_aggregator c m) + total es + 2
unfolding display
aggregate-short c m true [] node h = absurd (let z : ◌≡◌ {A = ℕ} 0 1 = cc in omega arith)
aggregate-short c m false [] node h = absurd (let z : ◌≡◌ {A = ℕ} 0 1 = cc in omega arith)
aggregate-short c m true (p ∷ []) node h = absurd (let z : ◌≡◌ {A = ℕ} 0 1 = cc in omega arith)
aggregate-short c m true (p ∷ e ∷ []) node h = let same : node ≡ AggregateParam c m p e = cc in rw same (enclosed-short (display_aggregator c m) (p ∷ e ∷ []))
aggregate-short c m true (p ∷ e ∷ x ∷ es) node h = absurd (let z : ◌≡◌ {A = ℕ} 0 1 = cc in omega arith)
aggregate-short c m false (e ∷ []) node h = let same : node ≡ Aggregate c m e = cc in rw same (enclosed-short (display_aggregator c m) (e ∷ []))
aggregate-short c m false (e ∷ x ∷ es) node h = absurd (let z : ◌≡◌ {A = ℕ} 0 1 = cc in omega arith)

pub call-short : (f : Function) (n : ℕ) (es : List Expr) (node : Expr) → ok (Call f (args_of es)) ≡ ok node
    → length (display (checked_expr node)) ≤ total es + length (write_record (call f n)) + 2
unfolding display write_record
call-short f n es node h =
    let same : node ≡ Call f (args_of es) = cc in
    rw same (omega (
      arith,
      enclosed-short f.name es,
      write_text-some f.name,
      length-append (11 ∷ write_function f) (write_number n),
      length-append (write_text f.name) (write_signature f),
    ))

pub aggregate-written : (c : ℕ) (m : Option LabelModifier) (n : ℕ) → length (write_label_modifier m) ≤ length (write_record (aggregate c m n))
unfolding write_record
aggregate-written c m n =
    omega (arith, length-append ((10 ∷ write_number c) ++ write_label_modifier m) (write_number n), length-append (10 ∷ write_number c) (write_label_modifier m))
