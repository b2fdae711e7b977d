-- Every canonical text fits four bytes for each byte of its page and 128 for each record, up to the one that ends its
-- tree: a record adds at most so much to the texts of the expressions on the stack. Assumes nothing.
use Prim.Native.Nat.{ℕ, zero, suc, ◌+◌, ◌*◌, ◌≤◌}
use native.Mathlib.Omega.{arith}
use mathlib.Core.Path.{◌≡◌, refl, ap}
use mathlib.Core.List.{List, [], ◌∷◌}
use lib.ListN.{length, take, length-append, length-take}
use lib.Dec.{T}
use Rattle.page.specs.Bytes.{all}
use Rattle.page.specs.Text.{write_all}
use Rattle.page.specs.Allowed.{Each}
use Rattle.page.proofs.NumberLaws.{is_byte}
use Rattle.records.specs.Stack.{operands_of}
use Rattle.records.specs.Code.{has_parameter}
use Rattle.records.specs.Record.{Record, leaf, wrapper, binary, aggregate, call, write_record, Ending, read_page}
use Rattle.records.specs.Allowed.{IsAllowed}
use Rattle.records.proofs.RecordLaws.{WrittenAs, page-law}
use Rattle.records.proofs.PageLaws.{read_page-allowed}
use Rattle.leaves.specs.Numeral.{display_number, display_literal}
use Rattle.ast.specs.Refusal.{Result, ok}
use Rattle.ast.specs.Expr.{Expr}
use Rattle.ast.specs.CheckPage.{apply}
use Rattle.ast.specs.Walk.{Walked, stack, stopped, walk}
use Rattle.ast.specs.Tables.{entries, newest, stack_at, tree_at}
use Rattle.ast.proofs.WalkLaws.{walk_first}
use Rattle.text.specs.Display.{display}
use Rattle.text.proofs.TreeLaws.{checked_expr, PushedNode, leaf-ok, wrapper-ok, binary-ok, aggregate-ok, call_ok}
use Rattle.ast.proofs.EachLaws.{each_take}
use Rattle.text.proofs.KeptLaws.{refused-never}
use Rattle.text.proofs.ShortLaws.{display_aggregator-short}
use Rattle.text.proofs.GrowthLaws.{total, total-operands, wrap-short, leaf-short, binary-short, aggregate-short, call-short, aggregate-written}

-- ## Records

pushed-total : {made : Result Expr} {below after : List Expr} (p : PushedNode made below after)
    → total after ≡ 2 + length (display (checked_expr p.node)) + total below
unfolding total
pushed-total p = ap total p.stack

-- a record adds at most four bytes for each of its own and 128
apply-room : (r : Record) (s after : List Expr) → IsAllowed r → apply r s ≡ ok after → total after ≤ total s + 4 * length (write_record r) + 128
unfolding apply total
apply-room (leaf l) s after a h = let p = leaf-ok l s after h in omega (arith, pushed-total p, leaf-short l p.node a p.makes)
apply-room (wrapper w) [] after a h = refused-never h
apply-room (wrapper w) (e ∷ s) after a h = let p = wrapper-ok w e s after h in omega (arith, pushed-total p, wrap-short w e p.node a p.makes)
apply-room (binary c m) [] after a h = refused-never h
apply-room (binary c m) (r ∷ []) after a h = refused-never h
apply-room (binary c m) (r ∷ l ∷ s) after a h =
    let p = binary-ok c m l r s after h in
    omega (arith, pushed-total p, binary-short c m l r p.node a.1 p.makes)
apply-room (aggregate c m n) s after a h =
    let p = aggregate-ok c m n s after h in
    omega (
      arith,
      pushed-total p,
      aggregate-short c m (has_parameter c) (operands_of n s) p.node p.makes,
      total-operands n s,
      display_aggregator-short c m,
      aggregate-written c m n,
    )
apply-room (call f n) s after a h =
    let p = call_ok f n s after h in
    omega (arith, pushed-total p, call-short f n (operands_of n s) p.node p.makes, total-operands n s)

-- ## Pages

walk-room : (rs : List Record) (i : ℕ) (s t : List Expr) → Each IsAllowed rs → walk apply i s rs ≡ stack t
    → total t ≤ total s + 4 * length (write_all write_record rs) + 128 * length rs
walk-room [] i s t a h = let same : s ≡ t = cc in omega (arith, ap total same)
walk-room (r ∷ rs) i s t a h =
    let (u, first, more) = walk_first apply r rs i s t h in
    omega (arith, apply-room r s u a.0 first, walk-room rs (suc i) u t a.1 more, length-append (write_record r) (write_all write_record rs))

-- the first k of a page's records are bytes of the page
written-within : (k : ℕ) (rs : List Record) (s : List ℕ) (e : Ending) → WrittenAs s rs e → length (write_all write_record (take k rs)) ≤ length s
written-within zero rs s e w = omega arith
written-within (suc k) [] s e w = omega arith
written-within (suc k) (r ∷ rs) s e (t, is, more) =
    omega (
      arith,
      ap length is,
      length-append (write_record r) t,
      length-append (write_record r) (write_all write_record (take k rs)),
      written-within k rs t e more,
    )

stack-room : (page : List ℕ) (k : ℕ) → T (all is_byte page) → total (stack_at page k) ≤ 4 * length page + 128 * k
unfolding stack_at total
stack-room page k h = by (walk apply 0 [] (take k (read_page page).records)) refl
  where
    by : (w : Walked Expr) → walk apply 0 [] (take k (read_page page).records) ≡ w → total (entries w) ≤ 4 * length page + 128 * k
    by (stopped n i) e = omega arith
    by (stack s) e =
        omega (
          arith,
          walk-room (take k (read_page page).records) 0 [] s (each_take IsAllowed k (read_page page).records (read_page-allowed page)) e,
          written-within k (read_page page).records page (read_page page).ending (page-law page h),
          length-take k (read_page page).records,
        )

-- ## The theorem: the canonical text of the tree that record i ends, on any page
pub display-room : (page : List ℕ) (i : ℕ) → T (all is_byte page) → length (display (tree_at page i)) ≤ 4 * length page + 128 * suc i
unfolding tree_at total display display_literal display_number
display-room page i h = by (stack_at page (suc i)) (stack-room page (suc i) h)
  where
    by : (s : List Expr) → total s ≤ 4 * length page + 128 * suc i → length (display (newest s)) ≤ 4 * length page + 128 * suc i
    by [] k = omega arith
    by (e ∷ s) k = omega arith
