-- Every tree on the stack of a page is sound: names begin with a letter, `_` or `:`, the tokens of the codes with no
-- white character, and a selector without a name has matchers, or it is refused with 34. So every text begins with a
-- byte below 128 that is not white (`display-first`), and `trim_start` leaves it as it is (`display-trimmed`).
use Prim.Native.Nat.{ℕ, ◌-◌, ◌≤◌, ◌<◌}
use native.Mathlib.Omega.{arith}
use mathlib.Core.Path.{◌≡◌, refl}
use mathlib.Core.Bool.{Bool, false, ◌&&◌, ◌||◌}
use mathlib.Core.List.{List, [], ◌∷◌}
use mathlib.Core.Option.{Option, none, some}
use lib.ListN.{length, get_or, replicate}
use lib.Dec.{T, leb, ltb, eqb, leb→le, ltb→lt}
use Rattle.base.proofs.Table.{at}
use Rattle.page.specs.Bytes.{bytes, all, any}
use Rattle.page.specs.Text.{Text, is_alpha, is_alpha_numeric, is_label, is_metric_name, is_selector_name}
use Rattle.page.proofs.NumberLaws.{left-of, right_of}
use Rattle.page.proofs.WellFormedLaws.{InName, alpha-in, or-colon-in}
use Rattle.records.specs.Code.{is_code, tokens, token}
use Rattle.records.specs.Matcher.{Matcher, Selector}
use Rattle.records.specs.Record.{Leaf, number, string, selector}
use Rattle.records.specs.Allowed.{IsLeaf}
use Rattle.ast.specs.Refusal.{ok, unless, first_fault}
use Rattle.ast.specs.Expr.{VectorSelector}
use Rattle.ast.specs.Construct.{no_times}
use Rattle.ast.specs.CheckAst.{selector_rows, check_ast}
use Rattle.ast.specs.CheckPage.{leaf_expr}
use Rattle.ast.specs.Tables.{tree_at}
use Rattle.text.specs.Display.{display, display_selector}
use Rattle.text.specs.Pretty.{white_characters, trim_start}
use Rattle.text.proofs.TrimLaws.{Begins, begins, begins-append, not_white, trim-none, Sound, display-begins}
use Rattle.text.proofs.TreeLaws.{checked_expr}
use Rattle.text.proofs.KeptLaws.{Kept, tree-kept}

-- ## Names and tokens

name-begins : (c : ℕ) (cs : Text) → InName c → Begins (c ∷ cs)
name-begins c cs n = begins c cs (omega arith)

label-begins : (t : Text) → T (is_label t) → Begins t
label-begins [] h = absurd h
label-begins (c ∷ cs) h = name-begins c cs (alpha-in c (left-of (is_alpha c) (all is_alpha_numeric cs) h))

metric-begins : (c : ℕ) (cs : Text) → T (is_metric_name (c ∷ cs)) → Begins (c ∷ cs)
metric-begins c cs h =
    name-begins c cs
    (or-colon-in is_alpha alpha-in c (left-of (is_alpha c || eqb c 58) (all (λ x. is_alpha_numeric x || eqb x 58) cs) h))

is_beginning : List ℕ → Bool
is_beginning [] = false
is_beginning (c ∷ cs) = ltb 32 c && ltb c 128

beginning : (t : List ℕ) → T (is_beginning t) → Begins t
unfolding is_beginning
beginning [] h = absurd h
beginning (c ∷ cs) h =
    begins c cs (ltb→lt 32 c (left-of (ltb 32 c) (ltb c 128) h), ltb→lt c 128 (right_of (ltb 32 c) (ltb c 128) h))

-- the tokens of all codes, by one table
token-test : ℕ → ℕ → Bool
token-test k x = is_beginning (bytes (get_or tokens k ""))

token_begins : (c : ℕ) → T (is_code c) → Begins (token c)
unfolding is_beginning token-test
token_begins c h =
    beginning (token c)
    (at token-test (replicate 30 0) tt (c - 1)
    (below (leb→le 1 c (left-of (leb 1 c) (leb c 30) h)) (leb→le c 30 (right_of (leb 1 c) (leb c 30) h))))
  where
    below : 1 ≤ c → c ≤ 30 → c - 1 < 30
    below x y = omega arith

-- ## Selectors

selector-begins : (s : Selector) → T (is_selector_name s.name) → first_fault (selector_rows s) ≡ none → Begins (display_selector s)
selector-begins s = by s.name s.matchers
  where
    by : (n : Text) (ms : List Matcher) → T (is_selector_name n) → first_fault (selector_rows (record { name = n; matchers = ms })) ≡ none
        → Begins (display_selector (record { name = n; matchers = ms }))
    by [] [] h f = absurd (let z : ◌≡◌ {A = ℕ} 0 1 = cc in omega arith)
    by [] (m ∷ ms) h f = begins 123 _ (omega arith)
    by (c ∷ cs) ms h f = begins-append _ (metric-begins c cs h)

-- ## Nodes

leaf-sound : (l : Leaf) → IsLeaf l → check_ast (leaf_expr l) ≡ ok (checked_expr (leaf_expr l))
    → Sound (checked_expr (leaf_expr l))
unfolding check_ast
leaf-sound (number l) a p = tt
leaf-sound (string x) a p = tt
leaf-sound (selector s) a p = selector-begins s a.0.1 (passes (first_fault (selector_rows s)) p)
  where
    passes : (f : Option ℕ) → unless f (VectorSelector s no_times) ≡ ok (VectorSelector s no_times) → f ≡ none
    passes none k = refl
    passes (some n) k = cc

sound-kept : Kept Sound
sound-kept =
    record {
      leaves = leaf-sound;
      numbers = λ l. tt;
      selectors = λ s t u h. h;
      ranges = λ s t u r h. h;
      matrices = λ s t u r h. h;
      subqueries = λ e r s u h. h;
      operands = λ e r s t h. h;
      unaries = λ e h. h;
      parens = λ e h. tt;
      binaries = λ c m l r a h k. h;
      aggregates = λ c m e code a h. token_begins c code;
      aggregate_params = λ c m p e code a h k. token_begins c code;
      calls = λ f es a h. label-begins f.name a.0.1;
    }

-- ## The trees of a page

-- the tree that a record ends
pub tree-sound : (page : List ℕ) (i : ℕ) → Sound (tree_at page i)
tree-sound = tree-kept Sound sound-kept

-- the first byte of its text is below 128, and none of 9 to 13 and 32
pub display-first : (page : List ℕ) (i : ℕ) → (0 < length (display (tree_at page i)))
    × (get_or (display (tree_at page i)) 0 0 < 128)
    × (any (eqb (get_or (display (tree_at page i)) 0 0)) white_characters ≡ false)
display-first page i = by (display-begins (tree_at page i) (tree-sound page i))
  where
    by : {t : List ℕ} → Begins t
        → (0 < length t) × (get_or t 0 0 < 128) × (any (eqb (get_or t 0 0)) white_characters ≡ false)
    by (begins c t n) = (omega arith, n.1, not_white c n.0)

-- so `trim_start` leaves it as it is
pub display-trimmed : (page : List ℕ) (i : ℕ) → trim_start (display (tree_at page i)) ≡ display (tree_at page i)
display-trimmed page i = trim-none (display-begins (tree_at page i) (tree-sound page i))
