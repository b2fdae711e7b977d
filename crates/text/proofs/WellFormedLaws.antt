-- Every printed text is well-formed UTF-8: the trees of a page hold only texts that a page may hold, what a node writes
-- of its own is well-formed then, and all else is put together. Assumes nothing.
use Prim.Native.Nat.{ℕ, zero, suc, ◌<◌}
use native.Mathlib.Omega.{arith}
use mathlib.Core.Path.{◌≡◌, subst}
use mathlib.Core.Bool.{Bool, true, false, ◌||◌}
use mathlib.Core.List.{List, [], ◌∷◌, ◌++◌}
use mathlib.Core.Option.{Option, none, some}
use lib.Dec.{T, ltb, eqb, ltb→lt, eqb→eq}
use Rattle.page.specs.Bytes.{pick, all, any}
use Rattle.page.specs.Text.{is_text}
use Rattle.page.specs.Allowed.{Each}
use Rattle.page.proofs.NumberLaws.{left-of, right_of}
use Rattle.page.proofs.Utf8Laws.{byte-skip}
use Rattle.page.proofs.WellFormedLaws.{WellFormed, text-append, text-empty, text-word, text-pick, text-join, label-text}
use Rattle.records.specs.Code.{is_set_operator}
use Rattle.records.specs.Modifier.{Cardinality, one_to_one, many_to_many, many_to_one, one_to_many}
use Rattle.records.specs.Modifier.{BinModifier}
use Rattle.records.specs.Record.{Leaf, number, string, selector}
use Rattle.records.specs.Allowed.{IsOptionOf, IsAnyText, IsSelector, IsLabelModifier, IsCardinality}
use Rattle.records.specs.Allowed.{IsBinModifier, IsFunction, IsLeaf}
use Rattle.leaves.proofs.WellFormedLaws.{quote-text, literal-text, duration-text}
use Rattle.ast.specs.Expr.{Expr, Args, no_args, arg, Aggregate, AggregateParam, Unary, Binary, Paren, Subquery}
use Rattle.ast.specs.Expr.{NumberLiteral, StringLiteral, VectorSelector, MatrixSelector, Call, args_of}
use Rattle.ast.specs.CheckAst.{many_to_many_of, set_operator_modifier, checked_modifier}
use Rattle.ast.specs.CheckPage.{leaf_expr}
use Rattle.ast.specs.Tables.{tree_at}
use Rattle.text.specs.Display.{display_operator}
use Rattle.text.specs.Display.{enclosed, display, display_all}
use Rattle.text.specs.Pretty.{indent, white_characters, trim_start, needs_split, one_line, enclosed_lines, pretty, pretty_all}
use Rattle.text.proofs.TreeLaws.{checked_expr}
use Rattle.text.proofs.KeptLaws.{Kept, tree-kept}
use Rattle.text.proofs.OwnTextLaws.{operator-text, aggregator-text, times-text, suffix-text, selector-text}

-- ## Trees of texts that a page may hold

unfoldable mutual
  pub AllowedTree : Expr → Type 0
  AllowedTree (Aggregate c m e) = IsOptionOf IsLabelModifier m × AllowedTree e
  AllowedTree (AggregateParam c m p e) = IsOptionOf IsLabelModifier m × AllowedTree p × AllowedTree e
  AllowedTree (Unary e) = AllowedTree e
  AllowedTree (Binary c m l r) = IsOptionOf IsBinModifier m × AllowedTree l × AllowedTree r
  AllowedTree (Paren e) = AllowedTree e
  AllowedTree (Subquery e r s t) = AllowedTree e
  AllowedTree (NumberLiteral l) = Unit {0}
  AllowedTree (StringLiteral t) = IsAnyText t
  AllowedTree (VectorSelector s t) = IsSelector s
  AllowedTree (MatrixSelector s t r) = IsSelector s
  AllowedTree (Call f es) = IsFunction f × AllowedArgs es

  pub AllowedArgs : Args → Type 0
  AllowedArgs no_args = Unit {0}
  AllowedArgs (arg e es) = AllowedTree e × AllowedArgs es

-- ## Canonical text

enclosed-text : {head : List ℕ} (ts : List (List ℕ)) → WellFormed head → Each WellFormed ts
    → WellFormed (enclosed head ts)
enclosed-text ts h hs =
    text-append (text-append (text-append h (text-word "(" tt)) (text-join ts (text-word ", " tt) hs)) (text-word ")" tt)

mutual
  unfolding display AllowedTree

  display-text : (e : Expr) → AllowedTree e → WellFormed (display e)
  display-text (Aggregate c m e) a = enclosed-text (display e ∷ []) (aggregator-text c m a.0) (display-text e a.1, tt)
  display-text (AggregateParam c m p e) a =
      enclosed-text (display p ∷ display e ∷ []) (aggregator-text c m a.0)
      (display-text p a.1, (display-text e a.2, tt))
  display-text (Unary e) a = text-append (text-word "-" tt) (display-text e a)
  display-text (Binary c m l r) a =
      text-append (text-append (text-append (text-append (display-text l a.1) (text-word " " tt))
      (operator-text c m a.0)) (text-word " " tt)) (display-text r a.2)
  display-text (Paren e) a = enclosed-text (display e ∷ []) text-empty (display-text e a, tt)
  display-text (Subquery e r s t) a = text-append (display-text e a) (suffix-text r s t)
  display-text (NumberLiteral l) a = literal-text l
  display-text (StringLiteral t) a = quote-text t a.1
  display-text (VectorSelector s t) a = text-append (selector-text s a) (times-text t)
  display-text (MatrixSelector s t r) a =
      text-append (text-append (text-append (text-append (selector-text s a) (text-word "[" tt)) (duration-text r))
      (text-word "]" tt)) (times-text t)
  display-text (Call f es) a = enclosed-text (display_all es) (label-text f.name a.0.0.1) (display_all-text es a.1)

  display_all-text : (es : Args) → AllowedArgs es → Each WellFormed (display_all es)
  display_all-text no_args a = tt
  display_all-text (arg e es) a = (display-text e a.0, display_all-text es a.1)

-- ## Split text

indent-text : (level : ℕ) → WellFormed (indent level)
indent-text zero = text-empty
indent-text (suc level) = text-append (text-word "  " tt) (indent-text level)

white_low : (c : ℕ) (ws : List ℕ) → T (all (λ w. ltb w 128) ws) → T (any (eqb c) ws) → c < 128
white_low c [] h k = absurd k
white_low c (w ∷ ws) h k = by (eqb c w) (eqb→eq c w) (white_low c ws (right_of (ltb w 128) (all (λ x. ltb x 128) ws) h)) k
  where
    by : (b : Bool) → (T b → c ≡ w) → (T (any (eqb c) ws) → c < 128) → T (b || any (eqb c) ws) → c < 128
    by true is more k = omega (arith, is tt, ltb→lt w 128 (left-of (ltb w 128) (all (λ x. ltb x 128) ws) h))
    by false is more k = more k

trim-text : (t : List ℕ) → WellFormed t → WellFormed (trim_start t)
trim-text [] h = h
trim-text (c ∷ t) h = by (any (eqb c) white_characters) (white_low c white_characters tt) (trim-text t)
  where
    by : (b : Bool) → (T b → c < 128) → (WellFormed t → WellFormed (trim_start t)) → WellFormed (pick b (trim_start t) (c ∷ t))
    by true low more = more (record { passes = subst T (byte-skip c t (low tt)) h.passes })
    by false low more = h

enclosed_lines-text : (level : ℕ) {head : List ℕ} (ts : List (List ℕ)) → WellFormed head → Each WellFormed ts
    → WellFormed (enclosed_lines level head ts)
enclosed_lines-text level ts h hs =
    text-append (text-append (text-append (text-append (text-append (text-append (indent-text level) h)
    (text-word "(\n" tt)) (text-join ts (text-word ",\n" tt) hs)) (text-word "\n" tt)) (indent-text level)) (text-word ")" tt)

line-text : (e : Expr) (level : ℕ) → AllowedTree e → WellFormed (one_line e level)
line-text e level a = text-append (indent-text level) (display-text e a)

mutual
  unfolding pretty AllowedTree

  pretty-text : (e : Expr) (level : ℕ) → AllowedTree e → WellFormed (pretty e level)
  pretty-text (Aggregate c m e) level a =
      text-pick (needs_split (Aggregate c m e))
      (enclosed_lines-text level (pretty e (suc level) ∷ []) (aggregator-text c m a.0) (pretty-text e (suc level) a.1, tt))
      (line-text (Aggregate c m e) level a)
  pretty-text (AggregateParam c m p e) level a =
      text-pick (needs_split (AggregateParam c m p e))
      (enclosed_lines-text level (pretty p (suc level) ∷ pretty e (suc level) ∷ []) (aggregator-text c m a.0)
      (pretty-text p (suc level) a.1, (pretty-text e (suc level) a.2, tt)))
      (line-text (AggregateParam c m p e) level a)
  pretty-text (Unary e) level a =
      text-append (text-append (indent-text level) (text-word "-" tt)) (trim-text (pretty e level) (pretty-text e level a))
  pretty-text (Binary c m l r) level a =
      text-pick (needs_split (Binary c m l r))
      (text-join (pretty l (suc level) ∷ (indent level ++ display_operator c m) ∷ pretty r (suc level) ∷ []) (text-word "\n" tt) (
        pretty-text l (suc level) a.1,
        (text-append (indent-text level) (operator-text c m a.0), (pretty-text r (suc level) a.2, tt)),
      ))
      (line-text (Binary c m l r) level a)
  pretty-text (Paren e) level a =
      text-pick (needs_split (Paren e))
      (enclosed_lines-text level (pretty e (suc level) ∷ []) text-empty (pretty-text e (suc level) a, tt))
      (line-text (Paren e) level a)
  pretty-text (Subquery e r s t) level a = text-append (pretty-text e level a) (suffix-text r s t)
  pretty-text (NumberLiteral l) level a = line-text (NumberLiteral l) level a
  pretty-text (StringLiteral t) level a = line-text (StringLiteral t) level a
  pretty-text (VectorSelector s t) level a = line-text (VectorSelector s t) level a
  pretty-text (MatrixSelector s t r) level a = line-text (MatrixSelector s t r) level a
  pretty-text (Call f es) level a =
      text-pick (needs_split (Call f es))
      (enclosed_lines-text level (pretty_all es (suc level)) (label-text f.name a.0.0.1) (pretty_all-text es (suc level) a.1))
      (line-text (Call f es) level a)

  pretty_all-text : (es : Args) (level : ℕ) → AllowedArgs es → Each WellFormed (pretty_all es level)
  pretty_all-text no_args level a = tt
  pretty_all-text (arg e es) level a = (pretty-text e level a.0, pretty_all-text es level a.1)

-- ## The trees of a page

leaf-allowed : (l : Leaf) → IsLeaf l → AllowedTree (checked_expr (leaf_expr l))
unfolding AllowedTree
leaf-allowed (number l) a = tt
leaf-allowed (string x) a = a
leaf-allowed (selector s) a = a

-- a set operator's modifier has the lists that it had
grouped-allowed : (c : Cardinality) → IsCardinality c → IsCardinality (many_to_many_of c)
grouped-allowed one_to_one a = tt
grouped-allowed many_to_many a = tt
grouped-allowed (many_to_one ls) a = a
grouped-allowed (one_to_many ls) a = a

checked-allowed : (c : ℕ) (m : Option BinModifier) → IsOptionOf IsBinModifier m → IsOptionOf IsBinModifier (checked_modifier c m)
checked-allowed c m a = by (is_set_operator c) m a
  where
    by : (b : Bool) (m : Option BinModifier) → IsOptionOf IsBinModifier m
        → IsOptionOf IsBinModifier (pick b (some (set_operator_modifier m)) m)
    by true none a = (tt, tt, tt, tt)
    by true (some m) a = (a.0, grouped-allowed m.card a.1, a.2, a.3)
    by false m a = a

args-allowed : (es : List Expr) → Each AllowedTree es → AllowedArgs (args_of es)
unfolding AllowedTree
args-allowed [] h = tt
args-allowed (e ∷ es) h = (h.0, args-allowed es h.1)

allowed-kept : Kept AllowedTree
unfolding AllowedTree
allowed-kept =
    record {
      leaves = λ l a p. leaf-allowed l a;
      numbers = λ l. tt;
      selectors = λ s t u h. h;
      ranges = λ s t u r h. h;
      matrices = λ s t u r h. h;
      subqueries = λ e r s u h. h;
      operands = λ e r s t h. h;
      unaries = λ e h. h;
      parens = λ e h. h;
      binaries = λ c m l r a h k. (checked-allowed c m a, h, k);
      aggregates = λ c m e code a h. (a, h);
      aggregate_params = λ c m p e code a h k. (a, h, k);
      calls = λ f es a h. (a, args-allowed es h);
    }

-- the canonical text of the tree that record i ends, on any page
pub display-utf8 : (page : List ℕ) (i : ℕ) → T (is_text (display (tree_at page i)))
display-utf8 page i = (display-text (tree_at page i) (tree-kept AllowedTree allowed-kept page i)).passes

-- its split text at any level
pub pretty-utf8 : (page : List ℕ) (i level : ℕ) → T (is_text (pretty (tree_at page i) level))
pretty-utf8 page i level = (pretty-text (tree_at page i) level (tree-kept AllowedTree allowed-kept page i)).passes
