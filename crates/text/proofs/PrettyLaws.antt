-- Split text by pieces, with a bool that says whether the first line is indented. A node that fits a line prints as its
-- canonical text, unary expressions and subqueries too, since their operands are shorter still; a longer one by the
-- pieces of its layout.
use Prim.Native.Nat.{ℕ, suc, ◌≤◌, ◌<◌}
use native.Mathlib.Omega.{arith}
use mathlib.Core.Path.{◌≡◌, refl, sym, ap, subst, ◌∙◌}
use mathlib.Core.Bool.{Bool, true, false}
use mathlib.Core.List.{List, [], ◌∷◌, ◌++◌, map, append_assoc, append-nil}
use borrow.Author.Tests.{lt-ltb, le-ltb}
use lib.ListN.{length, length-append}
use Rattle.page.specs.Bytes.{pick, bytes, join, join_rest}
use Rattle.ast.specs.Expr.{Expr, Args, no_args, arg, Aggregate, AggregateParam, Unary, Binary, Paren, Subquery}
use Rattle.ast.specs.Expr.{NumberLiteral, StringLiteral, VectorSelector, MatrixSelector, Call}
use Rattle.text.specs.Display.{display, display_aggregator, display_operator, display_suffix}
use Rattle.text.specs.Pretty.{max_characters_per_line, indent, trim_start, needs_split, enclosed_lines, pretty, pretty_all}
use Rattle.text.specs.Layout.{Layout, layout_of, args_list, children, indent_if, front_at, between_at, rear_at}
use Rattle.text.specs.Layout.{inner_indents, inner_level, pretty_indented, joined}
use Rattle.text.proofs.TrimLaws.{Begins, begins, begins-append, trim-indent, trim-append, Sound, display-begins}

-- ## On one line

pub one-line : (e : Expr) → Sound e → (level : ℕ) → length (display e) ≤ max_characters_per_line → pretty e level ≡ indent level ++ display e
unfolding display pretty
one-line (Aggregate c m e) s level h = rw (le-ltb _ _ h)
one-line (AggregateParam c m p e) s level h = rw (le-ltb _ _ h)
one-line (Unary e) s level h =
    ap (λ (t : List ℕ). indent level ++ bytes "-" ++ trim_start t) (one-line e s level (omega arith))
    ∙ ap (λ (t : List ℕ). indent level ++ bytes "-" ++ t) (trim-indent level (display-begins e s))
    ∙ append_assoc (indent level) (bytes "-") (display e)
one-line (Binary c m l r) s level h = rw (le-ltb _ _ h)
one-line (Paren e) s level h = rw (le-ltb _ _ h)
one-line (Subquery e r t u) s level h =
    ap (λ (x : List ℕ). x ++ display_suffix r t u) (one-line e s level (omega (arith, length-append (display e) (display_suffix r t u))))
    ∙ append_assoc (indent level) (display e) (display_suffix r t u)
one-line (NumberLiteral l) s level h = refl
one-line (StringLiteral t) s level h = refl
one-line (VectorSelector v t) s level h = refl
one-line (MatrixSelector v t r) s level h = refl
one-line (Call f es) s level h = rw (le-ltb _ _ h)

-- ## With the first indentation, and without it

-- a text that is its indentation and then begins with no white character: with that indentation or without
pretty_indented-is : (e : Expr) (level : ℕ) {text : List ℕ} → pretty e level ≡ indent level ++ text → Begins text
    → (indents : Bool) → pretty_indented indents level e ≡ indent_if indents level ++ text
unfolding pretty_indented
pretty_indented-is e level p b true = p
pretty_indented-is e level p b false = ap trim_start p ∙ trim-indent level b

-- the same, where an operand's text stands first
pretty_indented-first : (e inner : Expr) (level below : ℕ) (rest : List ℕ)
    → pretty e level ≡ pretty inner below ++ rest → Begins (trim_start (pretty inner below))
    → (indents : Bool) → pretty_indented indents level e ≡ pretty_indented indents below inner ++ rest
unfolding pretty_indented
pretty_indented-first e inner level below rest p b true = p
pretty_indented-first e inner level below rest p b false = ap trim_start p ∙ trim-append (pretty inner below) rest b

pub short : (e : Expr) → Sound e → (level : ℕ) → length (display e) ≤ max_characters_per_line → (indents : Bool)
    → pretty_indented indents level e ≡ indent_if indents level ++ display e
short e s level h = pretty_indented-is e level (one-line e s level h) (display-begins e s)

-- ## Operands in brackets

abbrev enclosed_body : ℕ → List ℕ → List (List ℕ) → List ℕ
enclosed_body level head operands = head ++ (bytes "(\n" ++ (join (bytes ",\n") operands ++ (bytes "\n" ++ (indent level ++ bytes ")"))))

enclosed-lines : (level : ℕ) (head : List ℕ) (operands : List (List ℕ)) → enclosed_lines level head operands ≡ indent level ++ enclosed_body level head operands
enclosed-lines level head operands = simp append_assoc

enclosed-pieces : (indents : Bool) (level : ℕ) (head : List ℕ) (operands : List (List ℕ)) → indent_if indents level ++ enclosed_body level head operands
    ≡ (indent_if indents level ++ head ++ bytes "(\n") ++ (join (bytes ",\n") operands ++ (bytes "\n" ++ indent level ++ bytes ")"))
enclosed-pieces indents level head operands = simp append_assoc

pretty_all-map : (es : Args) (level : ℕ) → pretty_all es level ≡ map (pretty_indented true level) (args_list es)
unfolding pretty pretty_indented
pretty_all-map no_args level = refl
pretty_all-map (arg e es) level = ap (λ (ts : List (List ℕ)). pretty e level ∷ ts) (pretty_all-map es level)

texts-map : (level : ℕ) (es : List Expr)
    → joined (bytes ",\n") (pretty_indented true level) (pretty_indented true level) es
    ≡ join (bytes ",\n") (map (pretty_indented true level) es)
unfolding joined
texts-map level [] = refl
texts-map level (e ∷ es) = refl

-- ## The split text without its indentation begins with no white character

record Trims (text : List ℕ) : Type 0 where
  rest : Begins (trim_start text)

trimmed : (level : ℕ) {text body : List ℕ} → text ≡ indent level ++ body → Begins body → Trims text
trimmed level p b = record { rest = subst Begins (sym (ap trim_start p ∙ trim-indent level b)) b }

either : (b : Bool) {split line : List ℕ} → Trims split → Trims line → Trims (pick b split line)
either true s l = s
either false s l = l

line-begins : (e : Expr) → Sound e → (level : ℕ) → Trims (indent level ++ display e)
line-begins e s level = trimmed level refl (display-begins e s)

before : {t : List ℕ} (u : List ℕ) → Trims t → Trims (t ++ u)
before {t} u b = record { rest = subst Begins (sym (trim-append t u b.rest)) (begins-append u b.rest) }

enclosed-begins : (level : ℕ) (head : List ℕ) (operands : List (List ℕ)) → Begins (enclosed_body level head operands) → Trims (enclosed_lines level head operands)
enclosed-begins level head operands = trimmed level (enclosed-lines level head operands)

pretty-begins : (e : Expr) → Sound e → (level : ℕ) → Trims (pretty e level)
unfolding pretty
pretty-begins (Aggregate c m e) s level =
    either (needs_split (Aggregate c m e))
    (enclosed-begins level (display_aggregator c m) (pretty e (suc level) ∷ []) (begins-append _ (begins-append _ s)))
    (line-begins (Aggregate c m e) s level)
pretty-begins (AggregateParam c m p e) s level =
    either (needs_split (AggregateParam c m p e))
    (enclosed-begins level (display_aggregator c m) (pretty p (suc level) ∷ pretty e (suc level) ∷ []) (begins-append _ (begins-append _ s)))
    (line-begins (AggregateParam c m p e) s level)
pretty-begins (Unary e) s level = trimmed level (append_assoc (indent level) _ _) (begins 45 _ (omega arith))
pretty-begins (Binary c m l r) s level =
    either (needs_split (Binary c m l r))
    (before (join_rest (bytes "\n") ((indent level ++ display_operator c m) ∷ pretty r (suc level) ∷ [])) (pretty-begins l s (suc level)))
    (line-begins (Binary c m l r) s level)
pretty-begins (Paren e) s level =
    either (needs_split (Paren e)) (enclosed-begins level [] (pretty e (suc level) ∷ []) (begins 40 _ (omega arith))) (line-begins (Paren e) s level)
pretty-begins (Subquery e r t u) s level = before _ (pretty-begins e s level)
pretty-begins (NumberLiteral l) s level = line-begins (NumberLiteral l) s level
pretty-begins (StringLiteral t) s level = line-begins (StringLiteral t) s level
pretty-begins (VectorSelector v t) s level = line-begins (VectorSelector v t) s level
pretty-begins (MatrixSelector v t r) s level = line-begins (MatrixSelector v t r) s level
pretty-begins (Call f es) s level =
    either (needs_split (Call f es)) (enclosed-begins level f.name (pretty_all es (suc level)) (begins-append _ s)) (line-begins (Call f es) s level)

-- ## A node longer than a line

abbrev Pieces : Bool → ℕ → Expr → Layout → List ℕ
Pieces indents level e n =
    front_at indents level n
    ++ (joined (between_at level n) (pretty_indented (inner_indents indents n) (inner_level level n)) (pretty_indented true (inner_level level n)) (children e)
    ++ rear_at level n)

enclosed-long : (e : Expr) (level : ℕ) (head : List ℕ) (operands : List (List ℕ)) → pretty e level ≡ enclosed_lines level head operands
    → Begins (enclosed_body level head operands) → (indents : Bool)
    → pretty_indented indents level e
    ≡ (indent_if indents level ++ head ++ bytes "(\n")
    ++ (join (bytes ",\n") operands ++ (bytes "\n" ++ indent level ++ bytes ")"))
enclosed-long e level head operands p b indents =
    pretty_indented-is e level (p ∙ enclosed-lines level head operands) b indents ∙ enclosed-pieces indents level head operands

infixed-pieces : (feed l i operator r : List ℕ) → l ++ (feed ++ (i ++ operator ++ (feed ++ r))) ≡ (l ++ ((feed ++ i ++ operator ++ feed) ++ r ++ [])) ++ []
infixed-pieces feed l i operator r = simp (append_assoc, append-nil)

-- a leaf
whole_long : (e : Expr) (level : ℕ) (text : List ℕ) → pretty e level ≡ indent level ++ text → Begins text → (indents : Bool)
    → pretty_indented indents level e ≡ indent_if indents level ++ text ++ []
whole_long e level text p b indents = pretty_indented-is e level p b indents ∙ sym (append-nil _)

pub long : (e : Expr) → Sound e → (level : ℕ) → max_characters_per_line < length (display e) → (indents : Bool)
    → pretty_indented indents level e ≡ Pieces indents level e (layout_of e)
unfolding pretty joined pretty_indented display
long (Aggregate c m e) s level h indents =
    let operands = pretty e (suc level) ∷ [] in
    let p : pretty (Aggregate c m e) level ≡ enclosed_lines level (display_aggregator c m) operands = rw (lt-ltb _ _ h) in
    enclosed-long (Aggregate c m e) level _ operands p (begins-append _ (begins-append _ s)) indents
long (AggregateParam c m p e) s level h indents =
    let operands = pretty p (suc level) ∷ pretty e (suc level) ∷ [] in
    let q : pretty (AggregateParam c m p e) level ≡ enclosed_lines level (display_aggregator c m) operands = rw (lt-ltb _ _ h) in
    enclosed-long (AggregateParam c m p e) level _ operands q (begins-append _ (begins-append _ s)) indents
long (Unary e) s level h indents =
    pretty_indented-is (Unary e) level (append_assoc (indent level) (bytes "-") (trim_start (pretty e level))) (begins 45 _ (omega arith)) indents
    ∙ sym (append_assoc (indent_if indents level) (bytes "-") (trim_start (pretty e level)))
    ∙ ap (λ (t : List ℕ). indent_if indents level ++ bytes "-" ++ t) (sym (append-nil (trim_start (pretty e level))) ∙ sym (append-nil _))
long (Binary c m l r) s level h indents =
    let rest = bytes "\n" ++ (indent level ++ display_operator c m ++ (bytes "\n" ++ pretty r (suc level))) in
    let p : pretty (Binary c m l r) level ≡ pretty l (suc level) ++ rest = rw (lt-ltb _ _ h) (simp (append_assoc, append-nil)) in
    pretty_indented-first (Binary c m l r) l level (suc level) rest p (pretty-begins l s (suc level)).rest indents
    ∙ infixed-pieces (bytes "\n") (pretty_indented indents (suc level) l) (indent level) (display_operator c m) (pretty r (suc level))
long (Paren e) s level h indents =
    let operands = pretty e (suc level) ∷ [] in
    let p : pretty (Paren e) level ≡ enclosed_lines level [] operands = rw (lt-ltb _ _ h) in
    enclosed-long (Paren e) level [] operands p (begins 40 _ (omega arith)) indents
long (Subquery e r t u) s level h indents =
    pretty_indented-first (Subquery e r t u) e level level (display_suffix r t u) refl (pretty-begins e s level).rest indents
    ∙ ap (λ (x : List ℕ). x ++ display_suffix r t u) (sym (append-nil (pretty_indented indents level e)))
long (NumberLiteral l) s level h indents = whole_long (NumberLiteral l) level _ refl (display-begins (NumberLiteral l) s) indents
long (StringLiteral t) s level h indents = whole_long (StringLiteral t) level _ refl (display-begins (StringLiteral t) s) indents
long (VectorSelector v t) s level h indents = whole_long (VectorSelector v t) level _ refl (display-begins (VectorSelector v t) s) indents
long (MatrixSelector v t r) s level h indents =
    whole_long (MatrixSelector v t r) level _ (ap (λ (x : List ℕ). indent level ++ x) (simp append_assoc)) (begins-append _ s) indents
long (Call f es) s level h indents =
    let operands = pretty_all es (suc level) in
    let p : pretty (Call f es) level ≡ enclosed_lines level f.name operands = rw (lt-ltb _ _ h) in
    enclosed-long (Call f es) level _ operands p (begins-append _ s) indents
    ∙ ap (λ (t : List ℕ). (indent_if indents level ++ f.name ++ bytes "(\n") ++ (t ++ (bytes "\n" ++ indent level ++ bytes ")")))
    (ap (join (bytes ",\n")) (pretty_all-map es (suc level)) ∙ sym (texts-map (suc level) (args_list es)))
