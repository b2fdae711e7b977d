-- `trim_start` under a unary expression takes away the operand's indentation and nothing else, since no node's own text
-- begins with a white character: a number, a quote, a name, a brace, a bracket, a minus or a token stands first, all
-- above the space and below 128.
use Prim.Native.Nat.{ℕ, zero, suc, ◌+◌, ◌/◌, ◌%◌, ◌^◌, ◌≤◌, ◌<◌}
use native.Mathlib.Omega.{arith}
use mathlib.Core.Path.{◌≡◌, refl}
use mathlib.Core.Bool.{Bool, true, false}
use mathlib.Core.List.{List, [], ◌∷◌, ◌++◌}
use borrow.Author.Tests.{ne_eqb, ltb-true}
use lib.Dec.{eqb, ltb}
use Rattle.page.specs.Bytes.{pick, any}
use Rattle.records.specs.Code.{token}
use Rattle.records.specs.Literal.{Literal, plus, minus, nan, whole, fraction, infinite}
use Rattle.leaves.specs.Decimal.{digits, decimal, expansion}
use Rattle.leaves.specs.Escape.{quote}
use Rattle.leaves.specs.Numeral.{display_number, display_literal}
use Rattle.ast.specs.Expr.{Expr, Aggregate, AggregateParam, Unary, Binary, Paren, Subquery, NumberLiteral, StringLiteral, VectorSelector, MatrixSelector, Call}
use Rattle.text.specs.Display.{display, display_selector}
use Rattle.text.specs.Pretty.{indent, white_characters, trim_start}

-- ## Texts that begin with no white character

-- with one above the space, the highest of those below 128; and below 128, since the Rust has white characters above
pub data Begins : List ℕ → Type 0 where
  begins : (c : ℕ) (t : List ℕ) → (32 < c) × (c < 128) → Begins (c ∷ t)

pub begins-append : {t : List ℕ} (u : List ℕ) → Begins t → Begins (t ++ u)
begins-append u (begins c t n) = begins c (t ++ u) n

pub not_white : (c : ℕ) → 32 < c → any (eqb c) white_characters ≡ false
not_white c n =
    simp (
      other 9 (omega arith),
      other 10 (omega arith),
      other 11 (omega arith),
      other 12 (omega arith),
      other 13 (omega arith),
      other 32 (omega arith),
    )
  where
    other : (w : ℕ) → w < c → eqb c w ≡ false
    other w l = ne_eqb c w (λ e. omega arith)

pub trim-none : {t : List ℕ} → Begins t → trim_start t ≡ t
trim-none (begins c t n) = rw (not_white c n.0)

-- the indentation goes, and nothing else
pub trim-indent : (level : ℕ) {t : List ℕ} → Begins t → trim_start (indent level ++ t) ≡ t
trim-indent zero b = trim-none b
trim-indent (suc level) b = trim-indent level b

not-empty : {t : List ℕ} → Begins t → t ≡ [] → ⊥
not-empty (begins c t n) e = let z : ◌≡◌ {A = ℕ} 0 1 = cc in omega arith

pub trim-append : (t u : List ℕ) → Begins (trim_start t) → trim_start (t ++ u) ≡ trim_start t ++ u
trim-append [] u h = absurd (not-empty h refl)
trim-append (c ∷ t) u h = by (any (eqb c) white_characters) (trim-append t u) h
  where
    by : (b : Bool) → (Begins (trim_start t) → trim_start (t ++ u) ≡ trim_start t ++ u) → Begins (pick b (trim_start t) (c ∷ t))
        → pick b (trim_start (t ++ u)) (c ∷ t ++ u) ≡ pick b (trim_start t) (c ∷ t) ++ u
    by true more h = more h
    by false more h = refl

-- ## Trees whose own texts begin so

-- the first text of a node, and of those operands that stand first in it
abbrev pub Sound : Expr → Type 0
Sound (Aggregate c m e) = Begins (token c)
Sound (AggregateParam c m p e) = Begins (token c)
Sound (Unary e) = Sound e
Sound (Binary c m l r) = Sound l
Sound (Paren e) = Unit {0}
Sound (Subquery e r s t) = Sound e
Sound (NumberLiteral l) = Unit {0}
Sound (StringLiteral t) = Unit {0}
Sound (VectorSelector s t) = Begins (display_selector s)
Sound (MatrixSelector s t r) = Begins (display_selector s)
Sound (Call f es) = Begins f.name

digits-begin : (k n : ℕ) → n ≤ k → Begins (digits k n)
unfolding digits
digits-begin zero n h = begins (48 + n) [] (omega arith)
digits-begin (suc k) n h = by (ltb n 10) refl (digits-begin k (n / 10) (omega arith))
  where
    by : (b : Bool) → ltb n 10 ≡ b → Begins (digits k (n / 10))
        → Begins (pick b ((48 + n) ∷ []) (digits k (n / 10) ++ ((48 + n % 10) ∷ [])))
    by true e d = begins (48 + n) [] (omega (arith, ltb-true n 10 e))
    by false e d = begins-append _ d

literal-begins : (l : Literal) → Begins (display_literal l)
unfolding decimal expansion display_literal display_number
literal-begins (plus (whole n)) = digits-begin n n (omega arith)
literal-begins (plus (fraction d p)) = begins-append _ (begins-append _ (digits-begin (d / 10 ^ p) (d / 10 ^ p) (omega arith)))
literal-begins (plus infinite) = begins 73 _ (omega arith)
literal-begins (minus m) = begins 45 _ (omega arith)
literal-begins nan = begins 78 _ (omega arith)

pub display-begins : (e : Expr) → Sound e → Begins (display e)
unfolding display quote
display-begins (Aggregate c m e) s = begins-append _ (begins-append _ (begins-append _ (begins-append _ s)))
display-begins (AggregateParam c m p e) s = begins-append _ (begins-append _ (begins-append _ (begins-append _ s)))
display-begins (Unary e) s = begins 45 _ (omega arith)
display-begins (Binary c m l r) s = begins-append _ (begins-append _ (begins-append _ (begins-append _ (display-begins l s))))
display-begins (Paren e) s = begins 40 _ (omega arith)
display-begins (Subquery e r t u) s = begins-append _ (display-begins e s)
display-begins (NumberLiteral l) s = literal-begins l
display-begins (StringLiteral t) s = begins 34 _ (omega arith)
display-begins (VectorSelector v t) s = begins-append _ s
display-begins (MatrixSelector v t r) s = begins-append _ (begins-append _ (begins-append _ (begins-append _ s)))
display-begins (Call f es) s = begins-append _ (begins-append _ (begins-append _ s))
