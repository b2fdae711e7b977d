-- Lengths of operands' texts up to a cap, from the last operand down, for any two texts of the first operand and of the
-- others; and the length of a node from its pieces.
use Prim.Native.Nat.{ℕ, ◌+◌, ◌-◌, ◌≤◌, ◌<◌, min}
use native.Mathlib.Omega.{arith}
use mathlib.Core.Path.{◌≡◌, sym, ap, ◌∙◌}
use mathlib.Core.List.{List, [], ◌++◌}
use lib.ListN.{length, get_or}
use Rattle.records.specs.Stack.{operands_of}
use Rattle.ast.specs.Expr.{Expr}
use Rattle.ast.specs.Tables.{Tables, stack_at, tree_at}
use Rattle.text.specs.Layout.{joined}
use Rattle.text.specs.Measured.{Measured}
use Rattle.text.proofs.OperandLaws.{Newest, operands-some, operands-fewer, operands-none, operands-one, operands-more}
use Rattle.text.proofs.CappedLaws.{capped-pieces, capped-full, capped-separator, capped-more, measured-of, own-gap}

module _ (first other : Expr → List ℕ) {page starts firsts : List ℕ} {end : ℕ} (t : Tables page starts firsts end)
    (count : ℕ) (enough : count ≤ length (stack_at page end)) where
  abbrev Text : List ℕ → List ℕ
  Text separator = joined separator first other (operands_of count (stack_at page end))

  abbrev Others : List ℕ → List ℕ
  Others separator = joined separator first other (operands_of (count - 1) (stack_at page (get_or firsts (end - 1) 0)))

  pub len-none : (gap cap : ℕ) → count ≡ 0 → Measured Text gap cap 0
  len-none gap cap z = measured-of Text gap cap 0 (λ separator e. omega (arith, ap length (operands-none separator first other t count enough z)))

  pub len-one : (gap cap last : ℕ) → count ≡ 1 → last ≡ min (length (first (tree_at page (end - 1)))) cap → Measured Text gap cap last
  len-one gap cap last z e =
      measured-of Text gap cap last (λ separator k. e ∙ ap (λ (s : List ℕ). min (length s) cap) (sym (operands-one separator first other t count enough z)))

  module _ (n0 : count ≡ 0 → ⊥) (n1 : count ≡ 1 → ⊥) (gap cap last : ℕ) (measured : last ≡ min (length (other (tree_at page (end - 1)))) cap) where
    more : (r : ℕ)
        → ((separator : List ℕ) → min (length separator) cap ≡ min gap cap
        → r ≡ min (length (Others separator ++ (separator ++ other (tree_at page (end - 1))))) cap)
        → Measured Text gap cap r
    more r h =
        measured-of Text gap cap r
        (λ separator e. h separator e
        ∙ ap (λ (s : List ℕ). min (length s) cap)
        (sym (operands-more separator first other t count enough n0 n1)))

    pub len-full : cap - last ≤ gap → Measured Text gap cap cap
    len-full h = more cap (λ separator e. capped-full (Others separator) separator (other (tree_at page (end - 1))) cap gap last e measured h)

    pub len_more : (rest : ℕ) → gap < cap - last → Measured Others gap (cap - last - gap) rest → Measured Text gap cap (last + gap + rest)
    len_more rest h others = more (last + gap + rest) each
      where
        each : (separator : List ℕ) → min (length separator) cap ≡ min gap cap
            → last + gap + rest ≡ min (length (Others separator ++ (separator ++ other (tree_at page (end - 1))))) cap
        each separator e =
            let text = other (tree_at page (end - 1)) in
            let size : length separator ≡ gap = capped-separator (Others separator) separator text cap gap last e measured h in
            capped-more (Others separator) separator text cap gap last e measured rest h (others.is separator (ap (λ (n : ℕ). min n (cap - last - gap)) size))

-- a text of three pieces, the operands in the middle
pub len-node : (first other : Expr → List ℕ) (es : List Expr) {text : List ℕ} (front between rear : List ℕ)
    → text ≡ front ++ (joined between first other es ++ rear)
    → (gap cap x y z : ℕ) → x ≡ min (length front) cap → gap ≡ min (length between) (cap - x)
    → Measured (λ separator. joined separator first other es) gap (cap - x) y → z ≡ min (length rear) (cap - x - y)
    → x + y + z ≡ min (length text) cap
len-node first other es front between rear e gap cap x y z p g q r =
    capped-pieces front (joined between first other es) rear cap x y z p (q.is between (own-gap _ _ _ g)) r ∙ ap (λ (t : List ℕ). min (length t) cap) (sym e)

-- the last operand, and how many are left
module _ {page starts firsts : List ℕ} {end : ℕ} (t : Tables page starts firsts end) (count : ℕ) (enough : count ≤ length (stack_at page end)) where
  pub last-operand : (count ≡ 0 → ⊥) → Newest page firsts end
  last-operand = operands-some [] (λ e. []) (λ e. []) t count enough

  pub fewer-operands : (count ≡ 0 → ⊥) → count - 1 ≤ length (stack_at page (get_or firsts (end - 1) 0))
  fewer-operands = operands-fewer [] (λ e. []) (λ e. []) t count enough
