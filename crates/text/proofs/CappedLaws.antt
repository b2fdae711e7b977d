-- Lengths up to a cap: sums of pieces, each measured up to what is left.
use Prim.Native.Nat.{ℕ, ◌+◌, ◌-◌, ◌≤◌, ◌<◌, min}
use native.Mathlib.Omega.{arith}
use mathlib.Core.Path.{◌≡◌, ap, ◌∙◌}
use mathlib.Core.List.{List, ◌++◌}
use lib.ListN.{length, length-append, replicate, length-replicate}
use Rattle.text.specs.Measured.{Measured}

-- a piece, then another
pub capped-then : (a b cap x y : ℕ) → x ≡ min a cap → y ≡ min b (cap - x) → x + y ≡ min (a + b) cap
capped-then a b cap x y p q = omega arith

-- what a node writes before, its operands' texts, what it writes after
pub capped-pieces : (f j r : List ℕ) (cap x y z : ℕ) → x ≡ min (length f) cap → y ≡ min (length j) (cap - x) → z ≡ min (length r) (cap - x - y)
    → x + y + z ≡ min (length (f ++ (j ++ r))) cap
capped-pieces f j r cap x y z p q s =
    let b = capped-then (length f) (length j) cap x y p q in
    let c = capped-then (length f + length j) (length r) cap (x + y) z b (s ∙ ap (min (length r)) (two cap x y)) in
    c ∙ ap (λ (n : ℕ). min n cap) (sum (length-append f (j ++ r)) (length-append j r))
  where
    two : (cap x y : ℕ) → cap - x - y ≡ cap - (x + y)
    two cap x y = omega arith

    sum : length (f ++ (j ++ r)) ≡ length f + length (j ++ r) → length (j ++ r) ≡ length j + length r → length f + length j + length r ≡ length (f ++ (j ++ r))
    sum g h = omega arith

-- ## Operands, from the last one down

fits : (n gap left : ℕ) → n ≡ gap → gap < left → gap ≡ min n left
fits n gap left e h = omega arith

module _ (joined' separator last' : List ℕ) (cap gap last : ℕ) (same : min (length separator) cap ≡ min gap cap)
    (measured : last ≡ min (length last') cap) where
  all : length (joined' ++ (separator ++ last')) ≡ length joined' + (length separator + length last')
  all = length-append joined' (separator ++ last') ∙ ap (λ (n : ℕ). length joined' + n) (length-append separator last')

  -- the cap is reached before the others
  pub capped-full : cap - last ≤ gap → cap ≡ min (length (joined' ++ (separator ++ last'))) cap
  capped-full h = omega (arith, all)

  -- the separator is measured in full where it leaves something
  pub capped-separator : gap < cap - last → length separator ≡ gap
  capped-separator h = omega arith

  pub capped-more : (rest : ℕ) → gap < cap - last → rest ≡ min (length joined') (cap - last - gap)
      → last + gap + rest ≡ min (length (joined' ++ (separator ++ last'))) cap
  capped-more rest h r =
      let two = capped-then (length last') (length separator) cap last gap measured (fits (length separator) gap (cap - last) (capped-separator h) h) in
      let three = capped-then (length last' + length separator) (length joined') cap (last + gap) rest two
      (r ∙ ap (min (length joined')) (left cap last gap)) in
      three ∙ ap (λ (n : ℕ). min n cap) (sum _ (length joined') (length separator) (length last') all)
    where
      left : (cap last gap : ℕ) → cap - last - gap ≡ cap - (last + gap)
      left cap last gap = omega arith

      sum : (n a b c : ℕ) → n ≡ a + (b + c) → c + b + a ≡ n
      sum n a b c e = omega arith

-- whatever the separator, the cap bounds the length
pub measured-of : (text : List ℕ → List ℕ) (gap cap r : ℕ)
    → ((separator : List ℕ) → min (length separator) cap ≡ min gap cap → r ≡ min (length (text separator)) cap)
    → Measured text gap cap r
measured-of text gap cap r h =
    record { bound = omega (arith, h (replicate gap 0) (ap (λ (n : ℕ). min n cap) (length-replicate {A = ℕ} gap 0))); is = h }

-- a gap that was measured up to a cap serves up to that cap
pub own-gap : (n cap gap : ℕ) → gap ≡ min n cap → min n cap ≡ min gap cap
own-gap n cap gap e = omega arith

-- ## The same length by another name, and with so many bytes more

pub len-as : (a b : List ℕ) (cap : ℕ) {r : ℕ} → a ≡ b → r ≡ min (length b) cap → r ≡ min (length a) cap
len-as a b cap e h = rw e h

pub len-plus : (text a b : List ℕ) (cap x r : ℕ) → text ≡ a ++ b → x ≡ min (length a) cap → r ≡ min (x + length b) cap → r ≡ min (length text) cap
len-plus text a b cap x r e p q = omega (arith, ap length e ∙ length-append a b)
