-- The order of texts: two bytes at a time, as the loop of `order_of` goes; that it is an order, and that texts that
-- stand in it are not equal. Assumes nothing.
use Prim.Native.Nat.{ℕ, zero, suc, ◌≤◌, ◌<◌, min}
use mathlib.Core.Path.{◌≡◌, refl, sym, ap, ap₂, ◌∙◌, subst}
use mathlib.Core.Bool.{Bool, true, false}
use mathlib.Core.List.{List, [], ◌∷◌}
use mathlib.Core.Logic.{◌⊎◌, inl, inr}
use native.Mathlib.Nat.{not-suc-le-zero, le_of_suc-le-suc}
use native.Mathlib.Omega.{arith}
use lib.ListN.{length, get_or, take}
use Rattle.std.proofs.lemmas.List.{length-take}
use Rattle.std.specs.Ordering.{MatchOrdering, nat_cmp, ordering_then}
use Rattle.std.proofs.lemmas.Cmp.{ranked}
use lib.Dec.{T, ltb, eqb, eqb→eq}
use borrow.Author.Tests.{ltb-true, ltb-false, lt-ltb, le-ltb, eq-eqb}
use Rattle.page.specs.Bytes.{pick, equal}
use Rattle.page.specs.Text.{Text}
use Rattle.page.proofs.NumberLaws.{left-of, right_of}
use Rattle.functions.specs.Order.{order_of, is_before, ascend}
use Rattle.std.specs.declared.cmp.Ordering.{Ordering}
use Rattle.std.specs.declared.cmp.Ordering.TheVariants.{Less, Equal, Greater}

-- ## The loop: what is left of as many bytes of both decides, and then their lengths

pub record Left (a b rest others : Text) : Type 0 where
  pub order : order_of a b ≡ ordering_then (order_of rest others) (nat_cmp (length a) (length b))
  pub sizes : length rest ≡ length others

-- how two lengths stand
abbrev Sized : Ordering → Text → Text → Type 0
Sized o a b = MatchOrdering o (length a < length b) (length a ≡ length b) (length b < length a)

less-sized : (o : Ordering) (a b : Text) (x y : ℕ) → Sized o (x ∷ a) (y ∷ b) → Sized o a b
less-sized Less a b x y h = omega (arith, h)
less-sized Equal a b x y h = omega (arith, h)
less-sized Greater a b x y h = omega (arith, h)

shared-order : (n : ℕ) (a b : Text) → n ≡ min (length a) (length b) → (o : Ordering) → Sized o a b
    → order_of a b ≡ ordering_then (order_of (take n a) (take n b)) o
shared-order zero [] [] e Less h = absurd (omega (arith, h))
shared-order zero [] [] e Equal h = refl
shared-order zero [] [] e Greater h = absurd (omega (arith, h))
shared-order zero [] (y ∷ u) e Less h = refl
shared-order zero [] (y ∷ u) e Equal h = absurd (omega (arith, h))
shared-order zero [] (y ∷ u) e Greater h = absurd (omega (arith, h))
shared-order zero (x ∷ t) [] e Less h = absurd (omega (arith, h))
shared-order zero (x ∷ t) [] e Equal h = absurd (omega (arith, h))
shared-order zero (x ∷ t) [] e Greater h = refl
shared-order zero (x ∷ t) (y ∷ u) e o h = absurd (omega (arith, e))
shared-order (suc n) [] b e o h = absurd (omega (arith, e))
shared-order (suc n) (x ∷ t) [] e o h = absurd (omega (arith, e))
shared-order (suc n) (x ∷ t) (y ∷ u) e o h =
    by (ltb x y) (ltb y x) (shared-order n t u (omega (arith, e)) o (less-sized o t u x y h))
  where
    by : (p q : Bool) → order_of t u ≡ ordering_then (order_of (take n t) (take n u)) o
        → pick p Less (pick q Greater (order_of t u))
        ≡ ordering_then (pick p Less (pick q Greater (order_of (take n t) (take n u)))) o
    by true q more = refl
    by false true more = refl
    by false false more = more

pub left-all : (a b : Text) (n : ℕ) → n ≡ min (length a) (length b) → Left a b (take n a) (take n b)
left-all a b n e = record {
  order = shared-order n a b e (nat_cmp (length a) (length b)) (ranked (length a) (length b) _ refl);
  sizes = omega (arith, e, length-take n a, length-take n b);
}

-- two numbers as their first bytes
first-differ : (x y : ℕ) (r o : Ordering) → (x ≡ y → ⊥)
    → nat_cmp x y ≡ ordering_then (pick (ltb x y) Less (pick (ltb y x) Greater r)) o
first-differ x y r o apart = by (nat_cmp x y) (ranked x y (nat_cmp x y) refl)
  where
    by : (p : Ordering) → MatchOrdering p (x < y) (x ≡ y) (y < x)
        → p ≡ ordering_then (pick (ltb x y) Less (pick (ltb y x) Greater r)) o
    by Less h = rw (lt-ltb x y h) refl
    by Equal h = absurd (apart h)
    by Greater h = rw (le-ltb x y (omega (arith, h)), lt-ltb y x h) refl

module _ (a b : Text) where
  pub left-differ : (rest others : Text) (x y : ℕ) (t u : Text) → rest ≡ x ∷ t → others ≡ y ∷ u → (x ≡ y → ⊥) → Left a b rest others
      → nat_cmp x y ≡ order_of a b
  left-differ rest others x y t u e f apart left =
      sym (left.order ∙ rw (e, f) (sym (first-differ x y (order_of t u) _ apart)))

  pub left-next : (rest others : Text) (x y : ℕ) (t u : Text) → rest ≡ x ∷ t → others ≡ y ∷ u → x ≡ y → Left a b rest others
      → Left a b t u
  left-next rest others x y t u e f same left =
      record {
        order = left.order ∙ rw (e, f, le-ltb x y (omega (arith, same)), le-ltb y x (omega (arith, same))) refl;
        sizes = omega (arith, left.sizes, ap length e, ap length f);
      }

  -- one of them has ended
  pub left-ended : (rest others : Text) → (rest ≡ []) ⊎ (others ≡ []) → Left a b rest others
      → nat_cmp (length a) (length b) ≡ order_of a b
  left-ended [] [] ended left = sym left.order
  left-ended [] (y ∷ u) ended left = absurd (omega (arith, left.sizes))
  left-ended (x ∷ t) [] ended left = absurd (omega (arith, left.sizes))
  left-ended (x ∷ t) (y ∷ u) (inl e) left = absurd (omega (arith, ap length e))
  left-ended (x ∷ t) (y ∷ u) (inr e) left = absurd (omega (arith, ap length e))

-- ## equal

pub equal-texts : (t u : Text) → T (equal t u) → t ≡ u
equal-texts [] [] h = refl
equal-texts [] (b ∷ u) h = absurd h
equal-texts (a ∷ t) [] h = absurd h
equal-texts (a ∷ t) (b ∷ u) h =
    ap₂ {C = Text} (λ c l. c ∷ l) (eqb→eq a b (left-of (eqb a b) (equal t u) h))
    (equal-texts t u (right_of (eqb a b) (equal t u) h))

pub equal-self : (t : Text) → equal t t ≡ true
equal-self [] = refl
equal-self (a ∷ t) = rw (eq-eqb a a refl) (equal-self t)

-- ## order_of

pub order-self : (t : Text) → order_of t t ≡ Equal
order-self [] = refl
order-self (a ∷ t) = rw (le-ltb a a (omega arith)) (order-self t)

-- the other way round
abbrev flipped : Ordering → Ordering
flipped Less = Greater
flipped Equal = Equal
flipped Greater = Less

order-flipped : (t u : Text) → order_of u t ≡ flipped (order_of t u)
order-flipped [] [] = refl
order-flipped [] (b ∷ u) = refl
order-flipped (a ∷ t) [] = refl
order-flipped (a ∷ t) (b ∷ u) = by (order-flipped t u) (ltb a b) refl (ltb b a) refl
  where
    by : order_of u t ≡ flipped (order_of t u) → (x : Bool) → ltb a b ≡ x → (y : Bool) → ltb b a ≡ y
        → pick y Less (pick x Greater (order_of u t)) ≡ flipped (pick x Less (pick y Greater (order_of t u)))
    by more true q true p = absurd (omega (arith, ltb-true a b q, ltb-true b a p))
    by more true q false p = refl
    by more false q true p = refl
    by more false q false p = more

pub order-behind : (t u : Text) → order_of t u ≡ Greater → order_of u t ≡ Less
order-behind t u e = order-flipped t u ∙ ap flipped e

pub order_same : (t u : Text) → order_of t u ≡ Equal → t ≡ u
order_same [] [] e = refl
order_same [] (b ∷ u) e = let z : ◌≡◌ {A = ℕ} 0 1 = cc in absurd (omega arith)
order_same (a ∷ t) [] e = let z : ◌≡◌ {A = ℕ} 0 1 = cc in absurd (omega arith)
order_same (a ∷ t) (b ∷ u) e = by (order_same t u) (ltb a b) refl (ltb b a) refl e
  where
    by : (order_of t u ≡ Equal → t ≡ u) → (x : Bool) → ltb a b ≡ x → (y : Bool) → ltb b a ≡ y
        → pick x Less (pick y Greater (order_of t u)) ≡ Equal → ◌≡◌ {A = Text} (a ∷ t) (b ∷ u)
    by more true q y p e = let z : ◌≡◌ {A = ℕ} 0 1 = cc in absurd (omega arith)
    by more false q true p e = let z : ◌≡◌ {A = ℕ} 0 1 = cc in absurd (omega arith)
    by more false q false p e =
        ap₂ {C = Text} (λ c l. c ∷ l) (omega (arith, ltb-false a b q, ltb-false b a p)) (more e)

-- a text stands before another: the first bytes decide, or what follows equal ones
record Precedes (a : ℕ) (t : Text) (b : ℕ) (u : Text) : Type 0 where
  low : a ≤ b
  rest : a ≡ b → order_of t u ≡ Less

before-first : (a : ℕ) (t : Text) (b : ℕ) (u : Text) → order_of (a ∷ t) (b ∷ u) ≡ Less → Precedes a t b u
before-first a t b u e = by (ltb a b) refl (ltb b a) refl e
  where
    by : (x : Bool) → ltb a b ≡ x → (y : Bool) → ltb b a ≡ y → pick x Less (pick y Greater (order_of t u)) ≡ Less
        → Precedes a t b u
    by true q y p e = record {
      low = omega (arith, ltb-true a b q);
      rest = λ s. absurd (omega (arith, ltb-true a b q, s));
    }
    by false q true p e = let z : ◌≡◌ {A = ℕ} 0 1 = cc in absurd (omega arith)
    by false q false p e = record { low = ltb-false b a p; rest = λ s. e }

before-made : (a : ℕ) (t : Text) (b : ℕ) (u : Text) → Precedes a t b u → order_of (a ∷ t) (b ∷ u) ≡ Less
before-made a t b u h = by (ltb a b) refl
  where
    by : (x : Bool) → ltb a b ≡ x → pick x Less (pick (ltb b a) Greater (order_of t u)) ≡ Less
    by true q = refl
    by false q = rw (le-ltb b a h.low) (h.rest (omega (arith, ltb-false a b q, h.low)))

pub before-trans : (t u v : Text) → order_of t u ≡ Less → order_of u v ≡ Less → order_of t v ≡ Less
before-trans [] [] v e f = f
before-trans [] (b ∷ u) [] e f = let z : ◌≡◌ {A = ℕ} 0 1 = cc in absurd (omega arith)
before-trans [] (b ∷ u) (c ∷ v) e f = refl
before-trans (a ∷ t) [] v e f = let z : ◌≡◌ {A = ℕ} 0 1 = cc in absurd (omega arith)
before-trans (a ∷ t) (b ∷ u) [] e f = let z : ◌≡◌ {A = ℕ} 0 1 = cc in absurd (omega arith)
before-trans (a ∷ t) (b ∷ u) (c ∷ v) e f =
    let p = before-first a t b u e in
    let q = before-first b u c v f in
    before-made a t c v
    (record {
      low = omega (arith, p.low, q.low);
      rest = λ s. before-trans t u v (p.rest (omega (arith, p.low, q.low, s))) (q.rest (omega (arith, p.low, q.low, s)));
    })

-- the one is not the other
before-apart : (t u : Text) → order_of t u ≡ Less → t ≡ u → ⊥
before-apart t u e s =
    let both : Equal ≡ Less = sym (order-self t) ∙ ap (order_of t) s ∙ e in
    let z : ◌≡◌ {A = ℕ} 0 1 = cc in
    absurd (omega arith)

unequal : (t u : Text) → (t ≡ u → ⊥) → equal t u ≡ false
unequal t u h = by (equal t u) refl
  where
    by : (x : Bool) → equal t u ≡ x → equal t u ≡ false
    by true q = absurd (h (equal-texts t u (subst (λ (x : Bool). T x) (sym q) tt)))
    by false q = q

pub before-unequal : (t u : Text) → order_of t u ≡ Less → equal t u ≡ false
before-unequal t u e = unequal t u (before-apart t u e)

pub behind-unequal : (t u : Text) → order_of u t ≡ Less → equal t u ≡ false
behind-unequal t u e = unequal t u (λ s. before-apart u t e (sym s))

pub unequal-apart : (t u : Text) → equal t u ≡ false → t ≡ u → ⊥
unequal-apart t u q s =
    let both : true ≡ false = sym (equal-self u) ∙ ap (λ (x : Text). equal x u) (sym s) ∙ q in
    let z : ◌≡◌ {A = ℕ} 0 1 = cc in
    absurd (omega arith)

-- ## is_before

pub before-order : (t u : Text) → T (is_before t u) → order_of t u ≡ Less
before-order t u h = by (order_of t u) refl h
  where
    test : Ordering → Bool
    test Less = true
    test Equal = false
    test Greater = false

    by : (o : Ordering) → order_of t u ≡ o → T (test o) → order_of t u ≡ Less
    by Less q h = q
    by Equal q h = absurd h
    by Greater q h = absurd h

pub order-before : (t u : Text) → order_of t u ≡ Less → T (is_before t u)
order-before t u e = rw e tt

-- ## ascend

-- any two texts of the list are in order
pub ascend-order : (ts : List Text) → T (ascend ts) → (i j : ℕ) → i < j → j < length ts
    → order_of (get_or ts i []) (get_or ts j []) ≡ Less
ascend-order [] h i j l m = absurd (not-suc-le-zero m)
ascend-order (t ∷ ts) h i zero l m = absurd (not-suc-le-zero l)
ascend-order (t ∷ []) h i (suc j) l m = absurd (not-suc-le-zero (le_of_suc-le-suc m))
ascend-order (t ∷ u ∷ ts) h (suc i) (suc j) l m =
    ascend-order (u ∷ ts) (right_of (is_before t u) (ascend (u ∷ ts)) h) i j (le_of_suc-le-suc l) (le_of_suc-le-suc m)
ascend-order (t ∷ u ∷ ts) h zero (suc zero) l m = before-order t u (left-of (is_before t u) (ascend (u ∷ ts)) h)
ascend-order (t ∷ u ∷ ts) h zero (suc (suc j)) l m =
    before-trans t u (get_or ts j []) (before-order t u (left-of (is_before t u) (ascend (u ∷ ts)) h))
    (ascend-order (u ∷ ts) (right_of (is_before t u) (ascend (u ∷ ts)) h) 0 (suc j) (omega arith) (le_of_suc-le-suc m))

-- no text stands twice
pub ascend-once : (ts : List Text) → T (ascend ts) → (i j : ℕ) → i < length ts → j < length ts
    → get_or ts i [] ≡ get_or ts j [] → i ≡ j
ascend-once ts h i j l m e = by (ltb i j) refl (ltb j i) refl
  where
    by : (x : Bool) → ltb i j ≡ x → (y : Bool) → ltb j i ≡ y → i ≡ j
    by true q y p =
        absurd (before-apart (get_or ts i []) (get_or ts j []) (ascend-order ts h i j (ltb-true i j q) m) e)
    by false q true p =
        absurd (before-apart (get_or ts j []) (get_or ts i []) (ascend-order ts h j i (ltb-true j i p) l) (sym e))
    by false q false p = omega (arith, ltb-false i j q, ltb-false j i p)
