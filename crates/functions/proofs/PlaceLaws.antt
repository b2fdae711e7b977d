-- The place of a name in a list of texts, and in one that ascends, by halves: the texts in front of `low` stand before
-- the name, those from `high` on behind it. Assumes nothing.
use Prim.Native.Nat.{ℕ, zero, suc, ◌+◌, ◌≤◌, ◌<◌}
use mathlib.Core.Path.{◌≡◌, refl, sym, ap, ◌∙◌, subst}
use mathlib.Core.Bool.{Bool, true, false}
use mathlib.Core.List.{List, [], ◌∷◌}
use mathlib.Core.Option.{none, some}
use native.Mathlib.Nat.{not-suc-le-zero, le_of_suc-le-suc, zero-add}
use borrow.Author.Tests.{ltb-true, ltb-false}
use native.Mathlib.Omega.{arith}
use lib.ListN.{length, get_or}
use lib.Dec.{T, ltb}
use Rattle.page.specs.Bytes.{pick, equal}
use Rattle.page.specs.Text.{Text}
use Rattle.functions.specs.Order.{order_of, ascend}
use Rattle.functions.specs.Table.{place_from}
use Rattle.std.specs.declared.cmp.Ordering.TheVariants.{Less, Equal, Greater}
use Rattle.functions.proofs.OrderLaws.{equal-self, order-behind, order_same, before-trans, before-unequal, behind-unequal, ascend-order}

-- ## place_from

pub place_none : (i : ℕ) (ts : List Text) (name : Text) → ((k : ℕ) → k < length ts → equal (get_or ts k []) name ≡ false)
    → place_from i ts name ≡ none
place_none i [] name h = refl
place_none i (t ∷ ts) name h = rw (h 0 (omega arith)) (place_none (suc i) ts name (λ k l. h (suc k) (omega arith)))

pub place_at : (i : ℕ) (ts : List Text) (name : Text) (n : ℕ) → n < length ts → equal (get_or ts n []) name ≡ true
    → ((k : ℕ) → k < n → equal (get_or ts k []) name ≡ false) → place_from i ts name ≡ some (i + n)
place_at i [] name n l e h = absurd (not-suc-le-zero l)
place_at i (t ∷ ts) name zero l e h = rw e (ap some (omega arith))
place_at i (t ∷ ts) name (suc n) l e h =
    rw (h 0 (omega arith)) (place_at (suc i) ts name n (le_of_suc-le-suc l) e (λ k m. h (suc k) (omega arith)) ∙ ap some (omega arith))

-- a place that is found: the name stands there, and not before
pub record FoundAt (ts : List Text) (name : Text) (i : ℕ) : Type 0 where
  pub inside : i < length ts
  pub named : equal (get_or ts i []) name ≡ true
  pub first : (k : ℕ) → k < i → equal (get_or ts k []) name ≡ false

-- counted from i
record FoundFrom (i : ℕ) (ts : List Text) (name : Text) (n : ℕ) : Type 0 where
  at : ℕ
  counted : n ≡ i + at
  found : FoundAt ts name at

found_from : (i : ℕ) (ts : List Text) (name : Text) (n : ℕ) → place_from i ts name ≡ some n → FoundFrom i ts name n
found_from i [] name n e = let z : ◌≡◌ {A = ℕ} 0 1 = cc in absurd (omega arith)
found_from i (t ∷ ts) name n e = by (found_from (suc i) ts name n) (equal t name) refl e
  where
    by : (place_from (suc i) ts name ≡ some n → FoundFrom (suc i) ts name n) → (x : Bool) → equal t name ≡ x
        → pick x (some i) (place_from (suc i) ts name) ≡ some n → FoundFrom i (t ∷ ts) name n
    by more true q e = record {
      at = 0;
      counted = let same : i ≡ n = cc in omega arith;
      found = record { inside = omega arith; named = q; first = λ k l. absurd (not-suc-le-zero l) };
    }
    by more false q e =
        let rest = more e in
        record {
          at = suc rest.at;
          counted = omega (arith, rest.counted);
          found = record {
            inside = omega (arith, rest.found.inside);
            named = rest.found.named;
            first = λ k l. before k l rest.found.first;
          };
        }
      where
        before : {m : ℕ} (k : ℕ) → k < suc m → ((k : ℕ) → k < m → equal (get_or ts k []) name ≡ false)
            → equal (get_or (t ∷ ts) k []) name ≡ false
        before zero l h = q
        before (suc k) l h = h k (le_of_suc-le-suc l)

pub place_found : (ts : List Text) (name : Text) (n : ℕ) → place_from 0 ts name ≡ some n → FoundAt ts name n
place_found ts name n e =
    let from = found_from 0 ts name n e in
    let same : from.at ≡ n = omega (arith, from.counted) in
    subst (FoundAt ts name) same from.found

pub place-missing : (i : ℕ) (ts : List Text) (name : Text) → place_from i ts name ≡ none
    → (k : ℕ) → k < length ts → equal (get_or ts k []) name ≡ false
place-missing i [] name e k l = absurd (not-suc-le-zero l)
place-missing i (t ∷ ts) name e k l = by (place-missing (suc i) ts name) (equal t name) refl e k l
  where
    by : (place_from (suc i) ts name ≡ none → (k : ℕ) → k < length ts → equal (get_or ts k []) name ≡ false)
        → (x : Bool) → equal t name ≡ x → pick x (some i) (place_from (suc i) ts name) ≡ none
        → (k : ℕ) → k < suc (length ts) → equal (get_or (t ∷ ts) k []) name ≡ false
    by more true q e k l = let z : ◌≡◌ {A = ℕ} 0 1 = cc in absurd (omega arith)
    by more false q e zero l = q
    by more false q e (suc k) l = more e k (le_of_suc-le-suc l)

-- ## By halves

pub record Left (ts : List Text) (name : Text) (low high : ℕ) : Type 0 where
  pub ordered : low ≤ high
  pub inside : high ≤ length ts
  pub front : (k : ℕ) → k < low → order_of (get_or ts k []) name ≡ Less
  pub back : (k : ℕ) → high ≤ k → k < length ts → order_of name (get_or ts k []) ≡ Less

pub left-all : (ts : List Text) (name : Text) (n : ℕ) → length ts ≡ n → Left ts name 0 n
left-all ts name n e = record {
  ordered = omega arith;
  inside = omega arith;
  front = λ k l. absurd (not-suc-le-zero l);
  back = λ k l m. absurd (omega arith);
}

pub left-none : {ts : List Text} {name : Text} {low high : ℕ} → Left ts name low high → high ≤ low → none ≡ place_from 0 ts name
left-none {ts} {name} {low} {high} left h = sym (place_none 0 ts name (λ k l. by k l (ltb k low) refl))
  where
    by : (k : ℕ) → k < length ts → (x : Bool) → ltb k low ≡ x → equal (get_or ts k []) name ≡ false
    by k l true q = before-unequal (get_or ts k []) name (left.front k (ltb-true k low q))
    by k l false q = behind-unequal (get_or ts k []) name (left.back k (omega (arith, ltb-false k low q)) l)

-- a place among those left, in a list that ascends: the text there stands before the name, behind it, or is it
pub record Halved (ts : List Text) (name : Text) (low high middle : ℕ) : Type 0 where
  pub sorted : T (ascend ts)
  pub left : Left ts name low high
  pub from : low ≤ middle
  pub to : middle < high

module _ {ts : List Text} {name : Text} {low high middle : ℕ} (half : Halved ts name low high middle) where
  inside : middle < length ts
  inside = omega (arith, half.left.inside, half.to)

  -- any two are in order
  two : (i j : ℕ) → i < j → j < length ts → order_of (get_or ts i []) (get_or ts j []) ≡ Less
  two = ascend-order ts half.sorted

  pub left_behind : order_of (get_or ts middle []) name ≡ Less → Left ts name (middle + 1) high
  left_behind e = record {
    ordered = omega (arith, half.to);
    inside = half.left.inside;
    front = λ k l. by k l (ltb k middle) refl;
    back = half.left.back;
  }
    where
      by : (k : ℕ) → k < middle + 1 → (x : Bool) → ltb k middle ≡ x → order_of (get_or ts k []) name ≡ Less
      by k l true q = before-trans (get_or ts k []) (get_or ts middle []) name (two k middle (ltb-true k middle q) inside) e
      by k l false q =
          let same : middle ≡ k = omega (arith, ltb-false k middle q) in
          subst (λ (n : ℕ). order_of (get_or ts n []) name ≡ Less) same e

  pub left-front : order_of (get_or ts middle []) name ≡ Greater → Left ts name low middle
  left-front e = record {
    ordered = half.from;
    inside = omega (arith, inside);
    front = half.left.front;
    back = λ k l m. by k l m (ltb middle k) refl;
  }
    where
      turned : order_of name (get_or ts middle []) ≡ Less
      turned = order-behind (get_or ts middle []) name e

      by : (k : ℕ) → middle ≤ k → k < length ts → (x : Bool) → ltb middle k ≡ x → order_of name (get_or ts k []) ≡ Less
      by k l m true q = before-trans name (get_or ts middle []) (get_or ts k []) turned (two middle k (ltb-true middle k q) m)
      by k l m false q =
          let same : middle ≡ k = omega (arith, ltb-false middle k q) in
          subst (λ (n : ℕ). order_of name (get_or ts n []) ≡ Less) same turned

  pub left-found : order_of (get_or ts middle []) name ≡ Equal → some middle ≡ place_from 0 ts name
  left-found e =
      let here : get_or ts middle [] ≡ name = order_same (get_or ts middle []) name e in
      sym
      (place_at 0 ts name middle inside (ap (λ (t : Text). equal t name) here ∙ equal-self name) (λ k l.
      before-unequal (get_or ts k []) name
      (subst (λ (t : Text). order_of (get_or ts k []) t ≡ Less) here (two k middle l inside)))
      ∙ ap some (zero-add middle))
