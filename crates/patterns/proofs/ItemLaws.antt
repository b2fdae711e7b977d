-- What `item` finds, a law for each way out that needs one. `p` is the pattern, `at` where the item begins. Assumes
-- nothing.
use Prim.Native.Nat.{ℕ, ◌+◌, ◌≤◌, ◌<◌}
use mathlib.Core.Path.{◌≡◌, refl, sym, ap, subst, ◌∙◌}
use mathlib.Core.Bool.{Bool, true, false}
use mathlib.Core.List.{List, [], ◌∷◌, ◌++◌, append_assoc}
use native.Mathlib.Numerals.{add-one}
use native.Mathlib.Omega.{arith}
use lib.ListN.{length, drop, get_or, length-drop}
use lib.Seq.{drop-cons}
use lib.Dec.{T, eqb→eq}
use Rattle.patterns.specs.Pattern.{is_single, Repeat, Choice, single, any, group, write_repeat, write_choice, write_item}
use Rattle.patterns.specs.Search.{empty_repeated}
use Rattle.patterns.specs.Tree.{ends_choice}
use Rattle.patterns.specs.Answers.{ChoiceFound, NoChoice, NoItem, ItemFound, RepeatFound}
use Rattle.patterns.proofs.TreeLaws.{T_true, true-T, not-both}
use Rattle.patterns.proofs.DecisionLaws.{unique-choice}

-- ## The bytes from a position on

pub front : (p : List ℕ) (at : ℕ) → at < length p → drop at p ≡ get_or p at 0 ∷ drop (at + 1) p
front p at h = rw (add-one, drop-cons p at 0)

empty-list : (l : List ℕ) → length l ≡ 0 → l ≡ []
empty-list [] e = refl
empty-list (x ∷ xs) e = absurd (omega arith)

pub past : (p : List ℕ) (at : ℕ) → length p ≤ at → drop at p ≡ []
past p at h = empty-list (drop at p) (omega (arith, length-drop at p))

-- ## Items

single-is : (b k : ℕ) → T (is_single b) → is_single k ≡ false → b ≡ k → ⊥
single-is b k h f e = not-both (is_single b) (T_true (is_single b) h) (ap is_single e ∙ f)

module _ (p : List ℕ) (at : ℕ) (h : at < length p) where
  -- an item from here on begins with the byte here
  first_byte : (b : ℕ) (bs : List ℕ) → b ∷ bs ≡ drop at p → (b ≡ get_or p at 0) × (bs ≡ drop (at + 1) p)
  first_byte b bs w = let e = front p at h in (cc, cc)

  module _ (bracketed : get_or p at 0 ≡ 40) where
    inside : (c : Choice) (r : Repeat) (rest : List ℕ) → write_item (group c r) ++ rest ≡ drop at p
        → write_choice c ++ (41 ∷ (write_repeat r ++ rest)) ≡ drop (at + 1) p
    inside c r rest w = sym (append_assoc (write_choice c) (41 ∷ write_repeat r) rest) ∙ (first_byte 40 ((write_choice c ++ (41 ∷ write_repeat r)) ++ rest) w).1

    pub item-no-group : NoChoice (drop (at + 1) p) → NoItem (drop at p)
    unfolding is_single
    item-no-group f (single b q r) rest k w = single-is b 40 q refl ((first_byte b (write_repeat r ++ rest) w).0 ∙ bracketed)
    item-no-group f (any r) rest k w = let e = (first_byte 46 (write_repeat r ++ rest) w).0 ∙ bracketed in omega arith
    item-no-group f (group c r) rest k w = f c (41 ∷ (write_repeat r ++ rest)) tt (inside c r rest w)

    pub item-unclosed : (e : Bool) (next : ℕ) → ChoiceFound p (at + 1) e next → length p ≤ next → NoItem (drop at p)
    unfolding is_single
    item-unclosed e next d l (single b q r) rest k w = single-is b 40 q refl ((first_byte b (write_repeat r ++ rest) w).0 ∙ bracketed)
    item-unclosed e next d l (any r) rest k w = let e = (first_byte 46 (write_repeat r ++ rest) w).0 ∙ bracketed in omega arith
    item-unclosed e next d l (group c r) rest k w =
        let same = unique-choice c d.tree (41 ∷ (write_repeat r ++ rest)) (drop next p) tt d.ends (inside c r rest w ∙ sym d.written) in
        let x = same.1 in
        let y = past p next l in
        let z : ◌≡◌ {A = ℕ} 0 1 = cc in omega arith

    pub item-group : (e : Bool) (next : ℕ) → ChoiceFound p (at + 1) e next → next < length p → (f : Bool) (end : ℕ)
        → RepeatFound p (next + 1) e f end → ItemFound p at f end
    item-group e next d l f end r =
        record {
          tree = group d.tree r.tree;
          written = ap {B = List ℕ} (λ x. 40 ∷ x)
              (append_assoc (write_choice d.tree) (41 ∷ write_repeat r.tree) (drop end p)
              ∙ ap (λ (x : List ℕ). write_choice d.tree ++ (41 ∷ x)) r.written ∙ closed)
              ∙ ap {B = List ℕ} (λ x. x ∷ drop (at + 1) p) (sym bracketed) ∙ sym (front p at h);
          ends = r.ends;
          empty = ap (empty_repeated r.tree) d.empty ∙ r.empty;
          low = omega (arith, d.low, r.low);
          high = r.high;
        }
      where
        bracket : get_or p next 0 ≡ 41
        bracket = eqb→eq (get_or p next 0) 41 (subst (λ (x : List ℕ). T (ends_choice x)) (front p next l) d.ends)

        closed : write_choice d.tree ++ (41 ∷ drop (next + 1) p) ≡ drop (at + 1) p
        closed = ap (λ (x : ℕ). write_choice d.tree ++ (x ∷ drop (next + 1) p)) (sym bracket)
            ∙ ap (λ (x : List ℕ). write_choice d.tree ++ x) (sym (front p next l)) ∙ d.written

  pub item-any : get_or p at 0 ≡ 46 → (f : Bool) (end : ℕ) → RepeatFound p (at + 1) false f end → ItemFound p at f end
  item-any e f end r =
      record {
        tree = any r.tree;
        written = ap {B = List ℕ} (λ x. 46 ∷ x) r.written
            ∙ ap {B = List ℕ} (λ x. x ∷ drop (at + 1) p) (sym e) ∙ sym (front p at h);
        ends = r.ends;
        empty = r.empty;
        low = omega (arith, r.low);
        high = r.high;
      }

  pub item-single : (t : Bool) → t ≡ is_single (get_or p at 0) → t ≡ true → (f : Bool) (end : ℕ) → RepeatFound p (at + 1) false f end → ItemFound p at f end
  item-single t e k f end r =
      record {
        tree = single (get_or p at 0) (true-T (is_single (get_or p at 0)) (sym e ∙ k)) r.tree;
        written = ap {B = List ℕ} (λ x. get_or p at 0 ∷ x) r.written ∙ sym (front p at h);
        ends = r.ends;
        empty = r.empty;
        low = omega (arith, r.low);
        high = r.high;
      }
