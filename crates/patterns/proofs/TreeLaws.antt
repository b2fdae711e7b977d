-- Bytes at the front of a pattern: what begins a sequence, what ends one, and what is a repeat. Assumes nothing.
use Prim.Native.Nat.{ℕ}
use mathlib.Core.Path.{◌≡◌, refl, sym, ap, subst, ◌∙◌}
use mathlib.Core.Bool.{Bool, true, false, ◌||◌, not}
use mathlib.Core.List.{List, [], ◌∷◌, ◌++◌}
use native.Mathlib.Omega.{arith}
use lib.Dec.{T, eqb, eqb→eq}
use Rattle.patterns.specs.Pattern.{is_single, Repeat, once, star, plus, optional, Sequence, done}
use Rattle.patterns.specs.Pattern.{then, Item, single, any, group, write_repeat, write_sequence}
use Rattle.patterns.specs.Pattern.{write_item}
use Rattle.patterns.specs.Tree.{ends_sequence, ends_choice, is_repeat, begins_with_repeat, takes_all}

-- ## Tests

pub T_true : (b : Bool) → T b → b ≡ true
T_true true h = refl
T_true false h = absurd h

pub true-T : (b : Bool) → b ≡ true → T b
true-T true e = tt
true-T false e = absurd (let z : ◌≡◌ {A = ℕ} 0 1 = cc in omega arith)

pub not-both : {B : Type 0} (b : Bool) → b ≡ true → b ≡ false → B
not-both b e f = absurd (let z : ◌≡◌ {A = ℕ} 0 1 = cc in omega arith)

-- a test that passes at one byte and fails at another tells them apart
pub apart : (test : ℕ → Bool) (b k : ℕ) → T (test b) → test k ≡ false → eqb b k ≡ false
apart test b k h f = by (eqb b k) refl
  where
    by : (t : Bool) → eqb b k ≡ t → eqb b k ≡ false
    by false e = e
    by true e = not-both (test b) (T_true (test b) h) (ap test (eqb→eq b k (true-T (eqb b k) e)) ∙ f)

-- a byte is one of two, and a test fails at both
pub fails-at-two : (test : ℕ → Bool) (b k l : ℕ) → T (eqb b k || eqb b l) → test k ≡ false → test l ≡ false → test b ≡ false
fails-at-two test b k l h f g = by (eqb b k) refl h
  where
    by : (t : Bool) → eqb b k ≡ t → T (t || eqb b l) → test b ≡ false
    by true e q = ap test (eqb→eq b k (true-T (eqb b k) e)) ∙ f
    by false e q = ap test (eqb→eq b l q) ∙ g

-- ## Where sequences and choices end

pub choice-ends-sequence : (rest : List ℕ) → T (ends_choice rest) → T (ends_sequence rest)
choice-ends-sequence [] h = tt
choice-ends-sequence (b ∷ bs) h = by (eqb b 124)
  where
    by : (t : Bool) → T (t || eqb b 41)
    by true = tt
    by false = h

single-no-repeat : (b : ℕ) → T (is_single b) → is_repeat b ≡ false
unfolding is_single
single-no-repeat b h = rw (apart is_single b 42 h refl, apart is_single b 43 h refl, apart is_single b 63 h refl)

single-stays : (b : ℕ) (bs : List ℕ) → T (is_single b) → ends_sequence (b ∷ bs) ≡ false
unfolding is_single
single-stays b bs h = rw (apart is_single b 124 h refl, apart is_single b 41 h refl)

-- no item begins where a sequence ends
pub item-stays : (i : Item) (rest : List ℕ) → ends_sequence (write_item i ++ rest) ≡ false
item-stays (single b h r) rest = single-stays b (write_repeat r ++ rest) h
item-stays (any r) rest = refl
item-stays (group c r) rest = refl

end-plain : (rest : List ℕ) → T (ends_sequence rest) → begins_with_repeat rest ≡ false
end-plain [] h = refl
end-plain (b ∷ bs) h = fails-at-two is_repeat b 124 41 h refl refl

-- behind an item that a sequence follows there is no repeat
pub sequence-plain : (s : Sequence) (rest : List ℕ) → T (ends_sequence rest) → begins_with_repeat (write_sequence s ++ rest) ≡ false
sequence-plain done rest h = end-plain rest h
sequence-plain (then (single b p r) s) rest h = single-no-repeat b p
sequence-plain (then (any r) s) rest h = refl
sequence-plain (then (group c r) s) rest h = refl

pub plain-takes : (r : Repeat) (rest : List ℕ) → begins_with_repeat rest ≡ false → T (takes_all r rest)
plain-takes once rest e = subst (λ (b : Bool). T (not b)) (sym e) tt
plain-takes star rest e = tt
plain-takes plus rest e = tt
plain-takes optional rest e = tt
