-- `matches_empty_text` against the language: it answers for the covered patterns alone, and true where empty text is in
-- the language alone. A pattern is written from at most one tree, since the search finds every tree that is written.
-- Assumes nothing.
use Prim.Native.Nat.{ℕ, suc, ◌+◌, ◌*◌, ◌≤◌}
use mathlib.Core.Path.{◌≡◌, refl, sym, ap, subst, ◌∙◌}
use mathlib.Core.Bool.{Bool}
use mathlib.Core.Logic.{◌↔◌}
use mathlib.Core.List.{List, [], ◌∷◌, ◌++◌, append-nil}
use mathlib.Core.Option.{Option, none, some}
use native.Mathlib.Omega.{arith}
use lib.ListN.{length, length-append}
use lib.Dec.{T}
use Rattle.patterns.specs.Pattern.{Choice, last, or, Sequence, done}
use Rattle.patterns.specs.Pattern.{then, Item, single, any, group, write_repeat, write_choice, write_sequence}
use Rattle.patterns.specs.Pattern.{write_item, Covered}
use Rattle.patterns.specs.Language.{Matches}
use Rattle.patterns.specs.Search.{Found, missing, found, read_choice, read_sequence, read_item, empty_choice, whole, matches_empty_text}
use Rattle.patterns.specs.Tree.{ends_sequence, ends_choice, repeat_of, takes_all}
use Rattle.patterns.proofs.LanguageLaws.{empty_choice-language}
use Rattle.patterns.proofs.SearchLaws.{depth_choice, depth_sequence, depth_item, complete-choice, complete-sequence, complete-item, sound-choice}

-- ## Three calls for each byte are enough

join-bound : (a b c : ℕ) (x y : List ℕ) → a + 1 ≤ 3 * length x → b ≤ 3 * length y + 1 → c ≤ suc (a + b) → c ≤ 3 * length (x ++ y) + 1
join-bound a b c x y h k l = omega (arith, length-append x y)

or-bound : (a b : ℕ) (x y : List ℕ) → a ≤ 3 * length x + 1 → b ≤ 3 * length y + 2 → suc (a + b) ≤ 3 * length (x ++ (124 ∷ y)) + 2
or-bound a b x y h k = omega (arith, length-append x (124 ∷ y))

group-bound : (a : ℕ) (x y : List ℕ) → a ≤ 3 * length x + 2 → suc a + 1 ≤ 3 * length (40 ∷ (x ++ (41 ∷ y)))
group-bound a x y h = omega (arith, length-append x (41 ∷ y))

last-bound : (a n : ℕ) → a ≤ n + 1 → suc a ≤ n + 2
last-bound a n h = omega arith

single-bound : (b : ℕ) (y : List ℕ) → 1 + 1 ≤ 3 * length (b ∷ y)
single-bound b y = omega arith

mutual
  pub bound-choice : (c : Choice) → depth_choice c ≤ 3 * length (write_choice c) + 2
  bound-choice (last s) = last-bound (depth_sequence s) (3 * length (write_sequence s)) (bound-sequence s)
  bound-choice (or s c) = or-bound (depth_sequence s) (depth_choice c) (write_sequence s) (write_choice c) (bound-sequence s) (bound-choice c)

  pub bound-sequence : (s : Sequence) → depth_sequence s ≤ 3 * length (write_sequence s) + 1
  bound-sequence done = omega arith
  bound-sequence (then i s) = join-bound (depth_item i) (depth_sequence s) (depth_sequence (then i s)) (write_item i)
      (write_sequence s) (bound-item i) (bound-sequence s) (omega arith)

  pub bound-item : (i : Item) → depth_item i + 1 ≤ 3 * length (write_item i)
  bound-item (single b h r) = single-bound b (write_repeat r)
  bound-item (any r) = single-bound 46 (write_repeat r)
  bound-item (group c r) = group-bound (depth_choice c) (write_choice c) (write_repeat r) (bound-choice c)

-- ## A part of a pattern is written from one tree

both : {A : Type 0} {x : Found A} {a b : A} {r t : List ℕ} → x ≡ found a r → x ≡ found b t → (a ≡ b) × (r ≡ t)
both e f = (cc, cc)

pub unique-sequence : (s q : Sequence) (r t : List ℕ) → T (ends_sequence r) → T (ends_sequence t)
    → write_sequence s ++ r ≡ write_sequence q ++ t → (s ≡ q) × (r ≡ t)
unique-sequence s q r t h k e =
    let n : ℕ = depth_sequence s + depth_sequence q in
    both (ap (read_sequence n) (sym e) ∙ complete-sequence s r n h (omega arith)) (complete-sequence q t n k (omega arith))

pub unique-item : (i j : Item) (r t : List ℕ) → T (takes_all (repeat_of i) r) → T (takes_all (repeat_of j) t)
    → write_item i ++ r ≡ write_item j ++ t → (i ≡ j) × (r ≡ t)
unique-item i j r t h k e =
    let n : ℕ = depth_item i + depth_item j in
    both (ap (read_item n) (sym e) ∙ complete-item i r n h (omega arith)) (complete-item j t n k (omega arith))

pub unique-choice : (c d : Choice) (r t : List ℕ) → T (ends_choice r) → T (ends_choice t)
    → write_choice c ++ r ≡ write_choice d ++ t → (c ≡ d) × (r ≡ t)
unique-choice c d r t h k e =
    let n : ℕ = depth_choice c + depth_choice d in
    both (ap (read_choice n) (sym e) ∙ complete-choice c r n h (omega arith)) (complete-choice d t n k (omega arith))

-- ## write_choice

-- a pattern is written from at most one tree
pub write_choice-one : (c d : Choice) → write_choice c ≡ write_choice d → c ≡ d
write_choice-one c d e = (unique-choice c d [] [] tt tt (append-nil (write_choice c) ∙ e ∙ sym (append-nil (write_choice d)))).0

-- ## read_choice

pub read_choice-written : (c : Choice) → read_choice (3 * length (write_choice c) + 3) (write_choice c) ≡ found c []
read_choice-written c =
    let depth : ℕ = 3 * length (write_choice c) + 3 in
    ap (read_choice depth) (sym (append-nil (write_choice c))) ∙ complete-choice c [] depth tt (omega (arith, bound-choice c))

-- ## matches_empty_text

pub matches_empty_text-written : (c : Choice) → matches_empty_text (write_choice c) ≡ some (empty_choice c)
unfolding matches_empty_text
matches_empty_text-written c = ap whole (read_choice-written c)

pub matches_empty_text-tree : (p : List ℕ) (b : Bool) → matches_empty_text p ≡ some b
    → (c : Choice) × (write_choice c ≡ p) × (empty_choice c ≡ b)
unfolding matches_empty_text
matches_empty_text-tree p b e = by (read_choice (3 * length p + 3) p) refl e
  where
    by : (x : Found Choice) → read_choice (3 * length p + 3) p ≡ x → whole x ≡ some b
        → (c : Choice) × (write_choice c ≡ p) × (empty_choice c ≡ b)
    by missing k h = absurd (let z : ◌≡◌ {A = ℕ} 0 1 = cc in omega arith)
    by (found c (x ∷ xs)) k h = absurd (let z : ◌≡◌ {A = ℕ} 0 1 = cc in omega arith)
    by (found c []) k h = (c, sym (append-nil (write_choice c)) ∙ sound-choice (3 * length p + 3) p c [] k, cc)

-- there is an answer when, and only when, the pattern is covered
pub matches_empty_text-covered : (p : List ℕ) → Covered p ↔ ((b : Bool) × (matches_empty_text p ≡ some b))
matches_empty_text-covered p = (there, back)
  where
    there : Covered p → (b : Bool) × (matches_empty_text p ≡ some b)
    there h = (empty_choice h.0, ap matches_empty_text (sym h.1) ∙ matches_empty_text-written h.0)

    back : (b : Bool) × (matches_empty_text p ≡ some b) → Covered p
    back h = let tree = matches_empty_text-tree p h.0 h.1 in (tree.0, tree.1)

pub matches_empty_text-uncovered : (p : List ℕ) → (Covered p → ⊥) ↔ (matches_empty_text p ≡ none)
matches_empty_text-uncovered p = (there (matches_empty_text p) refl, back)
  where
    there : (x : Option Bool) → matches_empty_text p ≡ x → (Covered p → ⊥) → matches_empty_text p ≡ none
    there none e f = e
    there (some b) e f = absurd (f ((matches_empty_text-covered p).1 (b, e)))

    back : matches_empty_text p ≡ none → Covered p → ⊥
    back e h =
        let answered = (matches_empty_text-covered p).0 h in
        let z : some answered.0 ≡ none = sym answered.1 ∙ e in
        let y : ◌≡◌ {A = ℕ} 0 1 = cc in omega arith

-- and the answer is true when, and only when, empty text is in the language
pub matches_empty_text-language : (p : List ℕ) (b : Bool) → matches_empty_text p ≡ some b → T b ↔ Matches p []
matches_empty_text-language p b e = (there, back)
  where
    there : T b → Matches p []
    there h =
        let tree = matches_empty_text-tree p b e in
        (tree.0, tree.1, (empty_choice-language tree.0).0 (subst T (sym tree.2) h))

    back : Matches p [] → T b
    back m =
        let answered : some (empty_choice m.0) ≡ some b =
        sym (matches_empty_text-written m.0) ∙ ap matches_empty_text m.1 ∙ e in
        let same : empty_choice m.0 ≡ b = cc in
        subst T same ((empty_choice-language m.0).1 m.2)
