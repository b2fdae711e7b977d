-- The search finds a tree exactly where the pattern is one written: it finds every tree that is written (`complete-`), with enough depth, and
-- what it finds is written (`sound-`). So a pattern is the writing of at most one tree. Assumes nothing.
use Prim.Native.Nat.{ℕ, zero, suc, ◌+◌, ◌≤◌}
use mathlib.Core.Path.{◌≡◌, refl, sym, ap, ◌∙◌}
use mathlib.Core.Bool.{Bool, true, false, ◌||◌, not}
use mathlib.Core.List.{List, [], ◌∷◌, ◌++◌, append_assoc}
use native.Mathlib.Omega.{arith}
use lib.Dec.{T, eqb, eqb→eq}
use Rattle.page.specs.Bytes.{pick}
use Rattle.patterns.specs.Pattern.{is_single, Repeat, once, star, plus, optional, Choice, last, or, Sequence, done}
use Rattle.patterns.specs.Pattern.{then, Item, single, any, group, write_repeat, write_choice, write_sequence}
use Rattle.patterns.specs.Pattern.{write_item}
use Rattle.patterns.specs.Search.{Found, missing, found, of_test, repeated, closed, following, items, another}
use Rattle.patterns.specs.Search.{alternatives, read_choice, read_sequence, read_item}
use Rattle.patterns.specs.Tree.{ends_sequence, ends_choice, is_repeat, repeat_of, takes_all}
use Rattle.patterns.proofs.TreeLaws.{true-T, apart, choice-ends-sequence, item-stays, sequence-plain, plain-takes}

-- ## How deep the calls go

abbrev mutual
  pub depth_choice : Choice → ℕ
  depth_choice (last s) = suc (depth_sequence s)
  depth_choice (or s c) = suc (depth_sequence s + depth_choice c)

  pub depth_sequence : Sequence → ℕ
  depth_sequence done = 1
  depth_sequence (then i s) = suc (depth_item i + depth_sequence s)

  pub depth_item : Item → ℕ
  depth_item (single b h r) = 1
  depth_item (any r) = 1
  depth_item (group c r) = suc (depth_choice c)

-- ## What is written is found

pick_true : {A : Type 0} (t : Bool) (a b : A) → T t → pick t a b ≡ a
pick_true true a b h = refl
pick_true false a b h = absurd h

of_test-true : (t : Bool) (f : T t → Found Item) (h : T t) → of_test t f ≡ f h
of_test-true true f h = refl
of_test-true false f h = absurd h

plain-three : (make : Repeat → Item) (b : ℕ) (bs : List ℕ) → T (not (is_repeat b)) → repeated make (b ∷ bs) ≡ found (make once) (b ∷ bs)
plain-three make b bs h = by (eqb b 42) (eqb b 43) (eqb b 63) h
  where
    by : (x y z : Bool) → T (not (x || y || z))
        → pick x (found (make star) bs)
        (pick y (found (make plus) bs) (pick z (found (make optional) bs) (found (make once) (b ∷ bs))))
        ≡ found (make once) (b ∷ bs)
    by true y z q = absurd q
    by false true z q = absurd q
    by false false true q = absurd q
    by false false false q = refl

complete-repeated : (make : Repeat → Item) (r : Repeat) (rest : List ℕ) → T (takes_all r rest) → repeated make (write_repeat r ++ rest) ≡ found (make r) rest
complete-repeated make once [] h = refl
complete-repeated make once (b ∷ bs) h = plain-three make b bs h
complete-repeated make star rest h = refl
complete-repeated make plus rest h = refl
complete-repeated make optional rest h = refl

alternatives-last : (s : Sequence) (rest : List ℕ) (more : List ℕ → Found Choice) → T (ends_choice rest) → alternatives (found s rest) more ≡ found (last s) rest
alternatives-last s [] more h = refl
alternatives-last s (b ∷ bs) more h = rw (apart (λ x. eqb x 41) b 124 h refl)

single-found : (n b : ℕ) (h : T (is_single b)) (r : Repeat) (rest : List ℕ) → T (takes_all r rest)
    → read_item (suc n) (b ∷ (write_repeat r ++ rest)) ≡ found (single b h r) rest
unfolding read_choice is_single
single-found n b h r rest k =
    rw (apart is_single b 40 h refl, apart is_single b 46 h refl)
    (of_test-true (is_single b) (λ p. repeated (single b p) (write_repeat r ++ rest)) h ∙ complete-repeated (single b h) r rest k)

mutual
  unfolding read_choice

  pub complete-choice : (c : Choice) (rest : List ℕ) (n : ℕ) → T (ends_choice rest) → depth_choice c ≤ n → read_choice n (write_choice c ++ rest) ≡ found c rest
  complete-choice (last s) rest zero h d = absurd (omega arith)
  complete-choice (last s) rest (suc n) h d =
      ap (λ (x : Found Sequence). alternatives x (λ t. read_choice n t)) (complete-sequence s rest n (choice-ends-sequence rest h) (omega arith))
      ∙ alternatives-last s rest (λ t. read_choice n t) h
  complete-choice (or s c) rest zero h d = absurd (omega arith)
  complete-choice (or s c) rest (suc n) h d =
      ap (read_choice (suc n)) (append_assoc (write_sequence s) (124 ∷ write_choice c) rest)
      ∙ ap (λ (x : Found Sequence). alternatives x (λ t. read_choice n t)) (complete-sequence s (124 ∷ (write_choice c ++ rest)) n tt (omega arith))
      ∙ ap (another s) (complete-choice c rest n h (omega arith))

  pub complete-sequence : (s : Sequence) (rest : List ℕ) (n : ℕ) → T (ends_sequence rest) → depth_sequence s ≤ n
      → read_sequence n (write_sequence s ++ rest) ≡ found s rest
  complete-sequence done rest zero h d = absurd (omega arith)
  complete-sequence done rest (suc n) h d = pick_true (ends_sequence rest) (found done rest) (items (read_item n rest) (λ t. read_sequence n t)) h
  complete-sequence (then i s) rest zero h d = absurd (omega arith)
  complete-sequence (then i s) rest (suc n) h d =
      ap (read_sequence (suc n)) (append_assoc (write_item i) (write_sequence s) rest)
      ∙ ap (λ (t : Bool). pick t (found done (write_item i ++ (write_sequence s ++ rest)))
      (items (read_item n (write_item i ++ (write_sequence s ++ rest))) (λ t. read_sequence n t)))
      (item-stays i (write_sequence s ++ rest))
      ∙ ap (λ (x : Found Item). items x (λ t. read_sequence n t))
      (complete-item i (write_sequence s ++ rest) n
      (plain-takes (repeat_of i) (write_sequence s ++ rest) (sequence-plain s rest h)) (omega arith))
      ∙ ap (following i) (complete-sequence s rest n h (omega arith))

  pub complete-item : (i : Item) (rest : List ℕ) (n : ℕ) → T (takes_all (repeat_of i) rest) → depth_item i ≤ n → read_item n (write_item i ++ rest) ≡ found i rest
  complete-item (single b p r) rest zero h d = absurd (omega arith)
  complete-item (single b p r) rest (suc n) h d = single-found n b p r rest h
  complete-item (any r) rest zero h d = absurd (omega arith)
  complete-item (any r) rest (suc n) h d = complete-repeated any r rest h
  complete-item (group c r) rest zero h d = absurd (omega arith)
  complete-item (group c r) rest (suc n) h d =
      ap (λ (x : List ℕ). closed (read_choice n x)) (append_assoc (write_choice c) (41 ∷ write_repeat r) rest)
      ∙ ap closed (complete-choice c (41 ∷ (write_repeat r ++ rest)) n tt (omega arith))
      ∙ complete-repeated (group c) r rest h

-- ## What is found is written

sound-repeated : (make : Repeat → Item) (s : List ℕ) (i : Item) (rest : List ℕ) → repeated make s ≡ found i rest
    → (r : Repeat) × (i ≡ make r) × (write_repeat r ++ rest ≡ s)
sound-repeated make [] i rest e = (once, cc, cc)
sound-repeated make (b ∷ bs) i rest e = by (eqb b 42) (eqb b 43) (eqb b 63) refl refl refl e
  where
    by : (x y z : Bool) → eqb b 42 ≡ x → eqb b 43 ≡ y → eqb b 63 ≡ z
        → pick x (found (make star) bs)
        (pick y (found (make plus) bs) (pick z (found (make optional) bs) (found (make once) (b ∷ bs))))
        ≡ found i rest → (r : Repeat) × (i ≡ make r) × (write_repeat r ++ rest ≡ b ∷ bs)
    by true y z p q t k = let same : b ≡ 42 = eqb→eq b 42 (true-T (eqb b 42) p) in (star, cc, cc)
    by false true z p q t k = let same : b ≡ 43 = eqb→eq b 43 (true-T (eqb b 43) q) in (plus, cc, cc)
    by false false true p q t k = let same : b ≡ 63 = eqb→eq b 63 (true-T (eqb b 63) t) in (optional, cc, cc)
    by false false false p q t k = (once, cc, cc)

sound-closed : (x : Found Choice) (bs : List ℕ) (i : Item) (rest : List ℕ)
    → ((c : Choice) (t : List ℕ) → x ≡ found c t → write_choice c ++ t ≡ bs) → closed x ≡ found i rest
    → write_item i ++ rest ≡ 40 ∷ bs
sound-closed missing bs i rest f e = absurd (let z : ◌≡◌ {A = ℕ} 0 1 = cc in omega arith)
sound-closed (found c []) bs i rest f e = absurd (let z : ◌≡◌ {A = ℕ} 0 1 = cc in omega arith)
sound-closed (found c (b ∷ t)) bs i rest f e = by (eqb b 41) refl e
  where
    by : (x : Bool) → eqb b 41 ≡ x → pick x (repeated (group c) t) missing ≡ found i rest → write_item i ++ rest ≡ 40 ∷ bs
    by true p q =
        let same : b ≡ 41 = eqb→eq b 41 (true-T (eqb b 41) p) in
        let r = sound-repeated (group c) t i rest q in
        ap (λ (x : Item). write_item x ++ rest) r.1
        ∙ ap {B = List ℕ} (λ x. 40 ∷ x)
        (append_assoc (write_choice c) (41 ∷ write_repeat r.0) rest
        ∙ ap (λ (x : List ℕ). write_choice c ++ (41 ∷ x)) r.2
        ∙ ap (λ (x : ℕ). write_choice c ++ (x ∷ t)) (sym same) ∙ f c (b ∷ t) refl)
    by false p q = absurd (let z : ◌≡◌ {A = ℕ} 0 1 = cc in omega arith)

sound-single : (b : ℕ) (bs : List ℕ) (t : Bool) (make : T t → Repeat → Item)
    → ((h : T t) (r : Repeat) → write_item (make h r) ≡ b ∷ write_repeat r) → (i : Item) (rest : List ℕ)
    → of_test t (λ h. repeated (make h) bs) ≡ found i rest → write_item i ++ rest ≡ b ∷ bs
sound-single b bs true make w i rest e =
    let r = sound-repeated (make tt) bs i rest e in
    ap (λ (x : Item). write_item x ++ rest) r.1 ∙ ap (λ (x : List ℕ). x ++ rest) (w tt r.0) ∙ ap {B = List ℕ} (λ x. b ∷ x) r.2
sound-single b bs false make w i rest e = absurd (let z : ◌≡◌ {A = ℕ} 0 1 = cc in omega arith)

sound-items : (x : Found Item) (more : List ℕ → Found Sequence) (s : List ℕ) (q : Sequence) (rest : List ℕ)
    → ((i : Item) (t : List ℕ) → x ≡ found i t → write_item i ++ t ≡ s)
    → ((t : List ℕ) (p : Sequence) (u : List ℕ) → more t ≡ found p u → write_sequence p ++ u ≡ t)
    → items x more ≡ found q rest → write_sequence q ++ rest ≡ s
sound-items missing more s q rest f g e = absurd (let z : ◌≡◌ {A = ℕ} 0 1 = cc in omega arith)
sound-items (found i t) more s q rest f g e = by (more t) refl e
  where
    by : (y : Found Sequence) → more t ≡ y → following i y ≡ found q rest → write_sequence q ++ rest ≡ s
    by missing p k = absurd (let z : ◌≡◌ {A = ℕ} 0 1 = cc in omega arith)
    by (found p u) k h =
        let tree : q ≡ then i p = cc in
        let same : rest ≡ u = cc in
        rw (tree, same) (append_assoc (write_item i) (write_sequence p) u ∙ ap (λ (x : List ℕ). write_item i ++ x) (g t p u k) ∙ f i t refl)

sound-alternatives : (x : Found Sequence) (more : List ℕ → Found Choice) (s : List ℕ) (c : Choice) (rest : List ℕ)
    → ((q : Sequence) (t : List ℕ) → x ≡ found q t → write_sequence q ++ t ≡ s)
    → ((t : List ℕ) (d : Choice) (u : List ℕ) → more t ≡ found d u → write_choice d ++ u ≡ t)
    → alternatives x more ≡ found c rest → write_choice c ++ rest ≡ s
sound-alternatives missing more s c rest f g e = absurd (let z : ◌≡◌ {A = ℕ} 0 1 = cc in omega arith)
sound-alternatives (found q []) more s c rest f g e =
    let tree : c ≡ last q = cc in
    let same : rest ≡ [] = cc in
    rw (tree, same) (f q [] refl)
sound-alternatives (found q (b ∷ bs)) more s c rest f g e = by (eqb b 124) refl e
  where
    deeper : b ≡ 124 → (y : Found Choice) → more bs ≡ y → another q y ≡ found c rest → write_choice c ++ rest ≡ s
    deeper same missing p k = absurd (let z : ◌≡◌ {A = ℕ} 0 1 = cc in omega arith)
    deeper same (found d u) p k =
        let tree : c ≡ or q d = cc in
        let end : rest ≡ u = cc in
        rw (tree, end)
        (append_assoc (write_sequence q) (124 ∷ write_choice d) u
        ∙ ap (λ (x : List ℕ). write_sequence q ++ (124 ∷ x)) (g bs d u p)
        ∙ ap (λ (x : ℕ). write_sequence q ++ (x ∷ bs)) (sym same) ∙ f q (b ∷ bs) refl)

    by : (x : Bool) → eqb b 124 ≡ x → pick x (another q (more bs)) (found (last q) (b ∷ bs)) ≡ found c rest → write_choice c ++ rest ≡ s
    by true p k = deeper (eqb→eq b 124 (true-T (eqb b 124) p)) (more bs) refl k
    by false p k =
        let tree : c ≡ last q = cc in
        let end : rest ≡ b ∷ bs = cc in
        rw (tree, end) (f q (b ∷ bs) refl)

sound-ends : (t : Bool) (s : List ℕ) (x : Found Sequence) (q : Sequence) (rest : List ℕ)
    → (x ≡ found q rest → write_sequence q ++ rest ≡ s) → pick t (found done s) x ≡ found q rest
    → write_sequence q ++ rest ≡ s
sound-ends true s x q rest f e =
    let tree : q ≡ done = cc in
    let end : rest ≡ s = cc in
    rw (tree, end)
sound-ends false s x q rest f e = f e

sound-front : (b : ℕ) (bs : List ℕ) (x : Found Item) (i : Item) (rest : List ℕ)
    → (x ≡ found i rest → write_item i ++ rest ≡ 40 ∷ bs)
    → pick (eqb b 40) x (pick (eqb b 46) (repeated any bs) (of_test (is_single b) (λ h. repeated (single b h) bs)))
    ≡ found i rest → write_item i ++ rest ≡ b ∷ bs
sound-front b bs x i rest f e = by (eqb b 40) (eqb b 46) refl refl e
  where
    by : (p q : Bool) → eqb b 40 ≡ p → eqb b 46 ≡ q
        → pick p x (pick q (repeated any bs) (of_test (is_single b) (λ h. repeated (single b h) bs))) ≡ found i rest
        → write_item i ++ rest ≡ b ∷ bs
    by true q u v k = f k ∙ ap {B = List ℕ} (λ y. y ∷ bs) (sym (eqb→eq b 40 (true-T (eqb b 40) u)))
    by false true u v k =
        let r = sound-repeated any bs i rest k in
        ap (λ (y : Item). write_item y ++ rest) r.1 ∙ ap {B = List ℕ} (λ y. 46 ∷ y) r.2
        ∙ ap {B = List ℕ} (λ y. y ∷ bs) (sym (eqb→eq b 46 (true-T (eqb b 46) v)))
    by false false u v k = sound-single b bs (is_single b) (λ h. single b h) (λ h r. refl) i rest k

mutual
  unfolding read_choice

  pub sound-choice : (n : ℕ) (s : List ℕ) (c : Choice) (rest : List ℕ) → read_choice n s ≡ found c rest → write_choice c ++ rest ≡ s
  sound-choice zero s c rest e = absurd (let z : ◌≡◌ {A = ℕ} 0 1 = cc in omega arith)
  sound-choice (suc n) s c rest e = sound-alternatives (read_sequence n s) (λ t. read_choice n t) s c rest
      (λ q t k. sound-sequence n s q t k) (λ t d u k. sound-choice n t d u k) e

  pub sound-sequence : (n : ℕ) (s : List ℕ) (q : Sequence) (rest : List ℕ) → read_sequence n s ≡ found q rest → write_sequence q ++ rest ≡ s
  sound-sequence zero s q rest e = absurd (let z : ◌≡◌ {A = ℕ} 0 1 = cc in omega arith)
  sound-sequence (suc n) s q rest e =
      sound-ends (ends_sequence s) s (items (read_item n s) (λ t. read_sequence n t)) q rest
      (λ k. sound-items (read_item n s) (λ t. read_sequence n t) s q rest (λ i t h. sound-item n s i t h) (λ t p u h. sound-sequence n t p u h) k) e

  pub sound-item : (n : ℕ) (s : List ℕ) (i : Item) (rest : List ℕ) → read_item n s ≡ found i rest → write_item i ++ rest ≡ s
  sound-item zero s i rest e = absurd (let z : ◌≡◌ {A = ℕ} 0 1 = cc in omega arith)
  sound-item (suc n) [] i rest e = absurd (let z : ◌≡◌ {A = ℕ} 0 1 = cc in omega arith)
  sound-item (suc n) (b ∷ bs) i rest e = sound-front b bs (closed (read_choice n bs)) i rest
      (λ k. sound-closed (read_choice n bs) bs i rest (λ c t h. sound-choice n bs c t h) k) e
