-- Putting printed matchers in order: `insert` of texts and `placed` keep step, so `sort` is met with no law of the order.
-- Assumes nothing.
use Prim.Native.Nat.{ℕ, zero, suc, ◌+◌, ◌-◌, ◌≤◌, ◌<◌}
use native.Mathlib.Nat.{le_of_suc-le-suc, not-suc-le-zero}
use native.Mathlib.Numerals.{add-one}
use native.Mathlib.Omega.{arith}
use mathlib.Core.Bool.{Bool, true, false}
use mathlib.Core.List.{List, [], ◌∷◌, ◌++◌, append_assoc}
use mathlib.Core.Path.{◌≡◌, refl, sym, ap, ◌∙◌, subst}
use lib.ListN.{length, get_or, take, drop, set, drop_of_length-le, length-set}
use lib.Seq.{get_or-take, take-take, drop-cons, drop_at, take_at, drop-set-lt, take-suc-set, set_split, length-take-le}
use Rattle.base.proofs.Cases.{by_flag}
use Rattle.label.specs.Label.{at_most, insert, sort}
use Rattle.label.specs.Symbols.{placed}
use Rattle.label.specs.Printed.{printed_text, Prints, AllPrint, printed_texts, Sorts}
use Rattle.label.specs.declared.printed.Printed.{Printed}

-- ## placed

here : {A : Type 0} (f : A → List ℕ) (h k : A) (ks : List A) → at_most (f h) (f k) ≡ true → placed f h (k ∷ ks) ≡ h ∷ k ∷ ks
unfolding placed
here f h k ks e = rw e

later : {A : Type 0} (f : A → List ℕ) (h k : A) (ks : List A) → at_most (f h) (f k) ≡ false → placed f h (k ∷ ks) ≡ k ∷ placed f h ks
unfolding placed
later f h k ks e = rw e

alone : {A : Type 0} (f : A → List ℕ) (h : A) → placed f h [] ≡ h ∷ []
unfolding placed
alone f h = refl

-- the texts of those so placed
placed-texts : (page : List ℕ) (h : Printed) (ks : List Printed) → printed_texts page (placed (printed_text page) h ks) ≡ insert (printed_text page h) (printed_texts page ks)
unfolding placed insert printed_texts
placed-texts page h [] = refl
placed-texts page h (k ∷ ks) =
    by_flag (at_most (printed_text page h) (printed_text page k)) (λ e. rw e)
    (λ e. rw e (ap (λ (l : List (List ℕ)). printed_text page k ∷ l) (placed-texts page h ks)))

placed-print : (page : List ℕ) (f : Printed → List ℕ) (h : Printed) (ks : List Printed) → Prints page h → AllPrint page ks → AllPrint page (placed f h ks)
unfolding placed AllPrint
placed-print page f h [] g b = (g, tt)
placed-print page f h (k ∷ ks) g (b, bs) =
    by_flag (at_most (f h) (f k)) (λ e. rw e (g, (b, bs))) (λ e. rw e (b, placed-print page f h ks g bs))

-- ## AllPrint

pub print-at : (page : List ℕ) (none : Printed) (l : List Printed) (i : ℕ) → AllPrint page l → i < length l → Prints page (get_or l i none)
unfolding AllPrint
print-at page none [] i b h = absurd (not-suc-le-zero h)
print-at page none (k ∷ l) zero (b, bs) h = b
print-at page none (k ∷ l) (suc i) (b, bs) h = print-at page none l i bs (le_of_suc-le-suc h)

-- ## The loop of `place`: the item is still to be put among those after j

pub record Placing (page : List ℕ) (item : Printed) (at : ℕ) (before present : List Printed) (j : ℕ) : Type 0 where
  pub inside : j < length present
  pub size : length present ≡ length before
  pub print : AllPrint page (drop (j + 1) present)
  pub goal : take j present ++ placed (printed_text page) item (drop (j + 1) present) ≡ take at before ++ placed (printed_text page) item (drop (at + 1) before)

pub place-start : (page : List ℕ) (item : Printed) (at : ℕ) (o : List Printed) → at < length o → AllPrint page (drop (at + 1) o) → Placing page item at o o at
place-start page item at o h b = record { inside = h; size = refl; print = b; goal = refl }

next : (none : Printed) (o : List Printed) (j : ℕ) → j + 1 < length o → drop (j + 1) o ≡ get_or o (j + 1) none ∷ drop (j + 1 + 1) o
next none o j h = rw (add-one (j + 1), ← drop-cons o (j + 1) none h)

pub next-print : (none : Printed) {page : List ℕ} {item : Printed} {at : ℕ} {before o : List Printed} {j : ℕ} → Placing page item at before o j → j + 1 < length o → Prints page (get_or o (j + 1) none)
unfolding AllPrint
next-print none {page} {o = o} {j = j} w h = (subst (AllPrint page) (next none o j h) w.print).0

take_next : (o : List Printed) (j : ℕ) (x : Printed) → j < length o → take (j + 1) (set o j x) ≡ take j o ++ (x ∷ [])
take_next o j x h = rw (add-one j) (take-suc-set o j x h)

-- r is what `printed_at_most` answered: the next one moves down
pub place-on : (none : Printed) {page : List ℕ} {item : Printed} {at : ℕ} {before o : List Printed} {j : ℕ} (r : Bool) → Placing page item at before o j → j + 1 < length o
    → r ≡ at_most (printed_text page item) (printed_text page (get_or o (j + 1) none)) → r ≡ false → Placing page item at before (set o j (get_or o (j + 1) none)) (j + 1)
unfolding AllPrint
place-on none {page} {item} {o = o} {j = j} r w h is no' =
    let f = printed_text page in
    let x = get_or o (j + 1) none in
    let rest : drop (j + 1 + 1) (set o j x) ≡ drop (j + 1 + 1) o = drop-set-lt (j + 1 + 1) o j x (omega arith) in
    let front : take (j + 1) (set o j x) ≡ take j o ++ (x ∷ []) = take_next o j x (omega arith) in
    record {
      inside = simp length-set h;
      size = simp length-set w.size;
      print = rw rest (subst (AllPrint page) (next none o j h) w.print).1;
      goal = rw (
        rest,
        front,
        append_assoc (take j o) (x ∷ []) (placed f item (drop (j + 1 + 1) o)),
        ← later f item x (drop (j + 1 + 1) o) (sym is ∙ no'),
        ← next none o j h,
      ) w.goal;
    }

-- stored at j, before what stands after it
pub place_here : (none : Printed) {page : List ℕ} {item : Printed} {at : ℕ} {before o : List Printed} {j : ℕ} (r : Bool) → Placing page item at before o j → j + 1 < length o
    → r ≡ at_most (printed_text page item) (printed_text page (get_or o (j + 1) none)) → r ≡ true
    → set o j item ≡ take at before ++ placed (printed_text page) item (drop (at + 1) before)
place_here none {page} {item} {o = o} {j = j} r w h is yes' =
    let f = printed_text page in
    set_split o j item w.inside
    ∙ rw (← add-one j, next none o j h, ← here f item (get_or o (j + 1) none) (drop (j + 1 + 1) o) (sym is ∙ yes'), ← next none o j h) w.goal

-- stored at j, the last place
pub place-last : {page : List ℕ} {item : Printed} {at : ℕ} {before o : List Printed} {j : ℕ} → Placing page item at before o j → length o ≤ j + 1
    → set o j item ≡ take at before ++ placed (printed_text page) item (drop (at + 1) before)
place-last {page} {item} {o = o} {j = j} w h =
    let f = printed_text page in
    let none : drop (j + 1) o ≡ [] = drop_of_length-le o h in
    set_split o j item w.inside ∙ rw (← add-one j, none) (sym (ap (λ (l : List Printed). take j o ++ l) (ap (placed f item) none ∙ alone f item)) ∙ w.goal)

-- ## The loop of `arrange`: those from i on are in order, those before are as they were

pub record Arranged (page : List ℕ) (before o : List Printed) (i : ℕ) : Type 0 where
  pub size : length o ≡ length before
  pub upto : i ≤ length before
  pub front : take i o ≡ take i before
  pub sorted : printed_texts page (drop i o) ≡ sort (printed_texts page (drop i before))
  pub print : AllPrint page (drop i o)

pub arrange-start : (page : List ℕ) (o : List Printed) → Arranged page o o (length o)
unfolding sort printed_texts AllPrint
arrange-start page o =
    let none : drop (length o) o ≡ [] = drop_of_length-le o {i = length o} (omega arith) in
    record { size = refl; upto = omega arith; front = refl; sorted = rw none; print = rw none tt }

-- what stands at k is what stood there at the start
same_place : (none : Printed) (o before : List Printed) (i k : ℕ) → take i o ≡ take i before → k < i → get_or o k none ≡ get_or before k none
same_place none o before i k e h = sym (get_or-take i o k none h) ∙ ap (λ (l : List Printed). get_or l k none) e ∙ get_or-take i before k none h

take_less : (o before : List Printed) (k : ℕ) → take (k + 1) o ≡ take (k + 1) before → take k o ≡ take k before
take_less o before k e = sym (take-take-less o) ∙ ap (take k) e ∙ take-take-less before
  where
    take-take-less : (l : List Printed) → take k (take (k + 1) l) ≡ take k l
    take-take-less l = take-take k (k + 1) l (omega arith)

pub arrange-on : (none : Printed) {page : List ℕ} {before o p : List Printed} {i k : ℕ} → AllPrint page before → Arranged page before o i → k + 1 ≡ i
    → p ≡ take k o ++ placed (printed_text page) (get_or o k none) (drop (k + 1) o) → length p ≡ length o → Arranged page before p k
unfolding sort printed_texts
arrange-on none {page} {before} {o} {p} {i} {k} good a e is same =
    let f = printed_text page in
    let s = a.size in
    let u = a.upto in
    let sized : length (take k o) ≡ k = length-take-le k o (omega arith) in
    let tail : drop k p ≡ placed f (get_or o k none) (drop (k + 1) o) = rw is (drop_at (take k o) _ k sized) in
    let head : take k p ≡ take k o = rw is (take_at (take k o) _ k sized) in
    let key : get_or o k none ≡ get_or before k none = same_place none o before i k a.front (omega arith) in
    let behind : drop k before ≡ get_or before k none ∷ drop (k + 1) before = rw (add-one k) (drop-cons before k none (omega arith)) in
    let ordered : printed_texts page (drop (k + 1) o) ≡ sort (printed_texts page (drop (k + 1) before)) = rw e a.sorted in
    record {
      size = same ∙ a.size;
      upto = omega arith;
      front = head ∙ take_less o before k (rw e a.front);
      sorted = rw (tail, behind) (placed-texts page (get_or o k none) (drop (k + 1) o) ∙ rw (ordered, key));
      print = rw tail (placed-print page f (get_or o k none) (drop (k + 1) o) (rw key (print-at page none before k good (omega arith))) (rw e a.print));
    }

pub arrange-end : {page : List ℕ} {before o : List Printed} {i : ℕ} → Arranged page before o i → i ≡ 0 → Sorts page before o
arrange-end a e = record { sorted = rw e at a.sorted; print = rw e at a.print }

-- those after place i - 1 print, and what stands there does
pub behind-print : {page : List ℕ} {before o : List Printed} {i : ℕ} → Arranged page before o i → 0 < i → AllPrint page (drop (i - 1 + 1) o)
behind-print {i = i} a h = let e : i - 1 + 1 ≡ i = omega arith in rw e a.print

pub own_print : (none : Printed) {page : List ℕ} {before o : List Printed} {i : ℕ} → AllPrint page before → Arranged page before o i → 0 < i → Prints page (get_or o (i - 1) none)
own_print none {page} {before} {o} {i} good a h =
    let u = a.upto in
    rw (same_place none o before i (i - 1) a.front (omega arith)) (print-at page none before (i - 1) good (omega arith))
