-- What `accepts_choice` computes is the language, on every text and both ways, by induction over the tree. Of the texts
-- that `*` joins the empty ones can be left out, so that they are at most as many as the characters. On empty text it is
-- what the check computes, `empty_choice`. Assumes nothing.
use Prim.Native.Nat.{ℕ, zero, suc, ◌≤◌}
use mathlib.Core.Path.{◌≡◌, refl, sym, ap, ap₂, subst, ◌∙◌}
use mathlib.Core.Bool.{Bool, true, false, ◌||◌, ◌&&◌, or-false, and-true}
use mathlib.Core.Logic.{◌↔◌, ◌⊎◌, inl, inr, ⊎_elim}
use mathlib.Core.List.{List, [], ◌∷◌, ◌++◌, map, flatten, cons-ne-nil}
use native.Mathlib.Omega.{arith}
use lib.ListN.{length, length-append}
use lib.Dec.{T, eqb, eqb→eq, eqb_refl}
use Rattle.page.specs.Allowed.{Each}
use Rattle.page.specs.Bytes.{is_empty, any as any_of}
use Rattle.page.proofs.NumberLaws.{left-of, right_of}
use Rattle.patterns.specs.Pattern.{Repeat, once, star, plus, optional, Choice, last, or, Sequence, done, then}
use Rattle.patterns.specs.Pattern.{Item, single, any, group}
use Rattle.patterns.specs.Language.{Characters, Just, AnyOne, is_any, Repeated, InChoice, InSequence, InItem}
use Rattle.patterns.specs.Search.{empty_repeated, empty_choice, empty_sequence, empty_item}
use Rattle.patterns.specs.Accepts.{is_one, cuts, in_two, in_many, accepts_repeated, accepts_choice, accepts_sequence}
use Rattle.patterns.specs.Accepts.{accepts_item}

-- the test passes at the texts of the language, and at no others
abbrev Decides : (Characters → Bool) → (Characters → Type 0) → Type 0
Decides test L = (t : Characters) → T (test t) ↔ L t

-- ## Tests

or-in : {A B : Type 0} (a b : Bool) → (T a → A) → (T b → B) → T (a || b) → A ⊎ B
or-in true b f g h = inl (f tt)
or-in false b f g h = inr (g h)

or-out : {A B : Type 0} (a b : Bool) → (A → T a) → (B → T b) → A ⊎ B → T (a || b)
or-out true b f g h = tt
or-out false b f g (inl x) = absurd (f x)
or-out false b f g (inr y) = g y

and_both : (a b : Bool) → T a → T b → T (a && b)
and_both true b h k = k
and_both false b h k = absurd h

either-language : {A B : Type 0} (a b : Bool) → T a ↔ A → T b ↔ B → T (a || b) ↔ (A ⊎ B)
either-language a b f g = (or-in a b f.0 g.0, or-out a b f.1 g.1)

is_empty-language : Decides (λ t. is_empty t) (λ t. t ≡ [])
is_empty-language [] = (λ h. refl, λ e. tt)
is_empty-language (x ∷ t) = (λ h. absurd h, λ e. absurd (cons-ne-nil x t e))

is_one-language : (test : ℕ → Bool) → Decides (is_one test) (λ t. (x : ℕ) × (t ≡ x ∷ []) × T (test x))
is_one-language test t = (there t, λ h. subst (λ (u : Characters). T (is_one test u)) (sym h.1) h.2)
  where
    there : (t : Characters) → T (is_one test t) → (x : ℕ) × (t ≡ x ∷ []) × T (test x)
    there [] h = absurd h
    there (x ∷ []) h = (x, refl, h)
    there (x ∷ y ∷ t) h = absurd h

just-language : (b : ℕ) → Decides (is_one (eqb b)) (Just b)
just-language b t = (there, λ e. (is_one-language (eqb b) t).1 (b, e, eqb_refl b))
  where
    there : T (is_one (eqb b) t) → t ≡ b ∷ []
    there h =
        let one = (is_one-language (eqb b) t).0 h in
        let itself : b ≡ one.0 = eqb→eq b one.0 one.2 in
        cc

-- ## cuts

any-map : {A B : Type 0} (test : B → Bool) (f : A → B) (l : List A) → any_of test (map f l) ≡ any_of (λ a. test (f a)) l
any-map test f [] = refl
any-map test f (x ∷ l) = ap (λ (b : Bool). test (f x) || b) (any-map test f l)

-- the test on a cut behind one more character
abbrev behind : (Characters × Characters → Bool) → ℕ → Characters × Characters → Bool
behind test x p = test (x ∷ p.0, p.1)

cuts-more : (test : Characters × Characters → Bool) (x : ℕ) (t : Characters)
    → any_of test (cuts (x ∷ t)) ≡ (test ([], x ∷ t) || any_of (behind test x) (cuts t))
cuts-more test x t = ap (λ (b : Bool). test ([], x ∷ t) || b) (any-map test (λ p. (x ∷ p.0, p.1)) (cuts t))

cuts-in : (test : Characters × Characters → Bool) (t : Characters) → T (any_of test (cuts t))
    → (u : Characters) × (v : Characters) × T (test (u, v)) × (u ++ v ≡ t)
cuts-in test [] h = ([], [], subst T (or-false (test ([], []))) h, refl)
cuts-in test (x ∷ t) h =
    ⊎_elim (λ k. ([], x ∷ t, k, refl))
    (λ k.
    let cut = cuts-in (behind test x) t k in
    (x ∷ cut.0, cut.1, cut.2, ap {B = Characters} (λ r. x ∷ r) cut.3))
    (or-in (test ([], x ∷ t)) (any_of (behind test x) (cuts t)) (λ k. k) (λ k. k) (subst T (cuts-more test x t) h))

cuts-out : (test : Characters × Characters → Bool) (u v : Characters) → T (test (u, v)) → T (any_of test (cuts (u ++ v)))
cuts-out test [] [] h = or-out (test ([], [])) _ (λ k. k) (λ k. k) (inl h)
cuts-out test [] (y ∷ v) h = or-out (test ([], y ∷ v)) _ (λ k. k) (λ k. k) (inl h)
cuts-out test (x ∷ u) v h =
    subst T (sym (cuts-more test x (u ++ v)))
    (or-out (test ([], x ∷ (u ++ v))) _ (λ k. k) (λ k. k) (inr (cuts-out (behind test x) u v h)))

-- ## in_two, in_many

module _ (f g : Characters → Bool) (A B : Characters → Type 0) (first : Decides f A) (second : Decides g B) where
  in_two-language : Decides (in_two f g) (λ t. (u : Characters) × (v : Characters) × A u × B v × (u ++ v ≡ t))
  in_two-language t = (there, back)
    where
      there : T (in_two f g t) → (u : Characters) × (v : Characters) × A u × B v × (u ++ v ≡ t)
      there h =
          let cut = cuts-in (λ p. f p.0 && g p.1) t h in
          let passed = cut.2 in
          let u = cut.0 in
          let v = cut.1 in
          (u, v, (first u).0 (left-of (f u) (g v) passed), (second v).0 (right_of (f u) (g v) passed), cut.3)

      back : (u : Characters) × (v : Characters) × A u × B v × (u ++ v ≡ t) → T (in_two f g t)
      back h =
          let u = h.0 in
          let v = h.1 in
          subst (λ (x : Characters). T (in_two f g x)) h.4
          (cuts-out (λ p. f p.0 && g p.1) u v (and_both (f u) (g v) ((first u).1 h.2) ((second v).1 h.3)))

module _ (test : Characters → Bool) (L : Characters → Type 0) (decides : Decides test L) where
  in_many-in : (n : ℕ) (t : Characters) → T (in_many test n t) → Repeated star L t
  unfolding flatten
  in_many-in zero [] h = ([], tt, refl)
  in_many-in zero (x ∷ t) h = absurd h
  in_many-in (suc n) [] h = ([], tt, refl)
  in_many-in (suc n) (x ∷ t) h =
      let cut = cuts-in (λ p. test (x ∷ p.0) && in_many test n p.1) t h in
      let u = x ∷ cut.0 in
      let v = cut.1 in
      let more = in_many-in n v (right_of (test u) (in_many test n v) cut.2) in (
        u ∷ more.0,
        ((decides u).0 (left-of (test u) (in_many test n v) cut.2), more.1),
        ap (λ (r : Characters). u ++ r) more.2 ∙ ap {B = Characters} (λ r. x ∷ r) cut.3,
      )

  -- an empty text among those that are joined changes nothing
  in_many-out : (ts : List Characters) (n : ℕ) → Each L ts → length (flatten ts) ≤ n → T (in_many test n (flatten ts))
  unfolding flatten
  in_many-out [] zero h e = tt
  in_many-out [] (suc n) h e = tt
  in_many-out ([] ∷ ts) n h e = in_many-out ts n h.1 e
  in_many-out ((x ∷ u) ∷ ts) zero h e = absurd (omega arith)
  in_many-out ((x ∷ u) ∷ ts) (suc n) h e =
      cuts-out (λ p. test (x ∷ p.0) && in_many test n p.1) u (flatten ts)
      (and_both (test (x ∷ u)) (in_many test n (flatten ts)) ((decides (x ∷ u)).1 h.0)
      (in_many-out ts n h.1 (omega (arith, length-append u (flatten ts)))))

  star-language : Decides (accepts_repeated star test) (Repeated star L)
  star-language t = (
    in_many-in (length t) t,
    λ h. subst (λ (x : Characters). T (in_many test (length x) x)) h.2
        (in_many-out h.0 (length (flatten h.0)) h.1 (omega arith)),
  )

  plus-language : Decides (accepts_repeated plus test) (Repeated plus L)
  plus-language t = (there, back)
    where
      cut : T (accepts_repeated plus test t)
          ↔ ((u : Characters) × (v : Characters) × L u × Repeated star L v × (u ++ v ≡ t))
      cut = in_two-language test (accepts_repeated star test) L (Repeated star L) decides star-language t

      there : T (accepts_repeated plus test t) → Repeated plus L t
      there h = let r = cut.0 h in (r.0, r.3.0, r.2, r.3.1, ap (λ (v : Characters). r.0 ++ v) r.3.2 ∙ r.4)

      back : Repeated plus L t → T (accepts_repeated plus test t)
      back h = cut.1 (h.0, flatten h.1, h.2, (h.1, h.3, refl), h.4)

  accepts_repeated-language : (r : Repeat) → Decides (accepts_repeated r test) (Repeated r L)
  accepts_repeated-language once t = decides t
  accepts_repeated-language star t = star-language t
  accepts_repeated-language plus t = plus-language t
  accepts_repeated-language optional t = either-language (is_empty t) (test t) (is_empty-language t) (decides t)

-- ## Trees

mutual
  pub accepts_choice-language : (c : Choice) (t : Characters) → T (accepts_choice c t) ↔ InChoice c t
  accepts_choice-language (last s) t = accepts_sequence-language s t
  accepts_choice-language (or s c) t =
      either-language (accepts_sequence s t) (accepts_choice c t)
      (accepts_sequence-language s t) (accepts_choice-language c t)

  pub accepts_sequence-language : (s : Sequence) (t : Characters) → T (accepts_sequence s t) ↔ InSequence s t
  accepts_sequence-language done t = is_empty-language t
  accepts_sequence-language (then i s) t =
      in_two-language (λ u. accepts_item i u) (λ v. accepts_sequence s v) (λ u. InItem i u) (λ v. InSequence s v)
      (λ u. accepts_item-language i u) (λ v. accepts_sequence-language s v) t

  pub accepts_item-language : (i : Item) (t : Characters) → T (accepts_item i t) ↔ InItem i t
  accepts_item-language (single b h r) t = accepts_repeated-language (is_one (eqb b)) (Just b) (just-language b) r t
  accepts_item-language (any r) t = accepts_repeated-language (is_one is_any) AnyOne (is_one-language is_any) r t
  accepts_item-language (group c r) t =
      accepts_repeated-language (λ u. accepts_choice c u) (λ u. InChoice c u) (λ u. accepts_choice-language c u) r t

-- ## Empty text

repeated-empty : (r : Repeat) (test : Characters → Bool) → accepts_repeated r test [] ≡ empty_repeated r (test [])
repeated-empty once test = refl
repeated-empty star test = refl
repeated-empty plus test = or-false (test [] && true) ∙ and-true (test [])
repeated-empty optional test = refl

mutual
  choice-empty : (c : Choice) → accepts_choice c [] ≡ empty_choice c
  choice-empty (last s) = sequence-empty s
  choice-empty (or s c) = ap₂ (λ (a b : Bool). a || b) (sequence-empty s) (choice-empty c)

  sequence-empty : (s : Sequence) → accepts_sequence s [] ≡ empty_sequence s
  sequence-empty done = refl
  sequence-empty (then i s) =
      or-false (accepts_item i [] && accepts_sequence s [])
      ∙ ap₂ (λ (a b : Bool). a && b) (item-empty i) (sequence-empty s)

  item-empty : (i : Item) → accepts_item i [] ≡ empty_item i
  item-empty (single b h r) = repeated-empty r (is_one (eqb b))
  item-empty (any r) = repeated-empty r (is_one is_any)
  item-empty (group c r) = repeated-empty r (λ u. accepts_choice c u) ∙ ap (empty_repeated r) (choice-empty c)

pub empty_choice-language : (c : Choice) → T (empty_choice c) ↔ InChoice c []
empty_choice-language c = subst (λ (b : Bool). T b ↔ InChoice c []) (choice-empty c) (accepts_choice-language c [])
