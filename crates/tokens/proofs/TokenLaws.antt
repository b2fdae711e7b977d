-- The tables hold the tokens of the codes: one computed test over all places. Assumes nothing.
use Prim.Native.Nat.{ℕ, ◌+◌, ◌-◌, ◌≤◌, ◌<◌}
use native.Mathlib.Omega.{arith}
use mathlib.Core.Bool.{Bool}
use mathlib.Core.List.{List, [], ◌∷◌}
use mathlib.Core.Path.{◌≡◌, refl, sym, ap, ◌∙◌}
use lib.Dec.{T, leb, eqb, eqb→eq, leb→le}
use lib.ListN.{length, get_or, take, drop, length-drop, get_or-eq_default}
use lib.Seq.{get_or-take, length-take-le}
use Rattle.base.proofs.Table.{at}
use Rattle.page.specs.Bytes.{equal, bytes}
use Rattle.page.proofs.NumberLaws.{left-of, right_of}
use Rattle.records.specs.Code.{tokens, token}
use Rattle.tokens.specs.Tokens.{letters, starts, token_at}

-- ## The tables

-- at place i begins token i + 1; the next begins after it, at most 12 letters further and within the letters
spells : ℕ → ℕ → Bool
spells i x = equal (take (get_or starts (i + 1) 0 - x) (drop x letters)) (bytes (get_or tokens i ""))

ordered : ℕ → ℕ → Bool
ordered i x = leb x (get_or starts (i + 1) 0)

short : ℕ → ℕ → Bool
short i x = leb (get_or starts (i + 1) 0 - x) 12

inside : ℕ → ℕ → Bool
inside i x = leb (get_or starts (i + 1) 0) (length letters)

equal-same : (a b : List ℕ) → T (equal a b) → a ≡ b
equal-same [] [] t = refl
equal-same [] (y ∷ ys) t = absurd t
equal-same (x ∷ xs) [] t = absurd t
equal-same (x ∷ xs) (y ∷ ys) t =
    let e = eqb→eq x y (left-of (eqb x y) (equal xs ys) t) in
    rw e (ap (λ (l : List ℕ). y ∷ l) (equal-same xs ys (right_of (eqb x y) (equal xs ys) t)))

-- the first 31 places; after the last one stands its end
places : List ℕ
places = take 31 starts

pub record TokenPlaced (i : ℕ) : Type 0 where
  pub token : token_at i ≡ bytes (get_or tokens i "")
  pub ordered : get_or starts i 0 ≤ get_or starts (i + 1) 0
  pub short : get_or starts (i + 1) 0 - get_or starts i 0 ≤ 12
  pub inside : get_or starts (i + 1) 0 ≤ length letters

same_place : (i : ℕ) → i < 31 → get_or places i 0 ≡ get_or starts i 0
unfolding places
same_place i h = get_or-take 31 starts i 0 h

pub placed : (i : ℕ) → i < 31 → TokenPlaced i
unfolding spells ordered short inside places token_at
placed i h =
    let e = same_place i h in
    let begins : T (spells i (get_or starts i 0)) = rw (← e) (at spells places tt i h) in
    let goes_on : T (ordered i (get_or starts i 0)) = rw (← e) (at ordered places tt i h) in
    let near : T (short i (get_or starts i 0)) = rw (← e) (at short places tt i h) in
    let within : T (inside i (get_or starts i 0)) = at inside places tt i h in
    record {
      token = equal-same _ _ begins;
      ordered = leb→le _ _ goes_on;
      short = leb→le _ _ near;
      inside = leb→le _ _ within;
    }

-- ## place_of

pub place-zero : (c : ℕ) → c ≡ 0 → token_at 0 ≡ token c
place-zero c e = (placed 0 (omega arith)).token ∙ rw e

pub place-past : (c : ℕ) → 30 < c → token_at 30 ≡ token c
place-past c h = (placed 30 (omega arith)).token ∙ ap bytes (sym (get_or-eq_default tokens "" {n = c - 1} (omega arith)))

pub place-code : (c : ℕ) → c ≤ 30 → (c ≡ 0 → ⊥) → token_at (c - 1) ≡ token c
place-code c h n = (placed (c - 1) (omega arith)).token

-- ## token_at

pub length-token_at : (i : ℕ) → i < 31 → length (token_at i) ≡ get_or starts (i + 1) 0 - get_or starts i 0
unfolding token_at
length-token_at i h =
    let p = placed i h in
    length-take-le _ (drop (get_or starts i 0) letters) (let e = length-drop (get_or starts i 0) letters in omega (arith, p.inside, p.ordered))
