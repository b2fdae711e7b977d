-- Texts put together from well-formed ones are well-formed: printed texts are made so. Assumes nothing.
use Prim.Native.Nat.{ℕ, ◌≤◌, ◌<◌}
use Prim.Native.String.{String}
use native.Mathlib.Omega.{arith}
use mathlib.Core.Path.{◌≡◌, sym, subst}
use mathlib.Core.Bool.{Bool, true, false, ◌&&◌, ◌||◌}
use mathlib.Core.List.{List, [], ◌∷◌, ◌++◌}
use mathlib.Core.Option.{Option, none, some}
use lib.Dec.{T, leb, eqb, leb→le, eqb→eq}
use Rattle.page.specs.Bytes.{pick, bytes, all, between, join_rest, join}
use Rattle.page.specs.Allowed.{Each}
use Rattle.page.specs.Text.{Text, is_digit, is_alpha, is_alpha_numeric, is_name, is_label, is_selector_name, is_text}
use Rattle.page.specs.Utf8.{Range, holds, Row, rows, following_in, following, begun, is_utf8_after}
use Rattle.page.proofs.NumberLaws.{left-of, right_of}
use Rattle.page.proofs.Utf8Laws.{byte-skip}

pub record WellFormed (t : List ℕ) : Type 0 where
  pub passes : T (is_text t)

-- ## Put together

-- a text with bytes due before whole characters
after-append : (due : List Range) (t u : List ℕ) → T (is_text u) → T (is_utf8_after due t) → T (is_utf8_after due (t ++ u))
after-append [] [] u k h = k
after-append (r ∷ due) [] u k h = absurd h
after-append [] (c ∷ t) u k h = by (following c) (λ due. after-append due t u k) h
  where
    by : (o : Option (List Range)) → ((due : List Range) → T (is_utf8_after due t) → T (is_utf8_after due (t ++ u)))
        → T (begun o (λ due. is_utf8_after due t)) → T (begun o (λ due. is_utf8_after due (t ++ u)))
    by none more h = absurd h
    by (some due) more h = more due h
after-append (r ∷ due) (c ∷ t) u k h = by (holds r c) (after-append due t u k) h
  where
    by : (b : Bool) → (T (is_utf8_after due t) → T (is_utf8_after due (t ++ u))) → T (b && is_utf8_after due t)
        → T (b && is_utf8_after due (t ++ u))
    by true more h = more h
    by false more h = absurd h

pub text-append : {t u : List ℕ} → WellFormed t → WellFormed u → WellFormed (t ++ u)
text-append {t} {u} h k = record { passes = after-append [] t u k.passes h.passes }

pub text-empty : WellFormed []
text-empty = record { passes = tt }

-- a word of the language, by computation
pub text-word : (w : String) → T (is_text (bytes w)) → WellFormed (bytes w)
text-word w h = record { passes = h }

pub text-pick : (b : Bool) {t u : List ℕ} → WellFormed t → WellFormed u → WellFormed (pick b t u)
text-pick true h k = h
text-pick false h k = k

-- a byte below 128 before a text
pub text-byte : {c : ℕ} {t : List ℕ} → c < 128 → WellFormed t → WellFormed (c ∷ t)
text-byte {c} {t} l h = record { passes = subst T (sym (byte-skip c t l)) h.passes }

-- texts with a separator between each two
pub text-join_rest : (ts : List (List ℕ)) {sep : List ℕ} → WellFormed sep → Each WellFormed ts
    → WellFormed (join_rest sep ts)
text-join_rest [] s h = text-empty
text-join_rest (t ∷ ts) s h = text-append (text-append s h.0) (text-join_rest ts s h.1)

pub text-join : (ts : List (List ℕ)) {sep : List ℕ} → WellFormed sep → Each WellFormed ts → WellFormed (join sep ts)
text-join [] s h = text-empty
text-join (t ∷ ts) s h = text-append h.0 (text-join_rest ts s h.1)

-- ## The bytes that are due lie above 127

abbrev pub are_high : List Range → Bool
are_high = all (λ r. leb 128 r.low)

abbrev follows_high : Row → Bool
follows_high row = are_high row.following

high-in : (grammar : List Row) (c : ℕ) (due : List Range) → T (all follows_high grammar)
    → following_in grammar c ≡ some due → T (are_high due)
high-in [] c due h e = absurd (let z : ◌≡◌ {A = ℕ} 0 1 = cc in omega arith)
high-in (row ∷ grammar) c due h e =
    by (holds row.first c)
    (high-in grammar c due (right_of (are_high row.following) (all follows_high grammar) h)) e
  where
    by : (b : Bool) → (following_in grammar c ≡ some due → T (are_high due))
        → pick b (some row.following) (following_in grammar c) ≡ some due → T (are_high due)
    by true more e =
        let same : row.following ≡ due = cc in
        subst (λ (x : List Range). T (are_high x)) same (left-of (are_high row.following) (all follows_high grammar) h)
    by false more e = more e

pub following-high : (c : ℕ) (due : List Range) → following c ≡ some due → T (are_high due)
following-high c due e = high-in rows c due tt e

-- ## Names

-- the bytes of a name lie from `0` to `z`
abbrev pub InName : ℕ → Type 0
InName c = (48 ≤ c) × (c ≤ 122)

in_either : (b d : Bool) {c : ℕ} → (T b → InName c) → (T d → InName c) → T (b || d) → InName c
in_either true d p q h = p tt
in_either false d p q h = q h

in-range : (low high c : ℕ) → 48 ≤ low → high ≤ 122 → T (between low high c) → InName c
in-range low high c l g h =
    let above = leb→le low c (left-of (leb low c) (leb c high) h) in
    let below = leb→le c high (right_of (leb low c) (leb c high) h) in
    (omega (arith, above), omega (arith, below))

in-equal : (c b : ℕ) → InName b → T (eqb c b) → InName c
in-equal c b n h = subst InName (sym (eqb→eq c b h)) n

pub alpha-in : (c : ℕ) → T (is_alpha c) → InName c
alpha-in c =
    in_either (between 65 90 c || between 97 122 c) (eqb c 95)
    (in_either (between 65 90 c) (between 97 122 c) (in-range 65 90 c (omega arith) (omega arith))
    (in-range 97 122 c (omega arith) (omega arith)))
    (in-equal c 95 (omega arith, omega arith))

alpha_numeric-in : (c : ℕ) → T (is_alpha_numeric c) → InName c
alpha_numeric-in c = in_either (is_alpha c) (is_digit c) (alpha-in c) (in-range 48 57 c (omega arith) (omega arith))

pub or-colon-in : (test : ℕ → Bool) → ((c : ℕ) → T (test c) → InName c) → (c : ℕ) → T (test c || eqb c 58) → InName c
or-colon-in test p c = in_either (test c) (eqb c 58) (p c) (in-equal c 58 (omega arith, omega arith))

module _ (first other : ℕ → Bool) (p : (c : ℕ) → T (first c) → InName c) (q : (c : ℕ) → T (other c) → InName c) where
  rest-text : (t : Text) → T (all other t) → WellFormed t
  rest-text [] h = text-empty
  rest-text (c ∷ t) h =
      text-byte (omega (arith, (q c (left-of (other c) (all other t) h)).1))
      (rest-text t (right_of (other c) (all other t) h))

  name-text : (t : Text) → T (is_name first other t) → WellFormed t
  name-text [] h = absurd h
  name-text (c ∷ t) h =
      text-byte (omega (arith, (p c (left-of (first c) (all other t) h)).1))
      (rest-text t (right_of (first c) (all other t) h))

pub label-text : (t : Text) → T (is_label t) → WellFormed t
label-text = name-text is_alpha is_alpha_numeric alpha-in alpha_numeric-in

pub selector_name-text : (t : Text) → T (is_selector_name t) → WellFormed t
selector_name-text [] h = text-empty
selector_name-text (c ∷ t) h =
    name-text (λ x. is_alpha x || eqb x 58) (λ x. is_alpha_numeric x || eqb x 58) (or-colon-in is_alpha alpha-in)
    (or-colon-in is_alpha_numeric alpha_numeric-in) (c ∷ t) h
