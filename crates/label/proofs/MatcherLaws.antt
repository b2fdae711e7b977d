-- A matcher's text as symbols, in three segments. Assumes nothing.
use Prim.Native.Nat.{ℕ, zero, suc, ◌+◌, ◌-◌, ◌≤◌, ◌<◌}
use native.Mathlib.Nat.{le_of_suc-le-suc, not-suc-le-zero}
use native.Mathlib.Omega.{arith}
use mathlib.Core.Bool.{Bool, true, false, ◌&&◌}
use mathlib.Core.List.{List, [], ◌∷◌, ◌++◌, map}
use mathlib.Core.Path.{◌≡◌, refl, sym, ap, ◌∙◌, subst}
use borrow.Author.Tests.{ne_eqb}
use lib.ListN.{get_or-append, length, get_or, length-append, length-map}
use lib.Seq.{get_or-append-add}
use Rattle.base.proofs.Cases.{by_flag, by-eq}
use Rattle.page.specs.Bytes.{pick, all}
use Rattle.page.specs.Text.{is_alpha, is_alpha_numeric, is_label}
use Rattle.leaves.specs.Escape.{escape_byte, escape}
use Rattle.records.specs.Matcher.{MatchOp, equal, not_equal, re, not_re}
use Rattle.label.specs.Label.{display_label, match_op_token, at_most}
use Rattle.label.specs.Symbols.{symbol, symbols, matcher_text, name_symbols, matcher_symbols}
use Rattle.label.proofs.SymbolLaws.{flat, flat-order, flat_append, flat-plain, flat-quoted, Valids}
use Rattle.label.proofs.SymbolLaws.{valids-append, valids-plain, valids-quoted, symbols-length}

-- ## A label has nothing to escape

never : {A : Type 0} → false ≡ true → A
never e = let z : ◌≡◌ {A = ℕ} 0 1 = ap (λ (b : Bool). pick b 1 0) e in absurd (omega arith)

both : (a b : Bool) → a && b ≡ true → (a ≡ true) × (b ≡ true)
both true b e = (refl, e)
both false b e = never e

-- a byte for which one of the five tests would have to hold with a test that fails there
plain : (p : ℕ → Bool) (b : ℕ) → p 92 ≡ false → p 34 ≡ false → p 10 ≡ false → p 13 ≡ false → p 9 ≡ false → p b ≡ true → escape_byte b ≡ b ∷ []
unfolding escape_byte
plain p b f₁ f₂ f₃ f₄ f₅ h =
    by-eq b 92 (λ e. never (sym f₁ ∙ (rw e at h))) (λ n₁.
    by-eq b 34 (λ e. never (sym f₂ ∙ (rw e at h))) (λ n₂.
    by-eq b 10 (λ e. never (sym f₃ ∙ (rw e at h))) (λ n₃.
    by-eq b 13 (λ e. never (sym f₄ ∙ (rw e at h))) (λ n₄.
    by-eq b 9 (λ e. never (sym f₅ ∙ (rw e at h))) (λ n₅.
    simp (ne_eqb b 92 n₁, ne_eqb b 34 n₂, ne_eqb b 10 n₃, ne_eqb b 13 n₄, ne_eqb b 9 n₅))))))

escape-more : (b : ℕ) (t : List ℕ) → escape_byte b ≡ b ∷ [] → escape t ≡ t → escape (b ∷ t) ≡ b ∷ t
unfolding escape
escape-more b t h e = rw (h, e)

escape-none : escape [] ≡ []
unfolding escape
escape-none = refl

tokens-plain : (t : List ℕ) → all is_alpha_numeric t ≡ true → escape t ≡ t
tokens-plain [] h = escape-none
tokens-plain (b ∷ t) h =
    let p = both (is_alpha_numeric b) (all is_alpha_numeric t) h in
    escape-more b t (plain is_alpha_numeric b refl refl refl refl refl p.0) (tokens-plain t p.1)

label-plain : (t : List ℕ) → is_label t ≡ true → escape t ≡ t
label-plain [] h = escape-none
label-plain (b ∷ t) h =
    let p = both (is_alpha b) (all is_alpha_numeric t) h in
    escape-more b t (plain is_alpha b refl refl refl refl refl p.0) (tokens-plain t p.1)

-- an operator neither
op-plain : (op : MatchOp) → escape (match_op_token op) ≡ match_op_token op
unfolding escape escape_byte
op-plain equal = refl
op-plain not_equal = refl
op-plain (re b) = refl
op-plain (not_re b) = refl

-- ## the text is its symbols

flat-name : (bare : Bool) (t : List ℕ) → bare ≡ is_label t → flat (name_symbols bare t) ≡ display_label t
unfolding name_symbols display_label
flat-name bare t e =
    by_flag (is_label t) (λ h. rw (e, h) (flat-plain t ∙ label-plain t h)) (λ h. rw (e, h) (flat-quoted t))

valids-name : (bare : Bool) (t : List ℕ) → Valids (name_symbols bare t)
unfolding name_symbols
valids-name true t = valids-plain t
valids-name false t = valids-quoted t

flat-matcher : (bare : Bool) (name : List ℕ) (op : MatchOp) (value : List ℕ) → bare ≡ is_label name
    → flat (matcher_symbols bare name op value) ≡ matcher_text name op value
unfolding matcher_symbols matcher_text
flat-matcher bare name op value e =
    flat_append (name_symbols bare name) (map symbol (match_op_token op) ++ symbols value)
    ∙ rw (flat-name bare name e, flat_append (map symbol (match_op_token op)) (symbols value), flat-plain (match_op_token op), op-plain op, flat-quoted value)

valids-matcher : (bare : Bool) (name : List ℕ) (op : MatchOp) (value : List ℕ) → Valids (matcher_symbols bare name op value)
unfolding matcher_symbols
valids-matcher bare name op value =
    valids-append (name_symbols bare name) _ (valids-name bare name)
    (valids-append (map symbol (match_op_token op)) _ (valids-plain (match_op_token op)) (valids-quoted value))

-- the order of two matchers' texts is that of their symbols
pub matcher-order : (bare : Bool) (name : List ℕ) (op : MatchOp) (value : List ℕ) (bare' : Bool) (name' : List ℕ) (op' : MatchOp) (value' : List ℕ)
    → bare ≡ is_label name → bare' ≡ is_label name'
    → at_most (matcher_text name op value) (matcher_text name' op' value')
    ≡ at_most (matcher_symbols bare name op value) (matcher_symbols bare' name' op' value')
matcher-order bare name op value bare' name' op' value' e e' =
    rw (← flat-matcher bare name op value e, ← flat-matcher bare' name' op' value' e')
    (flat-order _ _ (valids-matcher bare name op value) (valids-matcher bare' name' op' value'))

-- ## the symbols by index: three segments

pub matcher-count : (bare : Bool) (name : List ℕ) (op : MatchOp) (value : List ℕ) (n o : ℕ) → n ≡ length (name_symbols bare name) → o ≡ length (match_op_token op)
    → n + o + length value + 2 ≡ length (matcher_symbols bare name op value)
unfolding matcher_symbols
matcher-count bare name op value n o en eo =
    omega (
      arith,
      length-append (name_symbols bare name) (map symbol (match_op_token op) ++ symbols value),
      length-append (map symbol (match_op_token op)) (symbols value),
      length-map (match_op_token op) symbol,
      symbols-length value,
    )

pub segment-name : (bare : Bool) (name : List ℕ) (op : MatchOp) (value : List ℕ) (j n r : ℕ) → n ≡ length (name_symbols bare name) → j < n
    → r ≡ get_or (name_symbols bare name) j 0 → r ≡ get_or (matcher_symbols bare name op value) j 0
unfolding matcher_symbols
segment-name bare name op value j n r en h e = e ∙ sym (get_or-append (name_symbols bare name) _ 0 j (omega arith))

behind : (a b : List ℕ) (n j : ℕ) → n ≡ length a → n ≤ j → get_or (a ++ b) j 0 ≡ get_or b (j - n) 0
behind a b n j e h =
    let k : length a + (j - n) ≡ j = omega arith in
    subst (λ (i : ℕ). get_or (a ++ b) i 0 ≡ get_or b (j - n) 0) k (get_or-append-add a b (j - n) 0)

pub segment-op : (bare : Bool) (name : List ℕ) (op : MatchOp) (value : List ℕ) (j n o r : ℕ) → n ≡ length (name_symbols bare name) → n ≤ j
    → o ≡ length (match_op_token op) → j - n < o → r ≡ get_or (map symbol (match_op_token op)) (j - n) 0 → r ≡ get_or (matcher_symbols bare name op value) j 0
unfolding matcher_symbols
segment-op bare name op value j n o r en h eo k e =
    let m = length-map (match_op_token op) symbol in
    e ∙ sym (behind (name_symbols bare name) _ n j en h ∙ get_or-append (map symbol (match_op_token op)) (symbols value) 0 (j - n) (omega arith))

pub segment-value : (bare : Bool) (name : List ℕ) (op : MatchOp) (value : List ℕ) (j n o r : ℕ) → n ≡ length (name_symbols bare name) → n ≤ j
    → o ≡ length (match_op_token op) → o ≤ j - n → r ≡ get_or (symbols value) (j - n - o) 0 → r ≡ get_or (matcher_symbols bare name op value) j 0
unfolding matcher_symbols
segment-value bare name op value j n o r en h eo k e =
    let m = length-map (match_op_token op) symbol in
    e ∙ sym (behind (name_symbols bare name) _ n j en h ∙ behind (map symbol (match_op_token op)) (symbols value) o (j - n) (eo ∙ sym m) k)

-- what is left for the value
pub value_room : (bare : Bool) (name : List ℕ) (op : MatchOp) (value : List ℕ) (j n o : ℕ) → n ≡ length (name_symbols bare name) → o ≡ length (match_op_token op)
    → n ≤ j → o ≤ j - n → j < length (matcher_symbols bare name op value) → j - n - o < length value + 2
value_room bare name op value j n o en eo h k l = omega (arith, matcher-count bare name op value n o en eo)

-- ## a name's symbols

pub bare-count : (bare : Bool) (t : List ℕ) → bare ≡ true → length t ≡ length (name_symbols bare t)
unfolding name_symbols
bare-count true t e = sym (length-map t symbol)
bare-count false t e = never e

pub quoted-count : (bare : Bool) (t : List ℕ) → bare ≡ false → length t + 2 ≡ length (name_symbols bare t)
unfolding name_symbols
quoted-count true t e = never (sym e)
quoted-count false t e = sym (symbols-length t)

pub name-short : (bare : Bool) (t : List ℕ) → length (name_symbols bare t) ≤ length t + 2
name-short bare t =
    by_flag bare (λ e. omega (arith, bare-count bare t e)) (λ e. omega (arith, quoted-count bare t e))

bare-at : (t : List ℕ) (j : ℕ) → j < length t → get_or (map symbol t) j 0 ≡ symbol (get_or t j 0)
bare-at [] j h = absurd (not-suc-le-zero h)
bare-at (b ∷ t) zero h = refl
bare-at (b ∷ t) (suc j) h = bare-at t j (le_of_suc-le-suc h)

pub bare-inside : (bare : Bool) (t : List ℕ) (j : ℕ) → bare ≡ true → j < length (name_symbols bare t) → j < length t
bare-inside bare t j e h = omega (arith, bare-count bare t e)

pub quoted-inside : (bare : Bool) (t : List ℕ) (j : ℕ) → bare ≡ false → j < length (name_symbols bare t) → j < length t + 2
quoted-inside bare t j e h = omega (arith, quoted-count bare t e)

pub bare-symbol : (bare : Bool) (t : List ℕ) (j r : ℕ) → bare ≡ true → j < length (name_symbols bare t) → r ≡ symbol (get_or t j 0)
    → r ≡ get_or (name_symbols bare t) j 0
unfolding name_symbols
bare-symbol true t j r e h is = let m = length-map t symbol in is ∙ sym (bare-at t j (omega arith))
bare-symbol false t j r e h is = never e

pub quoted-symbol : (bare : Bool) (t : List ℕ) (j r : ℕ) → bare ≡ false → r ≡ get_or (symbols t) j 0 → r ≡ get_or (name_symbols bare t) j 0
unfolding name_symbols
quoted-symbol true t j r e is = never (sym e)
quoted-symbol false t j r e is = is

-- ## An operator's bytes

pub op-symbol : (op : MatchOp) (j o b r : ℕ) → o ≡ length (match_op_token op) → j < o → b ≡ get_or (match_op_token op) j 0
    → r ≡ symbol b → r ≡ get_or (map symbol (match_op_token op)) j 0
op-symbol op j o b r eo h e is = is ∙ ap symbol e ∙ sym (bare-at (match_op_token op) j (omega arith))

-- the only byte
pub op-only : (a j : ℕ) → j < 1 → a ≡ get_or (a ∷ []) j 0
op-only a zero h = refl
op-only a (suc j) h = absurd (omega arith)

pub op-short : (op : MatchOp) → length (match_op_token op) ≤ 2
op-short equal = omega arith
op-short not_equal = omega arith
op-short (re b) = omega arith
op-short (not_re b) = omega arith
