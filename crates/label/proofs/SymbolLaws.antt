-- Quoted texts as symbols: the order of the texts is the order of their symbols. No symbol's bytes begin another's.
-- Assumes nothing.
use Prim.Native.Nat.{ℕ, zero, suc, ◌+◌, ◌-◌, ◌*◌, ◌/◌, ◌%◌, ◌≤◌, ◌<◌}
use native.Mathlib.Nat.{le_of_suc-le-suc, not-suc-le-zero}
use native.Mathlib.Omega.{arith}
use mathlib.Core.Bool.{true, false}
use mathlib.Core.List.{List, [], ◌∷◌, ◌++◌, map, append_assoc}
use mathlib.Core.Path.{◌≡◌, refl, sym, ap, ◌∙◌}
use Rattle.std.specs.Prelude.{Some, None}
use borrow.Author.Tests.{lt-ltb, le-ltb, eq-eqb, ne_eqb}
use lib.Dec.{eqb}
use lib.ListN.{length, get_or, length-append, length-map}
use Rattle.base.proofs.Cases.{by-lt, by-eq}
use Rattle.page.specs.Bytes.{pick}
use Rattle.leaves.specs.Escape.{escape_byte, escape_with, escape, quote}
use Rattle.label.specs.Label.{at_most}
use Rattle.label.specs.Symbols.{symbol_of, symbol, symbols}

-- ## the order, an element at a time

pub at-most-less : (a b : ℕ) (t u : List ℕ) → a < b → at_most (a ∷ t) (b ∷ u) ≡ true
unfolding at_most
at-most-less a b t u h = simp (lt-ltb a b h)

pub at-most-more : (a b : ℕ) (t u : List ℕ) → b < a → at_most (a ∷ t) (b ∷ u) ≡ false
unfolding at_most
at-most-more a b t u h = simp (le-ltb a b (omega arith), ne_eqb a b (λ e. omega arith))

pub at-most-same : (a b : ℕ) (t u : List ℕ) → a ≡ b → at_most (a ∷ t) (b ∷ u) ≡ at_most t u
unfolding at_most
at-most-same a b t u e = simp (le-ltb a b (omega arith), eq-eqb a b e)

-- ## a symbol's bytes

spelled : ℕ → List ℕ
spelled s = pick (eqb (s / 256) 92) (92 ∷ s % 256 ∷ []) (s / 256 ∷ [])

pub flat : List ℕ → List ℕ
flat [] = []
flat (s ∷ ss) = spelled s ++ flat ss

pub record Valid (s : ℕ) : Type 0 where
  pub one : (s / 256 ≡ 92 → ⊥) → s % 256 ≡ 0

abbrev pub Valids : List ℕ → Type 0
Valids [] = Unit {0}
Valids (s ∷ ss) = Valid s × Valids ss

two_bytes : (s : ℕ) → s / 256 ≡ 92 → spelled s ≡ 92 ∷ s % 256 ∷ []
unfolding spelled
two_bytes s e = rw (eq-eqb (s / 256) 92 e)

one_byte : (s : ℕ) → (s / 256 ≡ 92 → ⊥) → spelled s ≡ s / 256 ∷ []
unfolding spelled
one_byte s n = rw (ne_eqb (s / 256) 92 n)

symbol-less : (s t : ℕ) (x y : List ℕ) → Valid s → Valid t → s < t → at_most (spelled s ++ x) (spelled t ++ y) ≡ true
symbol-less s t x y v w h =
    by-eq (s / 256) 92
    (λ p. by-eq (t / 256) 92
    (λ q. rw (two_bytes s p, two_bytes t q) (at-most-same 92 92 _ _ refl ∙ at-most-less _ _ _ _ (omega arith)))
    (λ q. rw (two_bytes s p, one_byte t q) (at-most-less _ _ _ _ (omega arith))))
    (λ p. by-eq (t / 256) 92
    (λ q. rw (one_byte s p, two_bytes t q) (at-most-less _ _ _ _ (omega arith)))
    (λ q. rw (one_byte s p, one_byte t q) (at-most-less _ _ _ _ (omega (arith, v.one p, w.one q)))))

symbol-more : (s t : ℕ) (x y : List ℕ) → Valid s → Valid t → t < s → at_most (spelled s ++ x) (spelled t ++ y) ≡ false
symbol-more s t x y v w h =
    by-eq (s / 256) 92
    (λ p. by-eq (t / 256) 92
    (λ q. rw (two_bytes s p, two_bytes t q) (at-most-same 92 92 _ _ refl ∙ at-most-more _ _ _ _ (omega arith)))
    (λ q. rw (two_bytes s p, one_byte t q) (at-most-more _ _ _ _ (omega arith))))
    (λ p. by-eq (t / 256) 92
    (λ q. rw (one_byte s p, two_bytes t q) (at-most-more _ _ _ _ (omega arith)))
    (λ q. rw (one_byte s p, one_byte t q) (at-most-more _ _ _ _ (omega (arith, v.one p, w.one q)))))

-- texts that begin alike
prefix : (p x y : List ℕ) → at_most (p ++ x) (p ++ y) ≡ at_most x y
prefix [] x y = refl
prefix (b ∷ p) x y = at-most-same b b _ _ refl ∙ prefix p x y

-- a symbol has a first byte
spelled-some : (s : ℕ) (x : List ℕ) → at_most (spelled s ++ x) [] ≡ false
unfolding at_most
spelled-some s x = by-eq (s / 256) 92 (λ p. rw (two_bytes s p)) (λ p. rw (one_byte s p))

pub nothing : (u : List ℕ) → at_most [] u ≡ true
unfolding at_most
nothing u = refl

pub some_more : (s : ℕ) (a : List ℕ) → at_most (s ∷ a) [] ≡ false
unfolding at_most
some_more s a = refl

pub flat-order : (a b : List ℕ) → Valids a → Valids b → at_most (flat a) (flat b) ≡ at_most a b
unfolding flat
flat-order [] b va vb = nothing (flat b) ∙ sym (nothing b)
flat-order (s ∷ a) [] va vb = spelled-some s (flat a) ∙ sym (some_more s a)
flat-order (s ∷ a) (t ∷ b) (v, va) (w, vb) =
    by-lt s t
    (λ h. symbol-less s t _ _ v w h ∙ sym (at-most-less s t a b h))
    (λ h. by-lt t s
    (λ k. symbol-more s t _ _ v w k ∙ sym (at-most-more s t a b k))
    (λ k. let e : s ≡ t = omega arith in
    rw e (prefix (spelled t) (flat a) (flat b)) ∙ flat-order a b va vb ∙ sym (at-most-same s t a b e)))

-- ## the symbols of a quote text

-- a byte stands for itself, or for a backslash and a letter
data Shape (b : ℕ) : Type 0 where
  stands : escape_byte b ≡ b ∷ [] → (b ≡ 92 → ⊥) → Shape b
  letter : (l : ℕ) → escape_byte b ≡ 92 ∷ l ∷ [] → l < 256 → Shape b

shape : (b : ℕ) → Shape b
unfolding escape_byte
shape b =
    by-eq b 92 (λ e. letter 92 (rw (eq-eqb b 92 e)) (omega arith)) (λ n₁.
    by-eq b 34 (λ e. letter 34 (simp (ne_eqb b 92 n₁, eq-eqb b 34 e)) (omega arith)) (λ n₂.
    by-eq b 10 (λ e. letter 110 (simp (ne_eqb b 92 n₁, ne_eqb b 34 n₂, eq-eqb b 10 e)) (omega arith)) (λ n₃.
    by-eq b 13 (λ e. letter 114 (simp (ne_eqb b 92 n₁, ne_eqb b 34 n₂, ne_eqb b 10 n₃, eq-eqb b 13 e)) (omega arith)) (λ n₄.
    by-eq b 9 (λ e. letter 116 (simp (ne_eqb b 92 n₁, ne_eqb b 34 n₂, ne_eqb b 10 n₃, ne_eqb b 13 n₄, eq-eqb b 9 e)) (omega arith)) (λ n₅.
    stands (simp (ne_eqb b 92 n₁, ne_eqb b 34 n₂, ne_eqb b 10 n₃, ne_eqb b 13 n₄, ne_eqb b 9 n₅)) n₁)))))

-- r is what `escape_letter` answered
pub symbol-stands : (b : ℕ) → escape_with b None ≡ escape_byte b → b * 256 ≡ symbol b
unfolding symbol
symbol-stands b is = ap symbol_of is

pub symbol-escapes : (b r : ℕ) → escape_with b (Some r) ≡ escape_byte b → 23552 + r ≡ symbol b
unfolding symbol
symbol-escapes b r is = ap symbol_of is

symbol-plain : (b : ℕ) → escape_byte b ≡ b ∷ [] → symbol b ≡ b * 256
unfolding symbol
symbol-plain b e = ap symbol_of e

symbol-letter : (b l : ℕ) → escape_byte b ≡ 92 ∷ l ∷ [] → symbol b ≡ 23552 + l
unfolding symbol
symbol-letter b l e = ap symbol_of e

spelled-symbol : (b : ℕ) → spelled (symbol b) ≡ escape_byte b
spelled-symbol b = by_shape (shape b)
  where
    by_shape : Shape b → spelled (symbol b) ≡ escape_byte b
    by_shape (stands e n) =
        let p = symbol-plain b e in
        let q : symbol b / 256 ≡ b = omega arith in
        one_byte (symbol b) (λ k. n (sym q ∙ k)) ∙ rw q (sym e)
    by_shape (letter l e small) =
        let p = symbol-letter b l e in
        let r : symbol b % 256 ≡ l = omega arith in
        two_bytes (symbol b) (omega arith) ∙ rw r (sym e)

valid-symbol : (b : ℕ) → Valid (symbol b)
valid-symbol b = by_shape (shape b)
  where
    by_shape : Shape b → Valid (symbol b)
    by_shape (stands e n) = let p = symbol-plain b e in record { one = λ k. omega arith }
    by_shape (letter l e small) = let p = symbol-letter b l e in record { one = λ q. absurd (q (omega arith)) }

valid-quote : Valid 8704
valid-quote = record { one = λ q. refl }

pub flat_append : (a b : List ℕ) → flat (a ++ b) ≡ flat a ++ flat b
unfolding flat
flat_append [] b = refl
flat_append (s ∷ a) b = rw (flat_append a b) (sym (append_assoc (spelled s) (flat a) (flat b)))

pub valids-append : (a b : List ℕ) → Valids a → Valids b → Valids (a ++ b)
valids-append [] b va vb = vb
valids-append (s ∷ a) b (v, va) vb = (v, valids-append a b va vb)

pub flat-plain : (t : List ℕ) → flat (map symbol t) ≡ escape t
unfolding flat escape
flat-plain [] = refl
flat-plain (b ∷ t) = rw (spelled-symbol b, flat-plain t)

pub valids-plain : (t : List ℕ) → Valids (map symbol t)
valids-plain [] = tt
valids-plain (b ∷ t) = (valid-symbol b, valids-plain t)

pub flat-quoted : (t : List ℕ) → flat (symbols t) ≡ quote t
unfolding flat symbols quote spelled
flat-quoted t = ap (λ (l : List ℕ). 34 ∷ l) (rw (flat_append (map symbol t) (8704 ∷ []), flat-plain t))

pub valids-quoted : (t : List ℕ) → Valids (symbols t)
unfolding symbols
valids-quoted t = (valid-quote, valids-append (map symbol t) (8704 ∷ []) (valids-plain t) (valid-quote, tt))

-- ## the symbols by index

pub symbols-length : (t : List ℕ) → length (symbols t) ≡ length t + 2
unfolding symbols
symbols-length t = let e = length-append (map symbol t) (8704 ∷ []) in let f = length-map t symbol in omega arith

pub symbol-first : (t : List ℕ) → get_or (symbols t) 0 0 ≡ 8704
unfolding symbols
symbol-first t = refl

middle : (t : List ℕ) (i : ℕ) → i < length t → get_or (map symbol t ++ (8704 ∷ [])) i 0 ≡ symbol (get_or t i 0)
middle [] i h = absurd (not-suc-le-zero h)
middle (b ∷ t) zero h = refl
middle (b ∷ t) (suc i) h = middle t i (le_of_suc-le-suc h)

pub symbol-inside : (t : List ℕ) (j : ℕ) → 0 < j → j ≤ length t → get_or (symbols t) j 0 ≡ symbol (get_or t (j - 1) 0)
unfolding symbols
symbol-inside t zero g h = absurd (not-suc-le-zero g)
symbol-inside t (suc j) g h = rw (add-sub-one j) (middle t j h)
  where
    add-sub-one : (j : ℕ) → suc j - 1 ≡ j
    add-sub-one j = omega arith

end : (t : List ℕ) → get_or (map symbol t ++ (8704 ∷ [])) (length t) 0 ≡ 8704
end [] = refl
end (b ∷ t) = end t

pub symbol-last : (t : List ℕ) (j : ℕ) → length t < j → j < length t + 2 → get_or (symbols t) j 0 ≡ 8704
unfolding symbols
symbol-last t zero g h = absurd (not-suc-le-zero g)
symbol-last t (suc j) g h = let e : j ≡ length t = omega arith in rw e (end t)
