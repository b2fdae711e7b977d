-- Lengths and runs of what a node on several lines writes of its own: indentation, heads, operators, brackets.
use Prim.Native.Nat.{ℕ, zero, suc, ◌+◌, ◌-◌, ◌*◌, ◌≤◌, ◌<◌, min}
use native.Mathlib.Nat.{zero-add}
use native.Mathlib.Omega.{arith}
use mathlib.Core.Path.{◌≡◌, refl, sym, ap, ◌∙◌}
use mathlib.Core.Bool.{Bool, true}
use mathlib.Core.List.{List, [], ◌∷◌, ◌++◌, append_assoc, append-nil}
use lib.ListN.{length, length-append}
use Rattle.base.specs.Splice.{join}
use Rattle.base.proofs.SpliceLaws.{Cut, Run, start}
use Rattle.page.specs.Bytes.{bytes}
use Rattle.text.specs.Pretty.{indent}
use Rattle.text.specs.Layout.{indent_if}
use Rattle.text.proofs.CappedLaws.{capped-then}
use Rattle.text.proofs.WriteLaws.{run-three}

-- ## Indentation

pub indent-none : (level : ℕ) → level ≡ 0 → indent level ≡ []
indent-none level z = rw z

-- from level i on
pub indent-more : (level i : ℕ) → i < level → Cut (indent (level - i)) (bytes "  ") (indent (level - (i + 1)))
indent-more level i h = let e : level - i ≡ suc (level - (i + 1)) = omega arith in record { is = ap indent e }

length-indent : (level : ℕ) → length (indent level) ≡ level * 2
length-indent zero = refl
length-indent (suc level) = two (length-indent level)
  where
    two : length (indent level) ≡ level * 2 → suc (suc (length (indent level))) ≡ suc level * 2
    two e = omega arith

pub indented-len : (indents : Bool) (level cap r : ℕ) → indents ≡ true → r ≡ min (0 + level * 2) cap → r ≡ min (length (indent_if indents level)) cap
indented-len indents level cap r m e = rw m (e ∙ ap (λ (n : ℕ). min n cap) (zero-add (level * 2) ∙ sym (length-indent level)))

-- ## Pieces

-- the indentation and a head
pub led : (a b : List ℕ) (cap x y : ℕ) → x ≡ min (length a) cap → y ≡ min (length b) (cap - x) → x + y ≡ min (length (a ++ b)) cap
led a b cap x y p q = capped-then (length a) (length b) cap x y p q ∙ ap (λ (n : ℕ). min n cap) (sym (length-append a b))

-- a line feed, the indentation, an operator and a line feed
pub infixed-len : (level : ℕ) (o : List ℕ) (cap x y r : ℕ) → x ≡ min (length (indent level)) cap → y ≡ min (length o) (cap - x) → r ≡ min (x + y + 2) cap
    → r ≡ min (length (bytes "\n" ++ indent level ++ o ++ bytes "\n")) cap
infixed-len level o cap x y r p q e = omega (arith, led (indent level) o cap x y p q, length-append (indent level ++ o) (bytes "\n"))

-- a line feed, the indentation and a bracket
pub closed-len : (level cap x r : ℕ) → x ≡ min (length (indent level)) cap → r ≡ min (x + 2) cap
    → r ≡ min (length (bytes "\n" ++ indent level ++ bytes ")")) cap
closed-len level cap x r p e = omega (arith, length-append (indent level) (bytes ")"))

four : (a b c d : List ℕ) → a ++ b ++ c ++ d ≡ join (a ∷ b ∷ c ∷ d ∷ [])
unfolding join
four a b c d = simp (append_assoc, append-nil)

pub run-infixed : {text : List ℕ} (level : ℕ) (o : List ℕ) (out : List ℕ) (at : ℕ)
    → text ≡ bytes "\n" ++ indent level ++ o ++ bytes "\n" → at + length text ≤ length out
    → Run out out at text (bytes "\n" ∷ indent level ∷ o ∷ bytes "\n" ∷ []) at
run-infixed level o out at e h = start h (e ∙ four (bytes "\n") (indent level) o (bytes "\n"))

pub run-closed : {text : List ℕ} (level : ℕ) (out : List ℕ) (at : ℕ) → text ≡ bytes "\n" ++ indent level ++ bytes ")" → at + length text ≤ length out
    → Run out out at text (bytes "\n" ∷ indent level ∷ bytes ")" ∷ []) at
run-closed level out at e h = run-three (bytes "\n") (indent level) (bytes ")") out at (e ∙ append_assoc (bytes "\n") (indent level) (bytes ")")) h
