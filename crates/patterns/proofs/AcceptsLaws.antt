-- What `accepts` answers of a pattern as it is written: it has an answer for covered patterns alone, and the answer is
-- the language's, of every text. Assumes nothing.
use Prim.Native.Nat.{ℕ, ◌+◌, ◌*◌}
use mathlib.Core.Path.{◌≡◌, refl, sym, ap, subst, ◌∙◌}
use mathlib.Core.Bool.{Bool}
use mathlib.Core.Logic.Iff
use mathlib.Core.Logic.{◌↔◌}
use mathlib.Core.List.{List, [], ◌∷◌, append-nil}
use mathlib.Core.Option.{some}
use native.Mathlib.Omega.{arith}
use lib.ListN.{length}
use lib.Dec.{T}
use Rattle.patterns.specs.Pattern.{Choice}
use Rattle.patterns.specs.Pattern.{write_choice, Covered}
use Rattle.patterns.specs.Language.{Characters}
use Rattle.patterns.specs.Language.{Matches}
use Rattle.patterns.specs.Search.{Found, missing, found, read_choice, matches_empty_text}
use Rattle.patterns.specs.Accepts.{accepts_choice}
use Rattle.patterns.specs.Accepts.{accepts_whole, accepts}
use Rattle.patterns.proofs.SearchLaws.{sound-choice}
use Rattle.patterns.proofs.DecisionLaws.{read_choice-written, matches_empty_text-language}
use Rattle.patterns.proofs.LanguageLaws.{accepts_choice-language}

pub accepts-written : (c : Choice) (t : Characters) → accepts (write_choice c) t ≡ some (accepts_choice c t)
accepts-written c t = ap (λ (x : Found Choice). accepts_whole x t) (read_choice-written c)

accepts-tree : (p : List ℕ) (t : Characters) (b : Bool) → accepts p t ≡ some b
    → (c : Choice) × (write_choice c ≡ p) × (accepts_choice c t ≡ b)
accepts-tree p t b e = by (read_choice (3 * length p + 3) p) refl e
  where
    by : (x : Found Choice) → read_choice (3 * length p + 3) p ≡ x → accepts_whole x t ≡ some b
        → (c : Choice) × (write_choice c ≡ p) × (accepts_choice c t ≡ b)
    by missing k h = absurd (let z : ◌≡◌ {A = ℕ} 0 1 = cc in omega arith)
    by (found c (x ∷ xs)) k h = absurd (let z : ◌≡◌ {A = ℕ} 0 1 = cc in omega arith)
    by (found c []) k h = (c, sym (append-nil (write_choice c)) ∙ sound-choice (3 * length p + 3) p c [] k, cc)

-- there is an answer when, and only when, the pattern is covered
pub accepts-covered : (p : List ℕ) (t : Characters) → Covered p ↔ ((b : Bool) × (accepts p t ≡ some b))
accepts-covered p t = (there, back)
  where
    there : Covered p → (b : Bool) × (accepts p t ≡ some b)
    there h = (accepts_choice h.0 t, ap (λ (q : List ℕ). accepts q t) (sym h.1) ∙ accepts-written h.0 t)

    back : (b : Bool) × (accepts p t ≡ some b) → Covered p
    back h = let tree = accepts-tree p t h.0 h.1 in (tree.0, tree.1)

-- and the answer is true when, and only when, the text is in the language
pub accepts-language : (p : List ℕ) (t : Characters) (b : Bool) → accepts p t ≡ some b → T b ↔ Matches p t
accepts-language p t b e = (there, back)
  where
    there : T b → Matches p t
    there h =
        let tree = accepts-tree p t b e in
        (tree.0, tree.1, (accepts_choice-language tree.0 t).0 (subst T (sym tree.2) h))

    back : Matches p t → T b
    back m =
        let answered : some (accepts_choice m.0 t) ≡ some b =
        sym (accepts-written m.0 t) ∙ ap (λ (q : List ℕ). accepts q t) m.1 ∙ e in
        let its : accepts_choice m.0 t ≡ b = cc in
        subst T its ((accepts_choice-language m.0 t).1 m.2)

-- on empty text it is what the check computes
pub accepts-empty : (p : List ℕ) (a b : Bool) → accepts p [] ≡ some a → matches_empty_text p ≡ some b → T a ↔ T b
accepts-empty p a b e f = Iff.trans (accepts-language p [] a e) (Iff.symm (matches_empty_text-language p b f))
