-- The size of a part of the page, and parts without bytes: a part is empty where its ends meet. Assumes nothing.
use Prim.Native.Nat.{ℕ, ◌-◌}
use mathlib.Core.Path.{◌≡◌, refl, sym, ◌∙◌}
use mathlib.Core.Bool.{true, false}
use mathlib.Core.List.{List, [], ◌∷◌}
use native.Mathlib.Omega.{arith}
use borrow.Author.Tests.{eq-eqb, ne_eqb}
use lib.Dec.{eqb}
use lib.ListN.{length, drop, length-drop}
use lib.Seq.{length-take-le}
use Rattle.base.proofs.Cases.{by-eq}
use Rattle.page.specs.Bytes.{is_empty}
use Rattle.page.specs.Answers.{span_on, Lies}
use Rattle.page.specs.declared.text.Span.{Span}

full : (l : List ℕ) → (length l ≡ 0 → ⊥) → is_empty l ≡ false
full [] h = absurd (h refl)
full (x ∷ l) h = refl

pub span-size : (page : List ℕ) (s : Span) → Lies page s → length (span_on page s) ≡ s.end - s.start
span-size page s lies =
    length-take-le (s.end - s.start) (drop s.start page)
    (rw (length-drop s.start page) (omega (arith, lies.ordered, lies.inside)))

pub span-empty : (page : List ℕ) (s : Span) → s.start ≡ s.end → is_empty (span_on page s) ≡ true
span-empty page s e = let z : s.end - s.start ≡ 0 = omega arith in rw z

pub span-full : (page : List ℕ) (s : Span) → Lies page s → (s.start ≡ s.end → ⊥) → is_empty (span_on page s) ≡ false
span-full page s lies h = full (span_on page s) (λ e. h (same (sym (span-size page s lies) ∙ e)))
  where
    same : s.end - s.start ≡ 0 → s.start ≡ s.end
    same z = omega (arith, lies.ordered)

-- by the test of its ends
pub span-test : (page : List ℕ) (s : Span) → Lies page s → eqb s.start s.end ≡ is_empty (span_on page s)
span-test page s lies =
    by-eq s.start s.end (λ e. eq-eqb s.start s.end e ∙ sym (span-empty page s e))
    (λ h. ne_eqb s.start s.end h ∙ sym (span-full page s lies h))
