-- A width is a length up to 101, so that a length up to any smaller cap is that of the width; and a table stays right
-- when a right width is put into it. Assumes nothing.
use Prim.Native.Nat.{ℕ, zero, suc, ◌+◌, ◌≤◌, ◌<◌, min}
use mathlib.Core.Path.{◌≡◌, refl, sym, ◌∙◌}
use mathlib.Core.List.{List}
use native.Mathlib.Omega.{arith}
use lib.ListN.{length, get_or, set, replicate, length-set}
use lib.Seq.{get_or-set_same, get_or-set_other}
use Rattle.base.proofs.Cases.{by-eq}
use Rattle.ast.specs.Tables.{tree_at}
use Rattle.text.specs.Display.{display}
use Rattle.measure.specs.Widths.{Widths}

pub recapped : (len w cap r : ℕ) → w ≡ min len 101 → cap ≤ 101 → r ≡ min (w + 0) cap → r ≡ min len cap
recapped len w cap r e h is = omega (arith, e, h, is)

pub set-size : {page widths before : List ℕ} (i w : ℕ) → Widths page widths → Widths page before → length (set widths i w) ≡ length before
set-size {page} {widths} i w known old = length-set widths i w ∙ known.size ∙ sym old.size

pub widths-set : {page widths : List ℕ} (i w : ℕ) → Widths page widths → i < 256 → w ≡ min (length (display (tree_at page i))) 101 → Widths page (set widths i w)
widths-set {page} {widths} i w known h e = record {
  size = length-set widths i w ∙ known.size;
  right = λ j set. by-eq j i
      (λ same. rw same (get_or-set_same widths i w 0 (rw known.size h) ∙ e))
      (λ other. get_or-set_other widths i j w 0 other ∙ known.right j (λ z. set (get_or-set_other widths i j w 0 other ∙ z)));
}

abbrev unmeasured : ℕ → List ℕ
unmeasured n = replicate n 0

no-width : (n i : ℕ) → get_or (unmeasured n) i 0 ≡ 0
no-width zero i = refl
no-width (suc n) zero = refl
no-width (suc n) (suc i) = no-width n i

-- before anything is measured
pub widths-none : (page : List ℕ) → Widths page (unmeasured 256)
widths-none page = record { size = refl; right = λ i set. absurd (set (no-width 256 i)) }
