-- One byte of some bytes changed: what stands before it, the byte, and what stands after it. Assumes nothing.
use Prim.Native.Nat.{ℕ, suc, ◌+◌, ◌-◌, ◌≤◌, ◌<◌}
use mathlib.Core.Path.{◌≡◌, sym, ap, ◌∙◌}
use mathlib.Core.List.{List, [], ◌∷◌, ◌++◌}
use native.Mathlib.Omega.{arith}
use lib.ListN.{length, take, drop, set, length-drop}
use lib.Seq.{drop-drop, length-take-le}
use Rattle.std.proofs.lemmas.List.{take-take, drop-take, set_split, set-append_left, set-append_right, length-set}
use Rattle.base.specs.Splice.{splice, Wrote, join}
use Rattle.page.proofs.ReaderLaws.{append-nil}

-- the page's bytes between two places, with another byte at a place between them
pub changed-part : (page : List ℕ) (start cut next b : ℕ) → start ≤ cut → cut + 1 ≤ next → next ≤ length page
    → set (take (next - start) (drop start page)) (cut - start) b
    ≡ join (take (cut - start) (drop start page) ∷ (b ∷ []) ∷ take (next - (cut + 1)) (drop (cut + 1) page) ∷ [])
unfolding join
changed-part page start cut next b h g l =
    let s = drop start page in
    let k = cut - start in
    let m = next - (cut + 1) in
    let wide : next - start ≡ suc k + m = omega arith in
    let here : k < length (take (next - start) s) = omega (arith, length-take-le (next - start) s (omega (arith, length-drop start page))) in
    let front : take k (take (next - start) s) ≡ take k s = take-take k (next - start) s (omega arith) in
    let place : start + suc k ≡ cut + 1 = omega arith in
    let rear : drop (suc k) (take (next - start) s) ≡ take m (drop (cut + 1) page) =
    ap (λ (n : ℕ). drop (suc k) (take n s)) wide ∙ drop-take (suc k) m s
    ∙ ap (take m) (drop-drop (suc k) start page ∙ ap (λ (n : ℕ). drop n page) place) in
    set_split (take (next - start) s) k b here ∙ rw (front, rear, append-nil (take m (drop (cut + 1) page)))

-- a byte stored in what was written before is a change of that
pub changed-later : {o o' t : List ℕ} {at next : ℕ} (k b : ℕ) → at + length t ≤ length o → k < length t
    → Wrote o o' at t next → Wrote o (set o' (at + k) b) at (set t k b) next
unfolding splice
changed-later {o} {o'} {t} {at} k b h l w =
    let front : length (take at o) ≡ at = length-take-le at o (omega arith) in
    let rest = drop (at + length t) o in
    let further : at + k - at ≡ k = omega arith in
    record {
      holds = ap (λ (x : List ℕ). set x (at + k) b) w.holds
          ∙ set-append_right (take at o) (t ++ rest) at (at + k) b front (omega arith)
          ∙ ap (λ (x : ℕ). take at o ++ set (t ++ rest) x b) further
          ∙ ap (λ (x : List ℕ). take at o ++ x) (set-append_left t rest k b l)
          ∙ ap (λ (n : ℕ). take at o ++ (set t k b ++ drop (at + n) o)) (sym (length-set t k b));
      ends = w.ends ∙ ap (λ (n : ℕ). at + n) (sym (length-set t k b));
    }
