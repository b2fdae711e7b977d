-- The bytes that `copy` reports, taken as a page: they are the copy, they are accepted with the same kind, and they are
-- their own copy. By the laws of crate `copy` on what the buffer holds. Assumes nothing.
use Prim.Native.Nat.{ℕ, ◌≤◌}
use mathlib.Core.Path.{◌≡◌, refl, sym, ap, ◌∙◌, subst}
use mathlib.Core.Bool.{Bool, true, false}
use mathlib.Core.List.{List, ◌++◌}
use native.Mathlib.Omega.{arith}
use lib.ListN.{length, take, drop}
use lib.Seq.{take-append_seam}
use lib.Dec.{leb}
use Rattle.page.specs.Bytes.{pick}
use Rattle.page.specs.Limits.{page_limit}
use Rattle.records.specs.Kind.{Kind}
use Rattle.records.specs.Outcome.{answer, refusal}
use Rattle.ast.specs.Expr.{Expr, value_type}
use Rattle.ast.specs.Walk.{Checked, accepted, refused_at}
use Rattle.ast.specs.CheckPage.{check_page, outcome_of, check}
use Rattle.copy.specs.Copy.{copy_page}
use Rattle.copy.proofs.CopyLaws.{copy_page-once, copy_page-check}
use Rattle.outcomes.specs.Calls.{Called, too_short, writing, copy}

-- an accepted page of this kind, and its copy of so many bytes in front of the buffer's own
record CopyWrote (page : List ℕ) (k : Kind) (n : ℕ) (after : List ℕ) : Type 0 where
  is_accepted : check page ≡ answer k 0
  is_length : n ≡ length (copy_page page)
  is_buffer : take n after ≡ copy_page page

module _ (page buffer : List ℕ) (k : Kind) (n : ℕ) where
  abbrev called : Kind → ℕ → Bool → Called
  called j m b =
      pick b
      (record { outcome = answer j (length (copy_page page)); buffer = copy_page page ++ drop (length (copy_page page)) buffer })
      (record { outcome = refusal too_short m; buffer = buffer })

  never : (m i : ℕ) → refusal m i ≡ answer k n → ⊥
  never m i e = let z : ◌≡◌ {A = ℕ} 0 1 = cc in omega arith

  wrote : (copy page buffer).outcome ≡ answer k n → CopyWrote page k n (copy page buffer).buffer
  wrote = from (check_page page) refl
    where
      fits : (j : Kind) (m : ℕ) → check page ≡ answer j 0 → (b : Bool) → (called j m b).outcome ≡ answer k n → CopyWrote page k n (called j m b).buffer
      fits j m h false q = absurd (never too_short m q)
      fits j m h true q =
          let kind : j ≡ k = cc in
          let size : length (copy_page page) ≡ n = cc in
          record {
            is_accepted = h ∙ ap (λ (x : Kind). answer x 0) kind;
            is_length = sym size;
            is_buffer = subst (λ (x : ℕ). take x (copy_page page ++ drop (length (copy_page page)) buffer) ≡ copy_page page) size
                (take-append_seam (copy_page page) (drop (length (copy_page page)) buffer));
          }

      from : (c : Checked Expr) → check_page page ≡ c → (writing (λ e. copy_page page) c buffer).outcome ≡ answer k n
          → CopyWrote page k n (writing (λ e. copy_page page) c buffer).buffer
      from (refused_at m i) h q = absurd (never m i q)
      from (accepted e m) h q = fits (value_type e) m (ap outcome_of h) (leb (length (copy_page page)) (length buffer)) q

  -- the bytes reported are the copy
  pub copy_writes : (copy page buffer).outcome ≡ answer k n → take n (copy page buffer).buffer ≡ copy_page page
  copy_writes h = (wrote h).is_buffer

  short : (copy page buffer).outcome ≡ answer k n → n ≤ page_limit → length (copy_page page) ≤ page_limit
  short h l = subst (λ (x : ℕ). x ≤ page_limit) (wrote h).is_length l

  -- check accepts them with the same kind
  pub copy-passes : (copy page buffer).outcome ≡ answer k n → n ≤ page_limit → check (take n (copy page buffer).buffer) ≡ answer k 0
  copy-passes h l = ap check (copy_writes h) ∙ copy_page-check page (short h l) k 0 (wrote h).is_accepted ∙ (wrote h).is_accepted

  -- and their copy is themselves
  pub copy-again : (copy page buffer).outcome ≡ answer k n → n ≤ page_limit → copy_page (take n (copy page buffer).buffer) ≡ take n (copy page buffer).buffer
  copy-again h l = ap copy_page (copy_writes h) ∙ copy_page-once page (short h l) ∙ sym (copy_writes h)
