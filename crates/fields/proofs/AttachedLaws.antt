-- What a record above the foot of a node sets, from the field after its kind.
use Prim.Native.Nat.{ℕ, suc, ◌+◌, ◌-◌}
use mathlib.Core.Path.{◌≡◌, refl, sym, ap, subst, ◌∙◌}
use mathlib.Core.Bool.{true}
use mathlib.Core.List.{List}
use mathlib.Core.Option.{Option, some}
use lib.ListN.{drop, get_or}
use borrow.Author.Tests.{eqb-true, ne_eqb}
use Rattle.page.specs.Read.{got}
use Rattle.page.specs.Number.{read_number}
use Rattle.records.specs.Time.{Times, AtModifier, Offset, read_at_modifier, read_offset}
use Rattle.records.specs.Record.{range, at, offset, wrapper}
use Rattle.text.specs.Chain.{with_at, with_offset}
use Rattle.view.specs.View.{Starts, KindAt, is_attached, AttachedAt, Sets, sets_range, sets_at, sets_offset}
use Rattle.view.proofs.KindLaws.{kind-same, one_field}

module _ {page starts : List ℕ} {j : ℕ} (s : Starts page starts (suc j)) where
  pub part-range : KindAt page starts j 3 → {r : ℕ} {rest : List ℕ} → got r rest ≡ read_number (drop (get_or starts j 0 + 1) page)
      → {i : ℕ} {n : Option ℕ} {u : Times} → Sets page starts i j n u → Sets page starts i (j - 1) (some r) u
  part-range k e t = sets_range (one_field s k read_number (λ r. wrapper (range r)) (λ t. refl) e) t

  pub part_at : KindAt page starts j 5 → {a : AtModifier} {rest : List ℕ} → got a rest ≡ read_at_modifier (drop (get_or starts j 0 + 1) page)
      → {i : ℕ} {n : Option ℕ} {u : Times} → Sets page starts i j n u → Sets page starts i (j - 1) n (with_at a u)
  part_at k e t = sets_at (one_field s k read_at_modifier (λ a. wrapper (at a)) (λ t. refl) e) t

  pub part-offset : KindAt page starts j 6 → {o : Offset} {rest : List ℕ} → got o rest ≡ read_offset (drop (get_or starts j 0 + 1) page)
      → {i : ℕ} {n : Option ℕ} {u : Times} → Sets page starts i j n u → Sets page starts i (j - 1) n (with_offset o u)
  part-offset k e t = sets_offset (one_field s k read_offset (λ o. wrapper (offset o)) (λ t. refl) e) t

-- a record attached that is no range and no @ is an offset
pub last-part : {page starts : List ℕ} {j kind : ℕ} → AttachedAt page starts j → KindAt page starts j kind
    → (kind ≡ 3 → ⊥) → (kind ≡ 5 → ⊥) → KindAt page starts j 6
last-part {page} {starts} {j} {kind} p k a b =
    let part : is_attached kind ≡ true = ap is_attached (sym k.same ∙ kind-same p.stands k.reads) ∙ p.part in
    subst (KindAt page starts j) (eqb-true kind 6 (rw (ne_eqb kind 3 a, ne_eqb kind 5 b) at part)) k

-- the same, said otherwise
pub sets-as : {page starts : List ℕ} {i j k : ℕ} {n m : Option ℕ} {u v : Times} → j ≡ k → n ≡ m → u ≡ v → Sets page starts i j n u → Sets page starts i k m v
sets-as {page} {starts} {i} {j} {k} {n} {m} {u} {v} p q r t =
    subst (λ (x : ℕ). Sets page starts i x m v) p (subst (λ (x : Option ℕ). Sets page starts i j x v) q (subst (λ (x : Times). Sets page starts i j n x) r t))
