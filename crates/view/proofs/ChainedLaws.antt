-- Chains of range, @ and offset, going down from record i: what they set (`Sets`) is on the tree that record i ends.
use Prim.Native.Nat.{ℕ, suc, ◌-◌, ◌≤◌, ◌<◌}
use native.Mathlib.Omega.{arith}
use mathlib.Core.Path.{◌≡◌, refl, sym, ap, subst, ◌∙◌}
use mathlib.Core.Bool.{true, false≢true}
use mathlib.Core.List.{List}
use mathlib.Core.Option.{Option}
use Rattle.base.proofs.Cases.{by-lt}
use Rattle.records.specs.Time.{Times}
use Rattle.records.specs.Record.{number, string, selector, Wrapper, range, subquery, at, offset, unary, paren, Record}
use Rattle.records.specs.Record.{leaf, wrapper, binary, aggregate, call, record_kind}
use Rattle.ast.specs.Tables.{tree_at}
use Rattle.text.specs.Chain.{settled}
use Rattle.text.specs.LaidOut.{Reads}
use Rattle.text.proofs.EntryLaws.{wrapped}
use Rattle.text.proofs.ChainLaws.{settled-nothing, chain-range, chain-at, chain-offset}
use Rattle.view.specs.View.{Starts, KindAt, is_attached, AttachedAt, Sets, sets_nothing, sets_range, sets_at, sets_offset, Chained}
use Rattle.view.proofs.ViewLaws.{starts-fewer}

-- record j is the one asked for, or one above it is
passed : {page starts : List ℕ} {j k : ℕ} {w : Wrapper} → j - 1 < k → Reads page starts j (wrapper w)
    → is_attached (record_kind (wrapper w)) ≡ true → (j < k → AttachedAt page starts k)
    → AttachedAt page starts k
passed {page} {starts} {j} {k} h r part more =
    by-lt j k more
    (λ le. subst (AttachedAt page starts) (omega (arith, h, le))
    (record { kind = _; stands = record { item = _; reads = r; same = refl }; part = part }))

module _ {page starts : List ℕ} {i : ℕ} where
  pub sets-low : {j : ℕ} {n : Option ℕ} {u : Times} → Sets page starts i j n u → j ≤ i
  sets-low sets_nothing = omega arith
  sets-low (sets_range r s) = omega (arith, sets-low s)
  sets-low (sets_at r s) = omega (arith, sets-low s)
  sets-low (sets_offset r s) = omega (arith, sets-low s)

  -- all records passed are attached
  pub sets-attached : {j k : ℕ} {n : Option ℕ} {u : Times} → Sets page starts i j n u → j < k → k ≤ i → AttachedAt page starts k
  sets-attached sets_nothing above low = absurd (let z : ⊥ = omega (arith, above, low) in z)
  sets-attached (sets_range r t) above low = passed above r refl (λ h. sets-attached t h low)
  sets-attached (sets_at r t) above low = passed above r refl (λ h. sets-attached t h low)
  sets-attached (sets_offset r t) above low = passed above r refl (λ h. sets-attached t h low)

  module _ (s : Starts page starts (suc i)) where
    pub sets-here : {j : ℕ} {n : Option ℕ} {u : Times} → Sets page starts i j n u → Starts page starts (suc j)
    sets-here t = starts-fewer s (omega (arith, sets-low t))

    pub sets-tree : {j : ℕ} {n : Option ℕ} {u : Times} → Sets page starts i j n u → tree_at page i ≡ settled n u (tree_at page j)
    sets-tree sets_nothing = sym (settled-nothing (tree_at page i))
    sets-tree (sets_range r t) = sets-tree t ∙ chain-range (sets-here t).tables _ _ _ r
    sets-tree (sets_at r t) = sets-tree t ∙ chain-at (sets-here t).tables _ _ _ r
    sets-tree (sets_offset r t) = sets-tree t ∙ chain-offset (sets-here t).tables _ _ _ r

    -- ## Down the chain

    pub chained-start : Chained page starts i i
    chained-start = record { range = _; times = _; sets = sets_nothing }

    module _ {j : ℕ} (chain : Chained page starts i j) where
      pub chained-here : Starts page starts (suc j)
      chained-here = sets-here chain.sets

      by-item : (item : Record) → Reads page starts j item → is_attached (record_kind item) ≡ true → (0 < j) × Chained page starts i (j - 1)
      by-item (leaf (number l)) r h = absurd (false≢true h)
      by-item (leaf (string t)) r h = absurd (false≢true h)
      by-item (leaf (selector v)) r h = absurd (false≢true h)
      by-item (wrapper (range n)) r h = (
        (wrapped chained-here.tables (range n) r).last.some,
        record { range = _; times = _; sets = sets_range r chain.sets },
      )
      by-item (wrapper (subquery n t)) r h = absurd (false≢true h)
      by-item (wrapper (at a)) r h = ((wrapped chained-here.tables (at a) r).last.some, record { range = _; times = _; sets = sets_at r chain.sets })
      by-item (wrapper (offset o)) r h = (
        (wrapped chained-here.tables (offset o) r).last.some,
        record { range = _; times = _; sets = sets_offset r chain.sets },
      )
      by-item (wrapper unary) r h = absurd (false≢true h)
      by-item (wrapper paren) r h = absurd (false≢true h)
      by-item (binary c m) r h = absurd (false≢true h)
      by-item (aggregate c m n) r h = absurd (false≢true h)
      by-item (call f n) r h = absurd (false≢true h)

      -- an attached record is not the first, and the chain goes on below it
      pub chained-part : {kind : ℕ} → KindAt page starts j kind → is_attached kind ≡ true → (0 < j) × Chained page starts i (j - 1)
      chained-part at' part = by-item at'.item at'.reads (ap is_attached at'.same ∙ part)
