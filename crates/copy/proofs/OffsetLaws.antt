-- An offset of a walk in the copy: it stands right behind the @ that is behind it, or where it was. Behind both comes no
-- other @, since a second one is refused with 10, and behind an offset no other, which is refused with 12.
-- Assumes nothing.
use Prim.Native.Nat.{ℕ, zero, suc}
use mathlib.Core.Path.{◌≡◌, refl, ap, subst}
use mathlib.Core.Bool.{false}
use mathlib.Core.List.{List, [], ◌∷◌}
use lib.ListN.{drop}
use Rattle.records.specs.Time.{Offset, AtModifier}
use Rattle.records.specs.Record.{at, offset, Record, wrapper}
use Rattle.ast.specs.Refusal.{ok}
use Rattle.ast.specs.Expr.{Expr}
use Rattle.ast.specs.CheckPage.{apply}
use Rattle.ast.proofs.WalkLaws.{walk_first, walk-index}
use Rattle.copy.specs.Copy.{copy_offset, copy_records}
use Rattle.copy.specs.Settled.{start_with}
use Rattle.copy.specs.Starts.{Walks}
use Rattle.copy.proofs.FrontLaws.{copy_offset-by, copy_offset-alone, copy_record-first}
use Rattle.copy.proofs.TimesLaws.{at_once, offset-once}
use Rattle.copy.proofs.CopyLaws.{Ends, copy_records-walk}

-- ## Walks

-- the records after the first lead on from the stack that it left
pub walks_next : (r : Record) (rs : List Record) → Walks (r ∷ rs) → Walks rs
walks_next r rs w =
    let (u, first, more) = walk_first apply r rs 0 w.before w.after (w.walks 0) in
    record { before = u; after = w.after; walks = λ i. walk-index apply rs 1 i u w.after more }

pub walks-drop : (i : ℕ) (rs : List Record) → Walks rs → Walks (drop i rs)
walks-drop zero rs w = w
walks-drop (suc i) [] w = w
walks-drop (suc i) (r ∷ rs) w = walks-drop i rs (walks_next r rs w)

-- ## An offset right before an @

module _ (o : Offset) where
  behind-at : (a : AtModifier) (s u t : List Expr) → apply (wrapper (at a)) s ≡ ok u → (rs : List Record) → Ends u rs t
      → copy_offset o rs ≡ wrapper (offset o) ∷ rs
  behind-at a s u t e =
      copy_offset-by o (λ rs qs. Ends u rs t → qs ≡ wrapper (offset o) ∷ rs) (λ rs h walks. refl)
      (λ b rs qs more walks.
      let (v, again, behind) = walk_first apply (wrapper (at b)) rs 0 u t (walks 0) in
      at_once a b s u v e again)

  pub offset-before-at : (a : AtModifier) (rs : List Record) → Walks (wrapper (offset o) ∷ wrapper (at a) ∷ rs)
      → copy_records (wrapper (offset o) ∷ wrapper (at a) ∷ rs) ≡ wrapper (at a) ∷ wrapper (offset o) ∷ copy_records rs
  offset-before-at a rs w =
      let from_at = walks_next (wrapper (offset o)) (wrapper (at a) ∷ rs) w in
      let (u, set, more) = walk_first apply (wrapper (at a)) rs 0 from_at.before from_at.after (from_at.walks 0) in
      ap {B = List Record} (λ xs. wrapper (at a) ∷ xs)
      (behind-at a from_at.before u from_at.after set (copy_records rs) (copy_records-walk rs 1 u from_at.after more))

  -- ## Any other offset

  no-at-first : (rs : List Record) → Walks (wrapper (offset o) ∷ rs) → start_with 5 rs ≡ false → start_with 5 (copy_records rs) ≡ false
  no-at-first [] w h = refl
  no-at-first (r ∷ rs) w h = copy_record-first 5 r (copy_records rs) h again
    where
      again : (p : Offset) → r ≡ wrapper (offset p) → start_with 5 (copy_offset p (copy_records rs)) ≡ false
      again p is =
          let (u, set, more) = walk_first apply (wrapper (offset o)) (r ∷ rs) 0 w.before w.after (w.walks 0) in
          let (v, next, behind) = walk_first apply r rs 1 u w.after more in
          offset-once o p w.before u v set (subst (λ (x : Record). apply x u ≡ ok v) is next)

  pub offset-alone : (rs : List Record) → Walks (wrapper (offset o) ∷ rs) → start_with 5 rs ≡ false
      → copy_records (wrapper (offset o) ∷ rs) ≡ wrapper (offset o) ∷ copy_records rs
  offset-alone rs w h = copy_offset-alone o (copy_records rs) (no-at-first rs w h)
