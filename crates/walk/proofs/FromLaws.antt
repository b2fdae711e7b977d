-- The check of a page by rules from a record on: what is left to read and to do, with the stack so far. One law for each way
-- that a record can go.
use Prim.Native.Nat.{ℕ, zero, suc, ◌+◌, ◌<◌}
use mathlib.Core.Path.{◌≡◌, sym, ap, ◌∙◌}
use mathlib.Core.List.{List, [], ◌∷◌, ◌++◌}
use native.Mathlib.Omega.{arith}
use native.Mathlib.Nat.{add-zero}
use lib.ListN.{length, take, drop}
use Rattle.page.specs.Read.{FieldFault, fault_number, Read, refused as refused_field, got}
use Rattle.records.specs.Record.{Record, Records, followed, read_record, read_records}
use Rattle.ast.specs.Refusal.{refused, ok}
use Rattle.ast.specs.Expr.{Expr}
use Rattle.ast.specs.Walk.{Checked, refused_at, at_end, finished, walk}
use Rattle.ast.specs.Rules.{Rules, apply_by}
use Rattle.records.specs.Record as records

module _ (rules : Rules) where
  abbrev finish_from : ℕ → List Expr → Records → Checked Expr
  finish_from i s page = finished page.ending (i + length page.records) (walk (apply_by rules) i s page.records)

  -- up to `fuel` records from the bytes, of which the first has index i
  abbrev pub check_from : ℕ → ℕ → List Expr → List ℕ → Checked Expr
  check_from fuel i s bytes = finish_from i s (read_records fuel bytes)

  pub from_end : (fuel i : ℕ) (s : List Expr) → check_from fuel i s [] ≡ at_end records.end i s
  from_end zero i s = ap (λ (n : ℕ). at_end records.end n s) (add-zero i)
  from_end (suc fuel) i s = ap (λ (n : ℕ). at_end records.end n s) (add-zero i)

  pub from-over : (i : ℕ) (s : List Expr) (bytes : List ℕ) → 0 < length bytes → check_from 0 i s bytes ≡ refused_at 3 i
  from-over i s [] h = absurd (let z : ⊥ = omega arith in z)
  from-over i s (b ∷ bytes) h = ap (λ (n : ℕ). refused_at 3 n) (add-zero i)

  module _ (fuel i : ℕ) (s : List Expr) where
    pub from-bad : (bytes : List ℕ) (f : FieldFault) → 0 < length bytes → refused_field f ≡ read_record bytes
        → check_from (suc fuel) i s bytes ≡ refused_at (fault_number f) i
    from-bad [] f h e = absurd (let z : ⊥ = omega arith in z)
    from-bad (b ∷ bytes) f h e =
        ap (λ (m : Read Record). finish_from i s (followed m (λ rest. read_records fuel rest))) (sym e)
        ∙ ap (λ (n : ℕ). refused_at (fault_number f) n) (add-zero i)

    -- a record is read: what it does to the stack, and what is left
    module _ {r : Record} {rest : List ℕ} where
      step : (bytes : List ℕ) → 0 < length bytes → got r rest ≡ read_record bytes
          → check_from (suc fuel) i s bytes ≡ finish_from i s (followed (got r rest) (λ rest. read_records fuel rest))
      step [] h e = absurd (let z : ⊥ = omega arith in z)
      step (b ∷ bytes) h e = ap (λ (m : Read Record). finish_from i s (followed m (λ rest. read_records fuel rest))) (sym e)

      pub from-refused : (bytes : List ℕ) (n : ℕ) → 0 < length bytes → got r rest ≡ read_record bytes
          → apply_by rules r s ≡ refused n → check_from (suc fuel) i s bytes ≡ refused_at n i
      from-refused bytes n h e f = step bytes h e ∙ rw f

      pub from_next : (bytes : List ℕ) (t : List Expr) → 0 < length bytes → got r rest ≡ read_record bytes → apply_by rules r s ≡ ok t
          → check_from (suc fuel) i s bytes ≡ check_from fuel (suc i) t rest
      from_next bytes t h e f =
          let size = length (read_records fuel rest).records in
          let index : i + suc size ≡ suc i + size = omega arith in
          step bytes h e ∙ rw (f, index)

-- ## The records that are left

module _ (fuel : ℕ) {r : Record} {rest : List ℕ} where
  pub records-next : (bytes : List ℕ) → 0 < length bytes → got r rest ≡ read_record bytes
      → (read_records (suc fuel) bytes).records ≡ r ∷ (read_records fuel rest).records
  records-next [] h e = absurd (let z : ⊥ = omega arith in z)
  records-next (b ∷ bytes) h e = ap (λ (m : Read Record). (followed m (λ rest. read_records fuel rest)).records) (sym e)

module _ {A : Type 0} where
  -- one element more
  pub take_next : (l : List A) (k : ℕ) {x : A} {xs : List A} → drop k l ≡ x ∷ xs → take (suc k) l ≡ take k l ++ (x ∷ [])
  take_next [] zero e = absurd (let z : ◌≡◌ {A = ℕ} 0 1 = cc in omega arith)
  take_next [] (suc k) e = absurd (let z : ◌≡◌ {A = ℕ} 0 1 = cc in omega arith)
  take_next (y ∷ l) zero {x} {xs} e = let same : y ≡ x = cc in ap {B = List A} (λ z. z ∷ []) same
  take_next (y ∷ l) (suc k) e = ap {B = List A} (λ z. y ∷ z) (take_next l k e)

  pub drop-next : (l : List A) (k : ℕ) {x : A} {xs : List A} → drop k l ≡ x ∷ xs → drop (suc k) l ≡ xs
  drop-next [] zero e = absurd (let z : ◌≡◌ {A = ℕ} 0 1 = cc in omega arith)
  drop-next [] (suc k) e = absurd (let z : ◌≡◌ {A = ℕ} 0 1 = cc in omega arith)
  drop-next (y ∷ l) zero {x} {xs} e = cc
  drop-next (y ∷ l) (suc k) e = drop-next l k e
