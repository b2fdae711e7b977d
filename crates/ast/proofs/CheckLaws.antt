-- The record that the check refuses: a refusal above 4 is that of the record named, on a stack of checked trees
-- (`check-refuses`), and every refusal is one of the table (`check-in`). Assumes nothing.
use Prim.Native.Nat.{ℕ, ◌≤◌, ◌<◌}
use mathlib.Core.Path.{◌≡◌, refl, ap, ap₂, subst}
use mathlib.Core.List.{List, [], ◌∷◌}
use native.Mathlib.Omega.{arith}
use lib.ListN.{length, drop, length-drop}
use lib.Dec.{T}
use Rattle.page.specs.Read.{bad_field, past_limit, bad_text}
use Rattle.records.specs.Allowed.{IsAllowed}
use Rattle.records.specs.Kind.{Kind}
use Rattle.records.specs.Outcome.{answer, refusal}
use Rattle.records.proofs.PageLaws.{read_page-allowed}
use Rattle.records.specs.Record.{Record, Ending, end, unreadable, read_page}
use Rattle.ast.specs.Refusal.{Result, ok}
use Rattle.ast.specs.Expr.{Expr}
use Rattle.ast.specs.Walk.{Walked, stack, stopped, Checked, accepted, refused_at, at_end, finished, walk}
use Rattle.ast.specs.CheckPage.{apply, check_page, outcome_of, check}
use Rattle.ast.specs.Table.{is_of_check, record_count, InTable}
use Rattle.ast.proofs.SoundLaws.{AllSound, SoundStack, apply-sound}
use Rattle.ast.proofs.RefusalLaws.{RefusedIn, is_of_record, apply-refuses, is_of_record-check}
use Rattle.ast.proofs.WalkLaws.{Refuses, StoppedAt, walk-stops}

-- ## What an outcome says

pub answered : (c : Checked Expr) (kind : Kind) (written : ℕ) → outcome_of c ≡ answer kind written
    → (t : Expr) × (n : ℕ) × (c ≡ accepted t n)
answered (accepted t n) kind written e = (t, n, refl)
answered (refused_at n i) kind written e = absurd (let z : ◌≡◌ {A = ℕ} 0 1 = cc in omega arith)

pub refused_with : (c : Checked Expr) (n i : ℕ) → outcome_of c ≡ refusal n i → c ≡ refused_at n i
refused_with (accepted t m) n i e = absurd (let z : ◌≡◌ {A = ℕ} 0 1 = cc in omega arith)
refused_with (refused_at m j) n i e =
    let number : m ≡ n = cc in
    let index : j ≡ i = cc in
    ap₂ {C = Checked Expr} refused_at number index

-- ## The refused record

-- the record that the check refuses, on a stack of checked trees
abbrev pub RefusesRecord : List ℕ → ℕ → ℕ → Type 0
RefusesRecord page = Refuses apply IsAllowed AllSound (read_page page).records

keeps-sound : (r : Record) (s t : List Expr) → IsAllowed r → AllSound s → apply r s ≡ ok t → AllSound t
keeps-sound r s t a h e = subst (λ (x : Result (List Expr)). SoundStack x) e (apply-sound r s a h)

abbrev StopsAt : List ℕ → Walked Expr → Type 0
StopsAt page = StoppedAt apply IsAllowed AllSound 0 (read_page page).records

page-stops : (page : List ℕ) → StopsAt page (walk apply 0 [] (read_page page).records)
page-stops page = walk-stops apply IsAllowed AllSound keeps-sound (read_page page).records 0 [] (read_page-allowed page) tt

refuses-number : (page : List ℕ) (k n : ℕ) (x : RefusesRecord page k n) → T (is_of_record x.refused_record n)
refuses-number page k n x =
    subst (λ (y : Result (List Expr)). RefusedIn (is_of_record x.refused_record) y) x.is_refusal
    (apply-refuses x.refused_record x.stack_before x.holds)

-- ### A refusal above 4 is that of a record

-- 1 to 4 stand after the last record
end-number : (e : Ending) (n i k : ℕ) (s : List Expr) → outcome_of (at_end e k s) ≡ refusal n i → n ≤ 4
end-number (unreadable bad_field) n i k s q = let z : ◌≡◌ {A = ℕ} 1 n = cc in omega arith
end-number (unreadable past_limit) n i k s q = let z : ◌≡◌ {A = ℕ} 3 n = cc in omega arith
end-number (unreadable bad_text) n i k s q = let z : ◌≡◌ {A = ℕ} 4 n = cc in omega arith
end-number end n i k [] q = let z : ◌≡◌ {A = ℕ} 2 n = cc in omega arith
end-number end n i k (e ∷ []) q = absurd (let z : ◌≡◌ {A = ℕ} 0 1 = cc in omega arith)
end-number end n i k (e ∷ x ∷ s) q = let z : ◌≡◌ {A = ℕ} 2 n = cc in omega arith

pub check-refuses : (page : List ℕ) (n i : ℕ) → 4 < n → check page ≡ refusal n i
    → (x : RefusesRecord page i n) × T (is_of_record x.refused_record n)
unfolding check_page
check-refuses page n i above = by (walk apply 0 [] (read_page page).records) (page-stops page)
  where
    by : (w : Walked Expr) → StopsAt page w → outcome_of (finished (read_page page).ending (record_count page) w) ≡ refusal n i
        → (x : RefusesRecord page i n) × T (is_of_record x.refused_record n)
    by (stack s) h q = absurd (let below = end-number (read_page page).ending n i (record_count page) s q in omega arith)
    by (stopped m j) (k, e, x) q =
        let number : m ≡ n = cc in
        let index : j ≡ i = cc in
        let same : k ≡ i = omega arith in
        let here : RefusesRecord page i n = subst (λ (y : ℕ). RefusesRecord page i y) number (subst (λ (y : ℕ). RefusesRecord page y m) same x) in
        (here, refuses-number page i n here)

-- ## Every refusal is one of the table

module _ {A : Type 0} where
  -- a refusal lies in the table, and its record before this index, or at it
  abbrev pub CheckedIn : ℕ → Checked A → Type 0
  CheckedIn n (accepted a k) = k ≡ n
  CheckedIn n (refused_at k j) = T (is_of_check k) × (j ≤ n)

  end-in : (e : Ending) (n : ℕ) (s : List A) → CheckedIn n (at_end e n s)
  end-in (unreadable bad_field) n s = (tt, omega arith)
  end-in (unreadable past_limit) n s = (tt, omega arith)
  end-in (unreadable bad_text) n s = (tt, omega arith)
  end-in end n [] = (tt, omega arith)
  end-in end n (a ∷ []) = refl
  end-in end n (a ∷ b ∷ s) = (tt, omega arith)

-- an index with a record is below their number
pub index_below : (k : ℕ) (rs : List Record) {r : Record} {later : List Record} → drop k rs ≡ r ∷ later → k ≤ length rs
index_below k rs e = let sizes = ap length e in omega (arith, sizes, length-drop k rs)

pub check_page-in : (page : List ℕ) → CheckedIn (record_count page) (check_page page)
unfolding check_page
check_page-in page = by (walk apply 0 [] (read_page page).records) (page-stops page)
  where
    by : (w : Walked Expr) → StopsAt page w → CheckedIn (record_count page) (finished (read_page page).ending (record_count page) w)
    by (stack s) h = end-in (read_page page).ending (record_count page) s
    by (stopped n j) (k, e, x) = (
      is_of_record-check x.refused_record n (refuses-number page k n x),
      (let below = index_below k (read_page page).records x.is_record in omega arith),
    )

-- every refusal of the check is one of the table but 5, and its record one of the page's or their number
pub check-in : (page : List ℕ) → InTable is_of_check page (check page)
check-in page = checked (check_page page) (check_page-in page)
  where
    checked : (c : Checked Expr) → CheckedIn (record_count page) c → InTable is_of_check page (outcome_of c)
    checked (accepted e k) h = tt
    checked (refused_at k j) h = h
