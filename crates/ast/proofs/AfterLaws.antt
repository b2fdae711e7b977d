-- Rules that are asked of a record which document 01 accepts: none of them refuses a record of a page that passes
-- (`check_page_by-faultless`). Where nothing is asked before the operands, a page without fault is judged as by document
-- 01 (`check_page_by-unfaulted`), and the first record with a fault is refused for it (`check_page_by-faulted`). By the
-- walk over the first so many records. Assumes nothing.
use Prim.Native.Nat.{ℕ, zero, suc, ◌<◌}
use mathlib.Core.Path.{◌≡◌, refl, ap, ap₂, subst, ◌∙◌}
use mathlib.Core.List.{List, [], ◌∷◌, map}
use mathlib.Core.Option.{Option, none, some}
use native.Mathlib.Omega.{arith}
use lib.ListN.{take, drop}
use lib.Seq.{take_all}
use Rattle.records.specs.Record.{Record, read_page}
use Rattle.ast.specs.Refusal.{Result, refused, ok}
use Rattle.ast.specs.Expr.{Expr, value_type}
use Rattle.ast.specs.Walk.{Walked, stack, proceed, accepted, refused_at, finished, walk}
use Rattle.ast.specs.CheckPage.{apply, check_page}
use Rattle.ast.specs.Table.{record_count}
use Rattle.ast.specs.Rules.{Rules, guarded, ruled, apply_by, check_page_by}
use Rattle.ast.proofs.WalkLaws.{walk_first, walk-then, walk_refused}
use Rattle.ast.proofs.RulesLaws.{ruled-passes, ruled-unasked, finished-accepts}

-- document 01's walk comes to the record at an index with a stack, and lets it by with another
pub record LetBy (i : ℕ) (s : List Expr) (rs : List Record) (k : ℕ) (r : Record) (t u : List Expr) : Type 0 where
  pub later : List Record
  pub stands : drop k rs ≡ r ∷ later
  pub reached : walk apply i s (take k rs) ≡ stack t
  pub passes : apply r t ≡ ok u

-- and so of a page
abbrev pub LetByAt : List ℕ → ℕ → Record → List Expr → List Expr → Type 0
LetByAt page = LetBy 0 [] (read_page page).records

module _ (rules : Rules) where
  -- no rule refuses one of the first n records that document 01 lets by
  abbrev pub Unfaulted : ℕ → ℕ → List Expr → List Record → Type 0
  Unfaulted n i s rs = (k : ℕ) (r : Record) (t u : List Expr) → k < n → LetBy i s rs k r t u → rules.after r (map value_type t) ≡ none

  -- one record more in front
  ahead : (r : Record) (rs : List Record) (i : ℕ) (s v : List Expr) → apply r s ≡ ok v → (k : ℕ) (x : Record) (t u : List Expr)
      → LetBy (suc i) v rs k x t u → LetBy i s (r ∷ rs) (suc k) x t u
  ahead r rs i s v e k x t u h = record {
    later = h.later;
    stands = h.stands;
    reached = walk-then apply r (take k rs) i s t v e h.reached;
    passes = h.passes;
  }

  -- none refuses one of these where a walk under rules passes them
  pub walk-unfaulted : (rs : List Record) (n i : ℕ) (s v : List Expr) → walk (apply_by rules) i s (take n rs) ≡ stack v → Unfaulted n i s rs
  walk-unfaulted rs zero i s v e k r t u below h = absurd (omega arith)
  walk-unfaulted [] (suc n) i s v e zero r t u below h = absurd (let stands = h.stands in let z : ◌≡◌ {A = ℕ} 0 1 = cc in omega arith)
  walk-unfaulted [] (suc n) i s v e (suc k) r t u below h = absurd (let stands = h.stands in let z : ◌≡◌ {A = ℕ} 0 1 = cc in omega arith)
  walk-unfaulted (x ∷ xs) (suc n) i s v e zero r t u below h =
      let first = walk_first (apply_by rules) x (take n xs) i s v e in
      let stands = h.stands in
      let reached = h.reached in
      let item : r ≡ x = cc in
      let same : t ≡ s = cc in
      ap₂ {C = Option ℕ} (λ y z. rules.after y (map value_type z)) item same
      ∙ (ruled-passes rules x (map value_type s) (apply x s) first.0 first.1).after
  walk-unfaulted (x ∷ xs) (suc n) i s v e (suc k) r t u below h =
      let first = walk_first (apply_by rules) x (take n xs) i s v e in
      let passed = (ruled-passes rules x (map value_type s) (apply x s) first.0 first.1).passes in
      let own = walk_first apply x (take k xs) i s t h.reached in
      let passes = own.1 in
      let same : own.0 ≡ first.0 = cc in
      walk-unfaulted xs n (suc i) first.0 v first.2 k r t u (omega arith)
      (record {
        later = h.later;
        stands = h.stands;
        reached = subst (λ (w : List Expr). walk apply (suc i) w (take k xs) ≡ stack t) same own.2;
        passes = h.passes;
      })

  -- none refuses a record of a page that passes
  pub check_page_by-faultless : (page : List ℕ) (t : Expr) (n : ℕ) → check_page_by rules page ≡ accepted t n
      → Unfaulted (record_count page) 0 [] (read_page page).records
  unfolding check_page_by
  check_page_by-faultless page t n e =
      let whole = take_all (record_count page) (read_page page).records (omega arith) in
      let walked = finished-accepts (read_page page).ending (record_count page) n _ t e in
      walk-unfaulted (read_page page).records (record_count page) 0 [] (t ∷ [])
      (ap (walk (apply_by rules) 0 []) whole ∙ walked)

  -- ## Rules that ask nothing before the operands

  module _ (none_before : (r : Record) → rules.before r ≡ none) where
    walk-as-own : (rs : List Record) (n i : ℕ) (s : List Expr) → Unfaulted n i s rs
        → walk (apply_by rules) i s (take n rs) ≡ walk apply i s (take n rs)
    walk-as-own rs zero i s h = refl
    walk-as-own [] (suc n) i s h = refl
    walk-as-own (r ∷ rs) (suc n) i s h = by (λ t g. walk-as-own rs n (suc i) t g) (apply r s) refl
      where
        onward : Result (List Expr) → Walked Expr
        onward x = proceed i x (λ t. walk (apply_by rules) (suc i) t (take n rs))

        here : (t : List Expr) → apply r s ≡ ok t → rules.after r (map value_type s) ≡ none
        here t e = h zero r s t (omega arith) (record { later = rs; stands = refl; reached = refl; passes = e })

        by : ((t : List Expr) → Unfaulted n (suc i) t rs → walk (apply_by rules) (suc i) t (take n rs) ≡ walk apply (suc i) t (take n rs))
            → (x : Result (List Expr)) → apply r s ≡ x
            → onward (ruled rules r (map value_type s) x) ≡ proceed i x (λ t. walk apply (suc i) t (take n rs))
        by more (refused m) e = ap (λ (b : Option ℕ). onward (guarded b (refused m))) (none_before r)
        by more (ok t) e =
            ap onward (ruled-unasked rules r (map value_type s) (ok t) (none_before r) (here t e))
            ∙ more t (λ k x u v below g. h (suc k) x u v (omega arith) (ahead r rs i s t e k x u v g))

    -- a page without fault is judged as by document 01
    pub check_page_by-unfaulted : (page : List ℕ) → Unfaulted (record_count page) 0 [] (read_page page).records
        → check_page_by rules page ≡ check_page page
    unfolding check_page_by check_page
    check_page_by-unfaulted page h =
        let whole = take_all (record_count page) (read_page page).records (omega arith) in
        ap (finished (read_page page).ending (record_count page))
        (subst (λ (rs : List Record). walk (apply_by rules) 0 [] rs ≡ walk apply 0 [] rs) whole
        (walk-as-own (read_page page).records (record_count page) 0 [] h))

    -- the first record with a fault, if document 01 lets it by
    pub check_page_by-faulted : (page : List ℕ) (i n : ℕ) (r : Record) (s t : List Expr) → LetByAt page i r s t
        → Unfaulted i 0 [] (read_page page).records → rules.after r (map value_type s) ≡ some n → check_page_by rules page ≡ refused_at n i
    unfolding check_page_by
    check_page_by-faulted page i n r s t x passed e =
        ap (finished (read_page page).ending (record_count page))
        (walk_refused (apply_by rules) (read_page page).records i s n x.stands
        (walk-as-own (read_page page).records i 0 [] passed ∙ x.reached) refuses)
      where
        refuses : apply_by rules r s ≡ refused n
        refuses = rw (x.passes, none_before r, e) refl
