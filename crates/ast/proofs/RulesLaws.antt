-- A check by rules. Without rules it is document 01's (`check_page_by-plain`); under any rules a page is accepted only as
-- document 01 accepts it (`check_page_by-accepts`), and rules that say the same of its records judge it alike
-- (`check_page_by-same`). Rules that ask nothing after the operands refuse the first record they find fault with, if
-- document 01's check comes so far (`check_page_by-first`), and else change nothing (`check_page_by-unasked`,
-- `check_page_by-none`). What refuses a page is in `RefusedLaws`. Assumes nothing.
use Prim.Native.Nat.{ℕ, suc, ◌+◌, ◌≤◌, ◌<◌, min}
use mathlib.Core.Path.{◌≡◌, refl, sym, ap, subst, ◌∙◌}
use mathlib.Core.List.{List, [], ◌∷◌, map}
use mathlib.Core.Option.{Option, none, some}
use native.Mathlib.Omega.{arith}
use lib.ListN.{length, take, drop, length-take}
use lib.Seq.{take_all}
use Rattle.page.specs.Allowed.{Each}
use Rattle.records.specs.Kind.{Kind}
use Rattle.records.specs.Record.{Record, Ending, end, unreadable, read_page}
use Rattle.ast.specs.Refusal.{Result, refused, ok, unless, and_then}
use Rattle.ast.specs.Expr.{Expr, value_type}
use Rattle.ast.specs.Walk.{Walked, stack, stopped, Checked, accepted, refused_at, at_end, finished, walk}
use Rattle.ast.specs.Walk.{stack_after}
use Rattle.ast.specs.CheckPage.{apply, check_page}
use Rattle.ast.specs.Table.{record_count}
use Rattle.ast.specs.Rules.{Rules, plain, guarded, ruled, apply_by, check_page_by}
use Rattle.ast.specs.Reached.{reached_count, FirstAsked}
use Rattle.ast.proofs.WalkLaws.{walk_same, walk_first, walk-then, walk-reached, walk-early, walk_refused, walk-within}
use Rattle.ast.proofs.CheckLaws.{CheckedIn, check_page-in}
use Rattle.ast.proofs.EachLaws.{each_all, each_map}

-- ## ruled

module _ {A : Type 0} where
  pub ruled-plain : (r : Record) (ks : List Kind) (x : Result A) → ruled plain r ks x ≡ x
  ruled-plain r ks (refused n) = refl
  ruled-plain r ks (ok a) = refl

  -- no rule refuses it
  pub ruled-unasked : (rules : Rules) (r : Record) (ks : List Kind) (x : Result A) → rules.before r ≡ none → rules.after r ks ≡ none
      → ruled rules r ks x ≡ x
  ruled-unasked rules r ks x e f = rw (e, f) (ruled-plain r ks x)

  -- no rule refuses it, and document 01 does not
  pub record Passes (rules : Rules) (r : Record) (ks : List Kind) (x : Result A) (a : A) : Type 0 where
    pub before : rules.before r ≡ none
    pub passes : x ≡ ok a
    pub after : rules.after r ks ≡ none

  pub ruled-passes : (rules : Rules) (r : Record) (ks : List Kind) (x : Result A) (a : A) → ruled rules r ks x ≡ ok a → Passes rules r ks x a
  ruled-passes rules r ks x a = by (rules.before r) (rules.after r ks) refl refl x
    where
      never : {B : Type 0} (n : ℕ) → refused n ≡ ok a → B
      never n e = absurd (let z : ◌≡◌ {A = ℕ} 0 1 = cc in omega arith)

      by : (b c : Option ℕ) → rules.before r ≡ b → rules.after r ks ≡ c → (x : Result A) → guarded b (and_then x (λ a. unless c a)) ≡ ok a
          → Passes rules r ks x a
      by (some n) c p q x e = never n e
      by none c p q (refused n) e = never n e
      by none (some n) p q (ok s) e = never n e
      by none none p q (ok s) e = record { before = p; passes = e; after = q }

-- ## The walk

module _ (rules : Rules) where
  -- a walk to the end is document 01's
  pub walk-refines : (rs : List Record) (i : ℕ) (s t : List Expr) → walk (apply_by rules) i s rs ≡ stack t → walk apply i s rs ≡ stack t
  walk-refines [] i s t e = e
  walk-refines (r ∷ rs) i s t e =
      let first = walk_first (apply_by rules) r rs i s t e in
      let passed = ruled-passes rules r (map value_type s) (apply r s) first.0 first.1 in
      walk-then apply r rs i s t first.0 passed.passes (walk-refines rs (suc i) first.0 t first.2)

-- an accepted page was walked to the end, and one tree was left
pub finished-accepts : (e : Ending) (i n : ℕ) (w : Walked Expr) (t : Expr) → finished e i w ≡ accepted t n → w ≡ stack (t ∷ [])
finished-accepts e i n (stopped m j) t q = absurd (let z : ◌≡◌ {A = ℕ} 0 1 = cc in omega arith)
finished-accepts (unreadable f) i n (stack s) t q = absurd (let z : ◌≡◌ {A = ℕ} 0 1 = cc in omega arith)
finished-accepts end i n (stack []) t q = absurd (let z : ◌≡◌ {A = ℕ} 0 1 = cc in omega arith)
finished-accepts end i n (stack (u ∷ [])) t q = let same : u ≡ t = cc in ap {B = Walked Expr} (λ x. stack (x ∷ [])) same
finished-accepts end i n (stack (u ∷ v ∷ s)) t q = absurd (let z : ◌≡◌ {A = ℕ} 0 1 = cc in omega arith)

-- a page that passes under rules has document 01's tree
pub check_page_by-accepts : (rules : Rules) (page : List ℕ) (t : Expr) (n : ℕ) → check_page_by rules page ≡ accepted t n → check_page page ≡ accepted t n
unfolding check_page_by check_page
check_page_by-accepts rules page t n e =
    let walked = finished-accepts (read_page page).ending (length (read_page page).records) n _ t e in
    let same = walk-refines rules (read_page page).records 0 [] (t ∷ []) walked in
    ap (finished (read_page page).ending (length (read_page page).records)) (same ∙ sym walked) ∙ e

-- not one tree at the end: the refusal has the number of records
pub end-index : (e : Ending) (i : ℕ) (s : List Expr) (n j : ℕ) → at_end e i s ≡ refused_at n j → j ≡ i
end-index (unreadable f) i s n j e = cc
end-index end i [] n j e = cc
end-index end i (t ∷ []) n j e = absurd (let z : ◌≡◌ {A = ℕ} 0 1 = cc in omega arith)
end-index end i (t ∷ u ∷ s) n j e = cc

-- no rule refuses these records before their operands
abbrev pub Unasked : Rules → List Record → Type 0
Unasked rules = Each (λ r. rules.before r ≡ none)

module _ (rules : Rules) where
  pub walk-unasked : (rs : List Record) (i : ℕ) (s t : List Expr) → walk (apply_by rules) i s rs ≡ stack t → Unasked rules rs
  walk-unasked [] i s t e = tt
  walk-unasked (r ∷ rs) i s t e =
      let first = walk_first (apply_by rules) r rs i s t e in
      ((ruled-passes rules r (map value_type s) (apply r s) first.0 first.1).before, walk-unasked rs (suc i) first.0 t first.2)

-- no rule refuses a record of a page that passes
pub check_page_by-passes : (rules : Rules) (page : List ℕ) (t : Expr) (n : ℕ) → check_page_by rules page ≡ accepted t n
    → Unasked rules (read_page page).records
unfolding check_page_by
check_page_by-passes rules page t n e =
    walk-unasked rules (read_page page).records 0 [] (t ∷ [])
    (finished-accepts (read_page page).ending (length (read_page page).records) n _ t e)

-- rules that say the same of each record of a page say the same of it
pub check_page_by-same : (rules others : Rules) (page : List ℕ)
    → Each (λ r. (s : List Expr) → apply_by rules r s ≡ apply_by others r s) (read_page page).records
    → check_page_by rules page ≡ check_page_by others page
unfolding check_page_by
check_page_by-same rules others page h =
    ap (finished (read_page page).ending (length (read_page page).records))
    (walk_same (apply_by rules) (apply_by others) (read_page page).records 0 [] h)

-- ## Rules that ask nothing after the operands

module _ (rules : Rules) (none_after : (r : Record) (ks : List Kind) → rules.after r ks ≡ none) where
  walk-as-document : (rs : List Record) (i : ℕ) (s : List Expr) → Unasked rules rs → walk (apply_by rules) i s rs ≡ walk apply i s rs
  walk-as-document rs i s h =
      walk_same (apply_by rules) apply rs i s
      (each_map (λ r. rules.before r ≡ none) (λ r. (t : List Expr) → apply_by rules r t ≡ apply r t) rs
      (λ r e t. ruled-unasked rules r (map value_type t) (apply r t) e (none_after r (map value_type t))) h)

  -- a page none of whose records they refuse is judged as by document 01
  pub check_page_by-unasked : (page : List ℕ) → Unasked rules (read_page page).records → check_page_by rules page ≡ check_page page
  unfolding check_page_by check_page
  check_page_by-unasked page h =
      ap (finished (read_page page).ending (length (read_page page).records)) (walk-as-document (read_page page).records 0 [] h)

  -- the first record that they refuse, if document 01 accepts those before it
  pub check_page_by-asked : (page : List ℕ) (i n : ℕ) (r : Record) (later : List Record) (s : List Expr)
      → drop i (read_page page).records ≡ r ∷ later → Unasked rules (take i (read_page page).records)
      → stack_after apply i (read_page page) ≡ stack s → rules.before r ≡ some n → check_page_by rules page ≡ refused_at n i
  unfolding check_page_by
  check_page_by-asked page i n r later s stands passed reached e =
      ap (finished (read_page page).ending (length (read_page page).records))
      (walk_refused (apply_by rules) (read_page page).records i s n stands
      (walk-as-document (take i (read_page page).records) 0 [] passed ∙ reached)
      (ap (λ (b : Option ℕ). guarded b (and_then (apply r s) (λ a. unless (rules.after r (map value_type s)) a))) e))

  -- ### From what document 01's check comes to

  module _ (page : List ℕ) where
    -- it comes to each of these records with a stack
    reached-stack : (k : ℕ) → k < reached_count page (check_page page) → (s : List Expr) × (stack_after apply k (read_page page) ≡ stack s)
    unfolding check_page
    reached-stack k below = by (stack_after apply k (read_page page)) refl
      where
        by : (w : Walked Expr) → stack_after apply k (read_page page) ≡ w → (s : List Expr) × (stack_after apply k (read_page page) ≡ stack s)
        by (stack s) is = (s, is)
        by (stopped n j) is =
            let early = walk-early apply (read_page page).records 0 k [] n j is in
            let inside = walk-within apply (take k (read_page page).records) 0 [] n j is in
            let refuses = ap (λ (w : Walked Expr). reached_count page (finished (read_page page).ending (record_count page) w)) early in
            absurd (omega (arith, below, refuses, inside, length-take k (read_page page).records))

    pub check_page_by-first : (n i : ℕ) → FirstAsked rules.before (read_page page).records (reached_count page (check_page page)) n i
        → check_page_by rules page ≡ refused_at n i
    check_page_by-first n i x =
        let there = reached-stack i x.below in
        check_page_by-asked page i n x.item x.later there.0 x.stands x.passed there.1 x.refuses

    -- every record is one of those
    all-reached : (k : ℕ) → record_count page ≤ k → Unasked rules (take k (read_page page).records) → check_page_by rules page ≡ check_page page
    all-reached k h passed = check_page_by-unasked page (subst (Unasked rules) (take_all k (read_page page).records h) passed)

    -- where document 01's walk stops, it stops among the records that it comes to
    stops-there : (k n i : ℕ) → k ≡ min (suc i) (record_count page) → walk apply 0 [] (read_page page).records ≡ stopped n i
        → walk apply 0 [] (take k (read_page page).records) ≡ stopped n i
    stops-there k n i size is = by (walk apply 0 [] (take k (read_page page).records)) refl
      where
        inside : (0 ≤ i) × (i < 0 + record_count page)
        inside = walk-within apply (read_page page).records 0 [] n i is

        by : (w : Walked Expr) → walk apply 0 [] (take k (read_page page).records) ≡ w → w ≡ stopped n i
        by (stack s) at =
            let onward = walk-reached apply (read_page page).records 0 k [] s at in
            let behind = walk-within apply (drop k (read_page page).records) (0 + length (take k (read_page page).records)) s n i (sym onward ∙ is) in
            absurd (omega (arith, inside, behind.0, size, length-take k (read_page page).records))
        by (stopped m j) at = sym (walk-early apply (read_page page).records 0 k [] m j at) ∙ is

    refused_as : (n i : ℕ) → check_page page ≡ refused_at n i → Unasked rules (take (min (suc i) (record_count page)) (read_page page).records)
        → check_page_by rules page ≡ check_page page
    unfolding check_page_by check_page
    refused_as n i is passed = by (walk apply 0 [] (read_page page).records) refl is
      where
        by : (w : Walked Expr) → walk apply 0 [] (read_page page).records ≡ w → finished (read_page page).ending (record_count page) w ≡ refused_at n i
            → finished (read_page page).ending (record_count page) (walk (apply_by rules) 0 [] (read_page page).records)
            ≡ finished (read_page page).ending (record_count page) (walk apply 0 [] (read_page page).records)
        by (stack s) at e =
            let last = end-index (read_page page).ending (record_count page) s n i e in
            let whole = take_all (min (suc i) (record_count page)) (read_page page).records (omega (arith, last)) in
            ap (finished (read_page page).ending (record_count page))
            (walk-as-document (read_page page).records 0 [] (subst (Unasked rules) whole passed))
        by (stopped m j) at e =
            let index : j ≡ i = cc in
            let there = stops-there (min (suc i) (record_count page)) m j (ap (λ (k : ℕ). min (suc k) (record_count page)) (sym index)) at in
            let same = walk-as-document (take (min (suc i) (record_count page)) (read_page page).records) 0 [] passed in
            ap (finished (read_page page).ending (record_count page))
            (walk-early (apply_by rules) (read_page page).records 0 (min (suc i) (record_count page)) [] m j (same ∙ there) ∙ sym at)

    -- no rule refuses a record that document 01's check comes to
    pub check_page_by-none : Unasked rules (take (reached_count page (check_page page)) (read_page page).records)
        → check_page_by rules page ≡ check_page page
    check_page_by-none = by (check_page page) refl (check_page-in page)
      where
        by : (c : Checked Expr) → check_page page ≡ c → CheckedIn (record_count page) c
            → Unasked rules (take (reached_count page c) (read_page page).records) → check_page_by rules page ≡ check_page page
        by (accepted e n) is size passed = all-reached n (omega arith) passed
        by (refused_at n i) is size passed = refused_as n i is passed

-- ## Without rules

pub check_page_by-plain : (page : List ℕ) → check_page_by plain page ≡ check_page page
check_page_by-plain page =
    check_page_by-unasked plain (λ r ks. refl) page (each_all (λ r. plain.before r ≡ none) (read_page page).records (λ r. refl))
