-- What refuses a page under rules (`check_page_by-refuses`): a rule that is asked of the record named, or document 01's
-- own check; and neither refuses a record before it. By where the walk stopped. Assumes nothing.
use Prim.Native.Nat.{ℕ, suc, ◌+◌, ◌≤◌}
use mathlib.Core.Path.{◌≡◌, refl, sym, ap, ap₂, ◌∙◌}
use mathlib.Core.List.{List, [], ◌∷◌, map}
use mathlib.Core.Option.{Option, none, some}
use native.Mathlib.Nat.{add-zero}
use native.Mathlib.Omega.{arith}
use lib.ListN.{length, take, drop, length-drop}
use lib.Seq.{length-take-le, take_all}
use Rattle.records.specs.Kind.{Kind}
use Rattle.records.specs.Record.{Record, Records, read_page}
use Rattle.ast.specs.Refusal.{Result, refused, ok, unless, and_then}
use Rattle.ast.specs.Expr.{Expr, value_type}
use Rattle.ast.specs.Walk.{Walked, stack, stopped, proceed, refused_at, at_end, finished, walk}
use Rattle.ast.specs.Walk.{stack_after, walk_page}
use Rattle.ast.specs.CheckPage.{apply, check_page}
use Rattle.ast.specs.Rules.{Rules, guarded, ruled, apply_by, check_page_by}
use Rattle.ast.proofs.WalkLaws.{walk-then, walk-reached, walk_refused, walk-within}
use Rattle.ast.proofs.EachLaws.{each_take, each-one}
use Rattle.ast.proofs.RulesLaws.{walk-refines, end-index, Unasked, walk-unasked}
use Rattle.ast.proofs.AfterLaws.{LetByAt, Unfaulted, walk-unfaulted}

-- ## A page that is refused under rules

module _ (rules : Rules) where
  -- where a walk under rules stopped: the records before it pass
  pub record StoppedBy (rs : List Record) (i : ℕ) (s : List Expr) (n j : ℕ) : Type 0 where
    pub place : ℕ
    pub index : j ≡ i + place
    pub item : Record
    pub later : List Record
    pub stands : drop place rs ≡ item ∷ later
    pub stack_before : List Expr
    pub reached : walk (apply_by rules) i s (take place rs) ≡ stack stack_before
    pub refuses : apply_by rules item stack_before ≡ refused n

  walk-stopped : (rs : List Record) (i : ℕ) (s : List Expr) (n j : ℕ) → walk (apply_by rules) i s rs ≡ stopped n j → StoppedBy rs i s n j
  walk-stopped [] i s n j e = absurd (let z : ◌≡◌ {A = ℕ} 0 1 = cc in omega arith)
  walk-stopped (r ∷ rs) i s n j e = by (λ t q. walk-stopped rs (suc i) t n j q) (apply_by rules r s) refl e
    where
      index : (k : ℕ) → j ≡ suc i + k → j ≡ i + suc k
      index k e = omega arith

      behind : (t : List Expr) → apply_by rules r s ≡ ok t → StoppedBy rs (suc i) t n j → StoppedBy (r ∷ rs) i s n j
      behind t e x = record {
        place = suc x.place;
        index = index x.place x.index;
        item = x.item;
        later = x.later;
        stands = x.stands;
        stack_before = x.stack_before;
        reached = walk-then (apply_by rules) r (take x.place rs) i s x.stack_before t e x.reached;
        refuses = x.refuses;
      }

      by : ((t : List Expr) → walk (apply_by rules) (suc i) t rs ≡ stopped n j → StoppedBy rs (suc i) t n j)
          → (x : Result (List Expr)) → apply_by rules r s ≡ x
          → proceed i x (λ t. walk (apply_by rules) (suc i) t rs) ≡ stopped n j → StoppedBy (r ∷ rs) i s n j
      by more (refused m) is e =
          let number : m ≡ n = cc in
          let at : i ≡ j = cc in
          record {
            place = 0;
            index = sym at ∙ sym (add-zero i);
            item = r;
            later = rs;
            stands = refl;
            stack_before = s;
            reached = refl;
            refuses = is ∙ ap {B = Result (List Expr)} refused number;
          }
      by more (ok t) is e = behind t is (more t e)

  -- ### What refuses a page

  pub data Cause (page : List ℕ) (n i : ℕ) : Type 0 where
    -- a rule, asked of the record before its operands are counted
    before : (r : Record) (later : List Record) → drop i (read_page page).records ≡ r ∷ later → rules.before r ≡ some n
        → Cause page n i
    -- document 01's check, where no rule refuses that record before its operands
    document : check_page page ≡ refused_at n i → Unasked rules (take (suc i) (read_page page).records) → Cause page n i
    -- a rule, asked of the record that document 01 accepts
    after : (r : Record) (s t : List Expr) → LetByAt page i r s t → rules.after r (map value_type s) ≡ some n → Cause page n i

  pub record RefusedUnder (page : List ℕ) (n i : ℕ) : Type 0 where
    pub cause : Cause page n i
    -- no rule refuses a record before it, neither before its operands nor after
    pub passed : Unasked rules (take i (read_page page).records)
    pub unfaulted : Unfaulted rules i 0 [] (read_page page).records
    -- and neither does document 01
    pub first : (m j : ℕ) → check_page page ≡ refused_at m j → i ≤ j

-- a record that is refused under rules
refused-by : (rules : Rules) (r : Record) (ks : List Kind) (n : ℕ) (x : Result (List Expr)) (C : Type 0) → ruled rules r ks x ≡ refused n
    → (rules.before r ≡ some n → C) → (rules.before r ≡ none → x ≡ refused n → C)
    → ((t : List Expr) → x ≡ ok t → rules.after r ks ≡ some n → C) → C
refused-by rules r ks n x C e first own last = by (rules.before r) (rules.after r ks) x refl refl refl e
  where
    number : {m : ℕ} → ◌≡◌ {A = Result (List Expr)} (refused m) (refused n) → m ≡ n
    number q = cc

    by : (b c : Option ℕ) (y : Result (List Expr)) → rules.before r ≡ b → rules.after r ks ≡ c → x ≡ y
        → guarded b (and_then y (λ a. unless c a)) ≡ refused n → C
    by (some m) c y p q is e = first (p ∙ ap {B = Option ℕ} some (number e))
    by none c (refused m) p q is e = own p (is ∙ e)
    by none (some m) (ok t) p q is e = last t is (q ∙ ap {B = Option ℕ} some (number e))
    by none none (ok t) p q is e = absurd (let z : ◌≡◌ {A = ℕ} 0 1 = cc in omega arith)

-- where records before were reached, none of them is refused
reached-first : (p : Records) (k : ℕ) (s : List Expr) (m j : ℕ) → k ≤ length p.records
    → walk apply 0 [] (take k p.records) ≡ stack s → walk_page apply p ≡ refused_at m j → k ≤ j
reached-first p k s m j h reached = by (walk apply 0 [] p.records) (walk-reached apply p.records 0 k [] s reached)
  where
    size : length (take k p.records) ≡ k
    size = length-take-le k p.records h

    by : (w : Walked Expr) → w ≡ walk apply (0 + length (take k p.records)) s (drop k p.records)
        → finished p.ending (length p.records) w ≡ refused_at m j → k ≤ j
    by (stack t) is e = let at = end-index p.ending (length p.records) t m j e in omega arith
    by (stopped n i) is e =
        let at : i ≡ j = cc in
        let behind = walk-within apply (drop k p.records) (0 + length (take k p.records)) s n i (sym is) in
        omega (arith, behind.0, size, at)

module _ (rules : Rules) where
  module _ (page : List ℕ) (n i : ℕ) where
    -- refused at its end
    end-refuses : (s : List Expr) → walk (apply_by rules) 0 [] (read_page page).records ≡ stack s
        → at_end (read_page page).ending (length (read_page page).records) s ≡ refused_at n i → RefusedUnder rules page n i
    unfolding check_page
    end-refuses s is e =
        let last = end-index (read_page page).ending (length (read_page page).records) s n i e in
        let whole = take_all i (read_page page).records (omega (arith, last)) in
        let own : check_page page ≡ refused_at n i =
        ap (finished (read_page page).ending (length (read_page page).records)) (walk-refines rules (read_page page).records 0 [] s is) ∙ e in
        record {
          cause = document own
              (each_take (λ r. rules.before r ≡ none) (suc i) (read_page page).records
              (walk-unasked rules (read_page page).records 0 [] s is));
          passed = each_take (λ r. rules.before r ≡ none) i (read_page page).records (walk-unasked rules (read_page page).records 0 [] s is);
          unfaulted = walk-unfaulted rules (read_page page).records i 0 [] s (ap (walk (apply_by rules) 0 []) whole ∙ is);
          first = λ m j q. let at : i ≡ j = cc in omega arith;
        }

    module _ (x : StoppedBy rules (read_page page).records 0 [] n i) where
      at_place : x.place ≡ i
      at_place = omega (arith, x.index)

      abbrev records : List Record
      records = (read_page page).records

      stands_at : drop i records ≡ x.item ∷ x.later
      stands_at = ap (λ (k : ℕ). drop k records) (sym at_place) ∙ x.stands

      walked_at : walk (apply_by rules) 0 [] (take i records) ≡ stack x.stack_before
      walked_at = ap (λ (k : ℕ). walk (apply_by rules) 0 [] (take k records)) (sym at_place) ∙ x.reached

      reached-at : stack_after apply i (read_page page) ≡ stack x.stack_before
      reached-at = walk-refines rules (take i records) 0 [] x.stack_before walked_at

      inside : i ≤ length records
      inside = let sizes = ap length stands_at in omega (arith, sizes, length-drop i records)

      -- refused by document 01 there
      own : apply x.item x.stack_before ≡ refused n → check_page page ≡ refused_at n i
      unfolding check_page
      own e =
          ap (finished (read_page page).ending (length records)) (walk_refused apply records i x.stack_before n stands_at reached-at e)

      passed-at : Unasked rules (take i records)
      passed-at = walk-unasked rules (take i records) 0 [] x.stack_before walked_at

      passed_on : rules.before x.item ≡ none → Unasked rules (take (suc i) records)
      passed_on p = each-one (λ r. rules.before r ≡ none) records i stands_at passed-at p

      let_by : (t : List Expr) → apply x.item x.stack_before ≡ ok t → LetByAt page i x.item x.stack_before t
      let_by t e = record { later = x.later; stands = stands_at; reached = reached-at; passes = e }

      record-refuses : RefusedUnder rules page n i
      unfolding check_page
      record-refuses = record {
        cause = refused-by rules x.item (map value_type x.stack_before) n (apply x.item x.stack_before) (Cause rules page n i) x.refuses
            (λ e. before x.item x.later stands_at e)
            (λ p e. document (own e) (passed_on p))
            (λ t e f. after x.item x.stack_before t (let_by t e) f);
        passed = passed-at;
        unfaulted = walk-unfaulted rules records i 0 [] x.stack_before walked_at;
        first = λ m j q. reached-first (read_page page) i x.stack_before m j inside reached-at q;
      }

    pub check_page_by-refuses : check_page_by rules page ≡ refused_at n i → RefusedUnder rules page n i
    unfolding check_page_by
    check_page_by-refuses = by (walk (apply_by rules) 0 [] (read_page page).records) refl
      where
        by : (w : Walked Expr) → walk (apply_by rules) 0 [] (read_page page).records ≡ w
            → finished (read_page page).ending (length (read_page page).records) w ≡ refused_at n i → RefusedUnder rules page n i
        by (stack s) is e = end-refuses s is e
        by (stopped m j) is e =
            let number : m ≡ n = cc in
            let index : j ≡ i = cc in
            record-refuses (walk-stopped rules (read_page page).records 0 [] n i (is ∙ ap₂ {C = Walked Expr} stopped number index))
