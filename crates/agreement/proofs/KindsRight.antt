-- Demand 3: the outcome of any page says what `Demand3.Says` asks, for any check that meets `Agreeing` (`says`). By
-- induction on the records: the kinds and bare numbers of the working-out's stack are those of the checker's (`right`),
-- record by record. Document 01's check is such a check (`kinds_right_with`). Assumes nothing.
use Prim.Native.Nat.{ℕ, suc, ◌+◌, ◌≤◌, min}
use mathlib.Core.Path.{◌≡◌, refl, sym, ap, ap₂, ◌∙◌, subst}
use mathlib.Core.Bool.{Bool, true, false, not, true≢false, false≢true}
use mathlib.Core.List.{List, [], ◌∷◌, map, tail, cons-ne-nil}
use mathlib.Core.Option.{Option}
use native.Mathlib.Nat.{zero-add, add-zero, suc-add, add-suc}
use native.Mathlib.Omega.{arith}
use lib.ListN.{length, take, drop, length-map, length-reverse, length-take}
use lib.Dec.{T, leb, leb→le, eqb}
use Rattle.page.specs.Bytes.{pick, all, any}
use Rattle.page.specs.Read.{FieldFault, bad_field, past_limit, bad_text, fault_number}
use Rattle.page.proofs.NumberLaws.{left-of, right_of}
use Rattle.records.specs.Kind.{Kind}
use Rattle.records.specs.Literal.{Literal}
use Rattle.records.specs.Record.{Record, operands, Ending, end, unreadable, Records, read_page}
use Rattle.records.specs.Stack.{operands_of}
use Rattle.ast.specs.Refusal.{Result, refused, ok}
use Rattle.ast.specs.Expr.{Expr, value_type, scalar_value}
use Rattle.ast.specs.Walk.{Walked, stack as stack_of, Checked, accepted, refused_at, proceed, finished, walk, walk_page}
use Rattle.ast.specs.CheckPage.{apply, check_page, outcome_of, check}
use Rattle.ast.proofs.StackLaws.{map-drop, map-operands_of}
use Rattle.working_out.specs.Asked.{are_as_asked, kind_given, is_in_place}
use Rattle.working_out.specs.WorkingOut.{Value, Step, ended, WorkedOut, kinds, step_of, bare_number, is_set_aside, put_back, put_bare, work_records, work_page}
use Rattle.working_out.specs.Demand3.{kind_refusals, documented_refusals, nothing_set_aside, all_as_asked, RunsClean, MeetsFirst, Says, KindsRightWith}
use Rattle.agreement.proofs.Bools.{both, either_left, either-right}
use Rattle.agreement.proofs.Lists.{all_drop, all-operands_of}
use Rattle.agreement.proofs.TreeOf.{tree_of, pushed, on_operands, apply-operands, is_formed, ClaimFor, RecordClaimFor}
use Rattle.agreement.proofs.Trees.{record-claim}

-- what the induction asks of a check: of what is set aside, its kind refusals and the effect of its records
pub record Agreeing (aside : Record → List Kind → List (Option Literal) → Bool) (for_kinds : List ℕ)
    (effect : Record → List Expr → Result (List Expr)) : Type 0 where
  -- a record that cannot be read, or is short of operands, is not refused for kinds
  pub unread : (f : FieldFault) → T (any (eqb (fault_number f)) for_kinds) → ⊥
  pub short : T (any (eqb 2) for_kinds) → ⊥
  -- the tree that a record makes of its operands, and what it says of the record
  pub tree : Record → List Expr → Result Expr
  pub takes : (r : Record) (stack : List Expr) → effect r stack ≡ on_operands tree r stack
  pub claims : (r : Record) (es : List Expr) → length es ≡ operands r → T (all is_formed es) → RecordClaimFor aside for_kinds tree r es

-- so many operands are there
operands-length : {A : Type 0} (n : ℕ) (l : List A) → T (leb n (length l)) → length (operands_of n l) ≡ n
operands-length n l h = length-reverse (take n l) ∙ length-take n l ∙ least (leb→le n (length l) h)
  where
    least : n ≤ length l → min n (length l) ≡ n
    least h = omega arith

module _ {aside : Record → List Kind → List (Option Literal) → Bool} {for_kinds : List ℕ}
    {effect : Record → List Expr → Result (List Expr)} (agreeing : Agreeing aside for_kinds effect) {C : Type 0} (contents : ℕ → C) where
  -- what an outcome of the records from record i on says of their working-out
  abbrev Claim : ℕ → WorkedOut C → Checked Expr → Type 0
  Claim i w (accepted e n) = T (nothing_set_aside w.steps) → RunsClean (value_type e) w
  Claim i w (refused_at n j) =
      T (any (eqb n) for_kinds) → (d : ℕ) × (j ≡ d + i) × (T (nothing_set_aside (take d w.steps)) → MeetsFirst d w.steps)

  abbrev nothing : WorkedOut C
  nothing = record { steps = []; finish = ended }

  -- a record that gave an expression: the claim of the records after it, one record on
  after : (i : ℕ) (is_aside asked : Bool) (w : WorkedOut C) (c : Checked Expr) → (T (not is_aside) → T asked)
      → Claim (suc i) w c → Claim i (step_of true is_aside asked w) c
  after i is_aside asked w (accepted e n) h f =
      λ g.
      let rest : RunsClean (value_type e) w = f (right_of (not is_aside) (nothing_set_aside w.steps) g) in
      (both asked (all_as_asked w.steps) (h (left-of (not is_aside) (nothing_set_aside w.steps) g)) rest.0, rest.1)
  after i is_aside asked w (refused_at n j) h f =
      λ k. (
        suc (f k).0,
        (f k).1 ∙ add-suc (f k).0 i ∙ sym (suc-add (f k).0 i),
        λ g.
            let rest : MeetsFirst (f k).0 w.steps = (f k).2 (right_of (not is_aside) (nothing_set_aside (take (f k).0 w.steps)) g) in (
              both asked (all_as_asked (take (f k).0 w.steps)) (h (left-of (not is_aside) (nothing_set_aside (take (f k).0 w.steps)) g)) rest.0,
              rest.1,
            ),
      )

  -- an accepted record out of place is set aside
  never : (i : ℕ) (is_aside asked : Bool) (w : WorkedOut C) (c : Checked Expr) → (T (not is_aside) → ⊥)
      → Claim (suc i) w c → Claim i (step_of false is_aside asked w) c
  never i is_aside asked w (accepted e n) h f = λ g. absurd (h (left-of (not is_aside) true g))
  never i is_aside asked w (refused_at n j) h f =
      λ k. (
        suc (f k).0,
        (f k).1 ∙ add-suc (f k).0 i ∙ sym (suc-add (f k).0 i),
        λ g. absurd (h (left-of (not is_aside) (nothing_set_aside (take (f k).0 [])) g)),
      )

  step : (x : Ending) (count i : ℕ) (is_aside p a : Bool) (k : Kind) (l : Option Literal) (w : WorkedOut C)
      (below : List Expr) (rs : List Record) (r : Result Expr)
      → ClaimFor for_kinds (not is_aside) p a k l r
      → ((e : Expr) → k ≡ value_type e → l ≡ scalar_value e → T (is_formed e) → Claim (suc i) w (finished x count (walk effect (suc i) (e ∷ below) rs)))
      → Claim i (step_of p is_aside a w) (finished x count (proceed i (pushed below r) (λ s. walk effect (suc i) s rs)))
  step x count i is_aside true a k l w below rs (refused n) c f = λ kind. (0, sym (zero-add i), λ g. (tt, either_left (not a) false (c kind).1))
  step x count i is_aside false a k l w below rs (refused n) c f = λ kind. absurd (c kind).0
  step x count i is_aside true a k l w below rs (ok e) c f =
      after i is_aside a w (finished x count (walk effect (suc i) (e ∷ below) rs)) (λ g. (c.0 g).1) (f e c.1 c.2 c.3)
  step x count i is_aside false a k l w below rs (ok e) c f =
      never i is_aside a w (finished x count (walk effect (suc i) (e ∷ below) rs)) (λ g. (c.0 g).0) (f e c.1 c.2 c.3)

  -- the test for missing operands, on both sides
  tested : (x : Ending) (count i : ℕ) (b c : Bool) → b ≡ c → (w : WorkedOut C) (r : Result (List Expr)) (more : List Expr → Walked Expr)
      → (T b → Claim i w (finished x count (proceed i r more))) → Claim i (pick c w nothing) (finished x count (proceed i (pick b r (refused 2)) more))
  tested x count i true true q w r more f = f tt
  tested x count i true false q w r more f = absurd (true≢false q)
  tested x count i false true q w r more f = absurd (false≢true q)
  tested x count i false false q w r more f = λ k. absurd (agreeing.short k)

  -- ## The records

  abbrev worked : Ending → ℕ → List (Value C) → List (Option Literal) → List Record → WorkedOut C
  worked = work_records aside contents

  last : (x : Ending) (count i : ℕ) (stack : List Expr) (vs : List (Value C)) (bare : List (Option Literal)) → kinds vs ≡ map value_type stack
      → Claim i (worked x i vs bare []) (finished x count (stack_of stack))
  last (unreadable f) count i stack vs bare q = λ k. absurd (agreeing.unread f k)
  last end count i [] vs bare q = λ k. absurd (agreeing.short k)
  last end count i (e ∷ []) [] bare q = absurd (cons-ne-nil _ _ (sym q))
  last end count i (e ∷ []) (v ∷ []) bare q = λ g. (tt, ap first_kind q)
    where
      first_kind : List Kind → Kind
      first_kind [] = v.kind
      first_kind (k ∷ ks) = k
  last end count i (e ∷ []) (v ∷ w ∷ vs) bare q = absurd (cons-ne-nil _ _ (ap tail q))
  last end count i (e ∷ x ∷ es) vs bare q = λ k. absurd (agreeing.short k)

  right : (x : Ending) (count : ℕ) (rs : List Record) (i : ℕ) (stack : List Expr) (vs : List (Value C)) (bare : List (Option Literal))
      → kinds vs ≡ map value_type stack → bare ≡ map scalar_value stack → T (all is_formed stack)
      → Claim i (worked x i vs bare rs) (finished x count (walk effect i stack rs))
  right x count [] i stack vs bare q₁ q₂ h = last x count i stack vs bare q₁
  right x count (r ∷ rs) i stack vs bare q₁ q₂ h =
      subst (λ (s : Result (List Expr)). Claim i (worked x i vs bare (r ∷ rs))
      (finished x count (proceed i s (λ s. walk effect (suc i) s rs)))) (sym (agreeing.takes r stack))
      (tested x count i (leb (operands r) (length stack)) (leb (operands r) (length vs)) (ap (leb (operands r)) lengths)
      (step_of (is_in_place r) is_aside asked rest)
      (pushed (drop (operands r) stack) (agreeing.tree r (operands_of (operands r) stack)))
      (λ s. walk effect (suc i) s rs)
      (λ enough.
      step x count i is_aside (is_in_place r) asked
      (kind_given r (operands_of (operands r) (kinds vs))) (bare_number r (operands_of (operands r) bare)) rest
      (drop (operands r) stack) rs (agreeing.tree r (operands_of (operands r) stack)) (seen enough)
      (λ e k b g.
      right x count rs (suc i) (e ∷ drop (operands r) stack) (put_back aside contents i r vs) (put_bare r bare)
      (ap₂ {C = List Kind} (λ x xs. x ∷ xs) k below-kinds)
      (ap₂ {C = List (Option Literal)} (λ x xs. x ∷ xs) b below-bare)
      (both (is_formed e) _ g (all_drop is_formed (operands r) stack h)))))
    where
      is_aside : Bool
      is_aside = aside r (operands_of (operands r) (kinds vs)) (operands_of (operands r) bare)

      asked : Bool
      asked = are_as_asked r (operands_of (operands r) (kinds vs))

      rest : WorkedOut C
      rest = worked x (suc i) (put_back aside contents i r vs) (put_bare r bare) rs

      lengths : length stack ≡ length vs
      lengths = sym (length-map stack value_type) ∙ sym (ap length q₁) ∙ length-map vs (λ v. v.kind)

      ks : operands_of (operands r) (kinds vs) ≡ map value_type (operands_of (operands r) stack)
      ks = ap (operands_of (operands r)) q₁ ∙ sym (map-operands_of value_type (operands r) stack)

      bs : operands_of (operands r) bare ≡ map scalar_value (operands_of (operands r) stack)
      bs = ap (operands_of (operands r)) q₂ ∙ sym (map-operands_of scalar_value (operands r) stack)

      below-kinds : kinds (drop (operands r) vs) ≡ map value_type (drop (operands r) stack)
      below-kinds = map-drop (λ v. v.kind) (operands r) vs ∙ ap (drop (operands r)) q₁ ∙ sym (map-drop value_type (operands r) stack)

      below-bare : drop (operands r) bare ≡ map scalar_value (drop (operands r) stack)
      below-bare = ap (drop (operands r)) q₂ ∙ sym (map-drop scalar_value (operands r) stack)

      Sees : List Kind → List (Option Literal) → Type 0
      Sees k b = ClaimFor for_kinds (not (aside r k b)) (is_in_place r) (are_as_asked r k) (kind_given r k)
          (bare_number r b) (agreeing.tree r (operands_of (operands r) stack))

      seen : T (leb (operands r) (length stack)) → Sees (operands_of (operands r) (kinds vs)) (operands_of (operands r) bare)
      seen enough =
          subst (λ k. Sees k (operands_of (operands r) bare)) (sym ks)
          (subst (λ b. Sees (map value_type (operands_of (operands r) stack)) b) (sym bs)
          (agreeing.claims r (operands_of (operands r) stack) (operands-length (operands r) stack enough)
          (all-operands_of is_formed (operands r) stack h)))

  -- ## The page

  -- the outcome, from the claim at record 0
  from_claim : (page : Records) (c : Checked Expr) → Claim 0 (work_page aside contents page) c
      → Says for_kinds (work_page aside contents page) (outcome_of c)
  from_claim page (accepted e n) f = f
  from_claim page (refused_at n j) f =
      λ k g. subst (λ (d : ℕ). MeetsFirst d steps) (same k) ((f k).2 (subst (λ (d : ℕ). T (nothing_set_aside (take d steps))) (sym (same k)) g))
    where
      steps : List Step
      steps = (work_page aside contents page).steps

      same : (k : T (any (eqb n) for_kinds)) → (f k).0 ≡ j
      same k = sym ((f k).1 ∙ add-zero (f k).0)

  pub says : (page : Records) → Says for_kinds (work_page aside contents page) (outcome_of (walk_page effect page))
  says page = from_claim page (walk_page effect page) (right page.ending (length page.records) page.records 0 [] [] [] refl refl tt)

-- ## Document 01's check

-- its kind refusals are among the added check's
among-documented : (n : ℕ) → T (any (eqb n) kind_refusals) → T (any (eqb n) documented_refusals)
among-documented n = either-right (eqb n 42) (any (eqb n) kind_refusals)

for-fewer : (o p a : Bool) (k : Kind) (l : Option Literal) (x : Result Expr) → ClaimFor documented_refusals o p a k l x
    → ClaimFor kind_refusals o p a k l x
for-fewer o p a k l (refused n) h = λ kind. h (among-documented n kind)
for-fewer o p a k l (ok e) h = h

pub unread-documented : (f : FieldFault) → T (any (eqb (fault_number f)) documented_refusals) → ⊥
unread-documented bad_field k = k
unread-documented past_limit k = k
unread-documented bad_text k = k

check-agrees : Agreeing is_set_aside kind_refusals apply
check-agrees =
    record {
      unread = λ f k. unread-documented f (among-documented (fault_number f) k);
      short = λ k. k;
      tree = tree_of;
      takes = apply-operands;
      claims = λ r es n h. for-fewer _ _ _ _ _ (tree_of r es) (record-claim r es n h);
    }

-- for every byte string, every type of contents and every contents
pub kinds_right_with : {C : Type 0} (contents : ℕ → C) (page : List ℕ) → KindsRightWith is_set_aside kind_refusals contents page (check page)
unfolding check_page
kinds_right_with contents page = says check-agrees contents (read_page page)
