-- How far the walk has come on a page, in terms of trees: the records passed made this stack, and what is left decides
-- the outcome.
use Prim.Native.Nat.{ℕ, suc, ◌+◌, ◌-◌, ◌≤◌, ◌<◌}
use mathlib.Core.Path.{◌≡◌, refl, sym, ap, subst, ◌∙◌}
use mathlib.Core.List.{List, [], ◌∷◌, map}
use native.Mathlib.Omega.{arith}
use native.Mathlib.Nat.{zero-add}
use borrow.Author.Tests.{le-leb, lt-leb}
use lib.ListN.{length, take, drop, length-drop, drop_of_length-le}
use Rattle.page.specs.Read.{FieldFault, fault_number, refused as refused_field, got}
use Rattle.float.proofs.ExactLaws.{of-got}
use Rattle.page.specs.Limits.{page_limit}
use Rattle.records.specs.Record.{Record, Records, read_record, read_records, read_page}
use Rattle.records.specs.Record as records
use Rattle.ast.specs.Refusal.{refused, ok}
use Rattle.ast.specs.Expr.{Expr, value_type}
use Rattle.ast.specs.Walk.{Walked, refused_at, proceed, at_end, finished, walk, stack_after}
use Rattle.ast.specs.Walk as ast
use Rattle.ast.specs.CheckPage.{apply, check_page}
use Rattle.ast.specs.Rules.{Rules, plain, apply_by, check_page_by}
use Rattle.ast.specs.Part.{from_record}
use Rattle.ast.specs.Tables.{entries, stack_at}
use Rattle.records.specs.Allowed.{IsAllowed}
use Rattle.records.proofs.AllowedLaws.{read_record-gives}
use Rattle.ast.proofs.RulesLaws.{ruled-passes, check_page_by-plain}
use Rattle.ast.proofs.SoundLaws.{AllSound, SoundStack, apply-sound}
use Rattle.ast.proofs.TablesLaws.{stands-next}
use Rattle.ast.proofs.WalkLaws.{onward, walk-append}
use Rattle.walk.proofs.FromLaws.{check_from, from_end, from-over, from-bad, from-refused, from_next, records-next, take_next, drop-next}

pub record Progress (rules : Rules) (page : List ℕ) (at count : ℕ) (stack : List Expr) : Type 0 where
  pub count-range : count ≤ 256
  pub at-range : at ≤ length page
  pub sound : AllSound stack
  -- the records that are left, and what they make of the stack
  pub left : drop count (read_page page).records ≡ (read_records (256 - count) (drop at page)).records
  pub rest : check_page_by rules page ≡ check_from rules (256 - count) count stack (drop at page)
  -- the records passed made the stack, as they do by document 01, and the next one stands here
  pub walked : stack_after apply count (read_page page) ≡ ast.stack stack
  pub stands : drop at page ≡ from_record count page

pub read_short : (page : List ℕ) → length page ≤ 8192 → read_page page ≡ read_records 256 page
unfolding read_page
read_short page h = rw (le-leb (length page) page_limit h)

-- a page too long
pub too-long-by : (rules : Rules) (page : List ℕ) → 8192 < length page → check_page_by rules page ≡ refused_at 3 0
unfolding check_page_by read_page
too-long-by rules page h = rw (lt-leb (length page) page_limit h)

pub too_long : (page : List ℕ) → 8192 < length page → check_page page ≡ refused_at 3 0
too_long page h = sym (check_page_by-plain page) ∙ too-long-by plain page h

from_start : (rules : Rules) (p : Records)
    → finished p.ending (length p.records) (walk (apply_by rules) 0 [] p.records)
    ≡ finished p.ending (0 + length p.records) (walk (apply_by rules) 0 [] p.records)
from_start rules p = ap (λ (n : ℕ). finished p.ending n (walk (apply_by rules) 0 [] p.records)) (sym (zero-add (length p.records)))

pub progress_start : (rules : Rules) (page : List ℕ) → length page ≤ 8192 → Progress rules page 0 0 []
unfolding check_page_by
progress_start rules page h = record {
  count-range = omega arith;
  at-range = omega arith;
  sound = tt;
  left = ap (λ (p : Records). p.records) (read_short page h);
  rest = rw (read_short page h) (from_start rules (read_records 256 page));
  walked = refl;
  stands = refl;
}

module _ {rules : Rules} {page : List ℕ} {at count : ℕ} {stack : List Expr} (progress : Progress rules page at count stack) where
  pub at-stack : stack_at page count ≡ stack
  unfolding stack_at
  at-stack = ap entries progress.walked

  -- ## The page's end

  pub progress-end : length page ≤ at → check_page_by rules page ≡ at_end records.end count stack
  progress-end h = progress.rest ∙ rw (drop_of_length-le page {i = at} h) (from_end rules (256 - count) count stack)

  -- ## A record is left

  module _ (more : at < length page) where
    some_bytes : 0 < length (drop at page)
    some_bytes = rw (length-drop at page) (omega arith)

    pub progress-over : count ≡ 256 → check_page_by rules page ≡ refused_at 3 count
    progress-over e =
        let z : 256 - count ≡ 0 = omega arith in
        progress.rest ∙ rw z (from-over rules count stack (drop at page) some_bytes)

    module _ (few : count ≡ 256 → ⊥) where
      fuel : 256 - count ≡ suc (256 - suc count)
      fuel = omega (arith, progress.count-range)

      pub progress-bad : (f : FieldFault) → refused_field f ≡ read_record (drop at page) → check_page_by rules page ≡ refused_at (fault_number f) count
      progress-bad f e = progress.rest ∙ rw fuel (from-bad rules (256 - suc count) count stack (drop at page) f some_bytes e)

      module _ {r : Record} (next : ℕ) (read : got r (drop next page) ≡ read_record (drop at page)) where
        pub progress-refused : {n : ℕ} → apply_by rules r stack ≡ refused n → check_page_by rules page ≡ refused_at n count
        progress-refused {n} e = progress.rest ∙ rw fuel (from-refused rules (256 - suc count) count stack (drop at page) n some_bytes read e)

        module _ (inside : next ≤ length page) (after : List Expr) (passes : apply_by rules r stack ≡ ok after) where
          applies : apply r stack ≡ ok after
          applies = (ruled-passes rules r (map value_type stack) (apply r stack) after passes).passes

          one : drop count (read_page page).records ≡ r ∷ (read_records (256 - suc count) (drop next page)).records
          one = progress.left ∙ rw fuel (records-next (256 - suc count) (drop at page) some_bytes read)

          walked_next : stack_after apply (suc count) (read_page page) ≡ ast.stack after
          walked_next =
              ap (walk apply 0 []) (take_next (read_page page).records count one)
              ∙ walk-append apply (take count (read_page page).records) (r ∷ []) 0 []
              ∙ ap {B = Walked Expr} (λ w. onward apply w (λ t. walk apply (0 + length (take count (read_page page).records)) t (r ∷ []))) progress.walked
              ∙ ap {B = Walked Expr} (λ m. proceed (0 + length (take count (read_page page).records)) m (λ t. ast.stack t)) applies

          pub progress-next : Progress rules page next (suc count) after
          progress-next = record {
            count-range = omega (arith, progress.count-range, few);
            at-range = inside;
            sound = subst SoundStack applies
                (apply-sound r stack
                (of-got IsAllowed (read_record (drop at page)) read (read_record-gives.gives (drop at page)))
                progress.sound);
            left = drop-next (read_page page).records count one;
            rest = progress.rest ∙ rw fuel (from_next rules (256 - suc count) count stack (drop at page) after some_bytes read passes);
            walked = walked_next;
            stands = stands-next page at next count progress.stands read;
          }
