-- A working-out that leaves values has run to the page's end: the page could be read to its end, and each record is a
-- step. So "runs to the page's end" of demand 3 is what `left` says. By induction on the records. Assumes nothing.
use Prim.Native.Nat.{ℕ, suc}
use mathlib.Core.Path.{◌≡◌, refl, ap}
use mathlib.Core.Bool.{Bool, true, false}
use mathlib.Core.List.{List, [], ◌∷◌}
use mathlib.Core.Option.{Option}
use native.Mathlib.Omega.{arith}
use lib.ListN.{length}
use lib.Dec.{leb}
use Rattle.page.specs.Bytes.{pick}
use Rattle.records.specs.Kind.{Kind}
use Rattle.records.specs.Literal.{Literal}
use Rattle.records.specs.Record.{Record, operands, Ending, end, unreadable, Records}
use Rattle.records.specs.Stack.{operands_of}
use Rattle.working_out.specs.Asked.{are_as_asked, is_in_place}
use Rattle.working_out.specs.WorkingOut.{Value, left, ended, WorkedOut, kinds, step_of, put_back, put_bare, work_records, work_page}

module _ {C : Type 0} (aside : Record → List Kind → List (Option Literal) → Bool) (contents : ℕ → C) where
  abbrev RanToEnd : Ending → List Record → WorkedOut C → Type 0
  RanToEnd e rs w = (vs : List (Value C)) → w.finish ≡ left vs → (e ≡ end) × (length w.steps ≡ length rs)

  never : {B : Type 0} (vs : List (Value C)) → ended ≡ left vs → B
  never vs q = absurd (let z : ◌≡◌ {A = ℕ} 0 1 = cc in omega arith)

  last : (e : Ending) (i : ℕ) (stack : List (Value C)) (bare : List (Option Literal)) → RanToEnd e [] (work_records aside contents e i stack bare [])
  last end i stack bare vs q = (refl, refl)
  last (unreadable f) i stack bare vs q = never vs q

  -- a record in front: in place or not, with its operands or not
  step : (e : Ending) (r : Record) (rs : List Record) (more : WorkedOut C) → RanToEnd e rs more → (enough in_place is_aside asked : Bool)
      → RanToEnd e (r ∷ rs) (pick enough (step_of in_place is_aside asked more) (record { steps = []; finish = ended }))
  step e r rs more h true true is_aside asked vs q = ((h vs q).0, ap suc (h vs q).1)
  step e r rs more h true false is_aside asked vs q = never vs q
  step e r rs more h false in_place is_aside asked vs q = never vs q

  pub work_records-left : (e : Ending) (rs : List Record) (i : ℕ) (stack : List (Value C))
      (bare : List (Option Literal)) → RanToEnd e rs (work_records aside contents e i stack bare rs)
  work_records-left e [] i stack bare = last e i stack bare
  work_records-left e (r ∷ rs) i stack bare =
      step e r rs (work_records aside contents e (suc i) (put_back aside contents i r stack) (put_bare r bare) rs)
      (work_records-left e rs (suc i) (put_back aside contents i r stack) (put_bare r bare)) (leb (operands r) (length stack)) (is_in_place r)
      (aside r (operands_of (operands r) (kinds stack)) (operands_of (operands r) bare)) (are_as_asked r (operands_of (operands r) (kinds stack)))

  -- of a page whose working-out leaves values
  pub work_page-left : (page : Records) (vs : List (Value C)) → (work_page aside contents page).finish ≡ left vs
      → (page.ending ≡ end) × (length (work_page aside contents page).steps ≡ length page.records)
  work_page-left page vs q = work_records-left page.ending page.records 0 [] [] vs q
