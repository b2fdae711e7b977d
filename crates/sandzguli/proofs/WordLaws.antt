-- The words of outcomes fit 64 bits. Assumes nothing.
use Prim.Native.Nat.{ℕ, ◌≤◌}
use native.Mathlib.Omega.{arith}
use mathlib.Core.Bool.{Bool, true, false, ◌&&◌, ◌||◌, not}
use mathlib.Core.List.{List}
use lib.Dec.{T, eqb, eqb→eq}
use Rattle.page.specs.Limits.{record_limit}
use Rattle.page.specs.Text.{Text}
use Rattle.page.proofs.NumberLaws.{left-of}
use Rattle.records.specs.Kind.{Kind, vector, scalar, matrix, string, kind_number}
use Rattle.records.specs.Signature.{Function}
use Rattle.records.specs.Outcome.{Outcome, answer, refusal}
use Rattle.ast.specs.CheckPage.{check}
use Rattle.ast.specs.Table.{is_in_table, is_of_check, InTable}
use Rattle.ast.specs.Limits.{check_operators, is_of_operators}
use Rattle.ast.proofs.CheckLaws.{check-in}
use Rattle.ast.proofs.LimitLaws.{limit-in}
use Rattle.functions.specs.Functions.{functions}
use Rattle.functions.specs.Lookup.{check_table, check_table_of, is_of_table}
use Rattle.functions.proofs.CheckTableLaws.{none_bare, functions-kinded, table_of-in}
use Rattle.outcomes.specs.Calls.{Called}
use Rattle.outcomes.specs.Demand1.{Demand1}
use Rattle.outcomes.specs.Signature.{signature, signature_numbers, OfSignature}
use Rattle.outcomes.proofs.CallsLaws.{among-small, is_in_table-small, in_table-record}
use Rattle.outcomes.proofs.SignatureLaws.{signature_in-of}
use Rattle.sandzguli.specs.Words.{FitsWord}

pub kind_number-small : (k : Kind) → kind_number k ≤ 3
kind_number-small vector = omega arith
kind_number-small scalar = omega arith
kind_number-small matrix = omega arith
kind_number-small string = omega arith

-- a refusal fits its word, where its number passes a test that only bytes pass
fits : (test : ℕ → Bool) → ((n : ℕ) → T (test n) → n ≤ 255) → (page : List ℕ) (o : Outcome) → InTable test page o → FitsWord o
fits test small page (answer k n) h = tt
fits test small page (refusal n i) h = (small n h.0, within (in_table-record test page n i h))
  where
    within : i ≤ record_limit → i ≤ 65535
    within l = omega arith

-- so does what a call that writes answers
pub demand1-fits : (page : List ℕ) (call : List ℕ → List ℕ → Called) → Demand1 page call → (buffer : List ℕ) → FitsWord (call page buffer).outcome
demand1-fits page call d buffer = fits is_in_table is_in_table-small page (call page buffer).outcome (d.in_table buffer)

-- and what the check answers
of_check-small : (n : ℕ) → T (is_of_check n) → n ≤ 255
of_check-small n h = is_in_table-small n (left-of (is_in_table n) (not (eqb n 5)) h)

pub check-fits : (page : List ℕ) → FitsWord (check page)
check-fits page = fits is_of_check of_check-small page (check page) (check-in page)

-- one number more
or-small : (n m : ℕ) (test : Bool) → (T test → n ≤ 255) → m ≤ 255 → T (test || eqb n m) → n ≤ 255
or-small n m true small h t = small tt
or-small n m false small h t = omega (arith, eqb→eq n m t)

-- and what the check with a table answers
pub check_table_of-fits : (table : List Function) → T (none_bare table) → (page : List ℕ) → FitsWord (check_table_of table page)
check_table_of-fits table kinded page =
    fits is_of_table small page (check_table_of table page) (table_of-in table kinded page)
  where
    small : (n : ℕ) → T (is_of_table n) → n ≤ 255
    small n =
        or-small n 38 ((is_of_check n && not (eqb n 29)) || eqb n 37)
        (or-small n 37 (is_of_check n && not (eqb n 29)) (λ t. of_check-small n (left-of (is_of_check n) (not (eqb n 29)) t)) (omega arith))
        (omega arith)

-- and what the check with the function table answers
pub check_table-fits : (page : List ℕ) → FitsWord (check_table page)
check_table-fits = check_table_of-fits functions functions-kinded

-- and what the check that follows the operators document answers
pub check_operators-fits : (page : List ℕ) → FitsWord (check_operators page)
check_operators-fits page =
    fits is_of_operators (λ n. or-small n 42 (is_of_check n) (of_check-small n) (omega arith)) page (check_operators page) (limit-in page)

-- and what the call that writes a signature answers
pub signature-fits : (name : Text) (buffer : List ℕ) → FitsWord (signature name buffer).outcome
signature-fits name buffer = by (signature name buffer).outcome (signature_in-of functions name buffer)
  where
    by : (o : Outcome) → OfSignature o → FitsWord o
    by (answer k n) h = tt
    by (refusal n i) h = (among-small signature_numbers tt n h.0, omega (arith, h.1))
