-- Demand 1 for the three calls that write (`check` writes nothing: `CheckLaws.check-in`). Assumes nothing.
use Prim.Native.Nat.{ℕ, ◌+◌, ◌-◌, ◌≤◌}
use mathlib.Core.Path.{◌≡◌, refl, ap, ◌∙◌}
use mathlib.Core.Bool.{Bool, true, false, ◌||◌, not}
use mathlib.Core.List.{List, [], ◌∷◌, ◌++◌}
use native.Mathlib.Omega.{arith}
use borrow.Author.Tests.{leb-true}
use lib.ListN.{length, drop, length-append, length-drop}
use lib.Dec.{T, leb, eqb, leb→le, eqb→eq}
use Rattle.page.specs.Bytes.{pick, all, any}
use Rattle.page.specs.Limits.{record_limit}
use Rattle.page.proofs.NumberLaws.{left-of, right_of}
use Rattle.records.specs.Kind.{Kind}
use Rattle.records.specs.Outcome.{answer, refusal}
use Rattle.ast.specs.Expr.{Expr, value_type}
use Rattle.ast.specs.Walk.{Checked, accepted, refused_at}
use Rattle.ast.specs.CheckPage.{check_page, outcome_of}
use Rattle.ast.specs.Table.{table_numbers, is_in_table, record_count, InTable}
use Rattle.ast.proofs.CheckLaws.{CheckedIn, check_page-in}
use Rattle.ast.proofs.WalkLaws.{page-limit}
use Rattle.copy.specs.Copy.{copy_page}
use Rattle.text.specs.Display.{display}
use Rattle.text.specs.Pretty.{prettify}
use Rattle.outcomes.specs.Calls.{Called, too_short, written, writing, copy, canonical_text, split_text}
use Rattle.outcomes.specs.Demand1.{Keeps, Agrees, Demand1}

abbrev pub KeepsCalled : List ℕ → Called → Type 0
KeepsCalled before c = Keeps before c.outcome c.buffer

-- ## written

-- where the text fits, and where it does not
abbrev pub chosen : Kind → ℕ → List ℕ → List ℕ → Bool → Called
chosen k records text buffer b =
    pick b (record { outcome = answer k (length text); buffer = text ++ drop (length text) buffer })
    (record { outcome = refusal too_short records; buffer = buffer })

drop-written : (text rest : List ℕ) → drop (length text) (text ++ rest) ≡ rest
drop-written [] rest = refl
drop-written (b ∷ text) rest = drop-written text rest

length-written : (text buffer : List ℕ) → length text ≤ length buffer → length (text ++ drop (length text) buffer) ≡ length buffer
length-written text buffer h = length-append text (drop (length text) buffer) ∙ ap (λ (n : ℕ). length text + n) (length-drop (length text) buffer) ∙ whole h
  where
    whole : length text ≤ length buffer → length text + (length buffer - length text) ≡ length buffer
    whole g = omega arith

pub written_keeps : (k : Kind) (records : ℕ) (text buffer : List ℕ) → KeepsCalled buffer (written k records text buffer)
written_keeps k records text buffer = by (leb (length text) (length buffer)) refl
  where
    by : (b : Bool) → leb (length text) (length buffer) ≡ b
        → KeepsCalled buffer (chosen k records text buffer b)
    by true e =
        let fits : length text ≤ length buffer = leb-true (length text) (length buffer) e in
        (length-written text buffer fits, fits, drop-written text (drop (length text) buffer))
    by false e = refl

written-agrees : (k : Kind) (records : ℕ) (text buffer : List ℕ) → Agrees (answer k 0) (written k records text buffer).outcome
written-agrees k records text buffer = by (leb (length text) (length buffer))
  where
    by : (b : Bool) → Agrees (answer k 0) (chosen k records text buffer b).outcome
    by true = refl
    by false = refl

written_in : (page : List ℕ) (k : Kind) (records : ℕ) (text buffer : List ℕ) → records ≤ record_count page
    → InTable is_in_table page (written k records text buffer).outcome
written_in page k records text buffer h = by (leb (length text) (length buffer))
  where
    by : (b : Bool) → InTable is_in_table page (chosen k records text buffer b).outcome
    by true = tt
    by false = (tt, h)

-- ## writing

module _ (text_of : Expr → List ℕ) where
  writing-keeps : (c : Checked Expr) (buffer : List ℕ) → KeepsCalled buffer (writing text_of c buffer)
  writing-keeps (accepted e n) buffer = written_keeps (value_type e) n (text_of e) buffer
  writing-keeps (refused_at n i) buffer = refl

  writing-agrees : (c : Checked Expr) (buffer : List ℕ) → Agrees (outcome_of c) (writing text_of c buffer).outcome
  writing-agrees (accepted e n) buffer = written-agrees (value_type e) n (text_of e) buffer
  writing-agrees (refused_at n i) buffer = (refl, refl)

  writing-in : (page : List ℕ) (c : Checked Expr) → CheckedIn (record_count page) c → (buffer : List ℕ)
      → InTable is_in_table page (writing text_of c buffer).outcome
  writing-in page (accepted e n) g buffer = written_in page (value_type e) n (text_of e) buffer (at_most g)
    where
      at_most : n ≡ record_count page → n ≤ record_count page
      at_most q = omega arith
  writing-in page (refused_at n i) g buffer = (left-of (is_in_table n) (not (eqb n 5)) g.0, g.1)

writing-demand1 : (page : List ℕ) (text_of : Expr → List ℕ) → Demand1 page (λ page buffer. writing text_of (check_page page) buffer)
writing-demand1 page text_of =
    record {
      keeps = writing-keeps text_of (check_page page);
      agrees = writing-agrees text_of (check_page page);
      in_table = writing-in text_of page (check_page page) (check_page-in page);
    }

-- ## The calls

-- a number among some of one byte each
pub among-small : (ns : List ℕ) → T (all (λ m. leb m 255) ns) → (n : ℕ) → T (any (eqb n) ns) → n ≤ 255
among-small [] g n h = absurd h
among-small (m ∷ ns) g n h = by (eqb n m) (eqb→eq n m) (leb→le m 255 (left-of (leb m 255) (all (λ m. leb m 255) ns) g))
    (among-small ns (right_of (leb m 255) (all (λ m. leb m 255) ns) g) n) h
  where
    by : (b : Bool) → (T b → n ≡ m) → m ≤ 255 → (T (any (eqb n) ns) → n ≤ 255) → T (b || any (eqb n) ns) → n ≤ 255
    by true e l others h = omega (arith, e tt)
    by false e l others h = others h

-- every number of the table has one byte
pub is_in_table-small : (n : ℕ) → T (is_in_table n) → n ≤ 255
is_in_table-small = among-small table_numbers tt

-- and its record is at most the limit of records
pub in_table-record : (test : ℕ → Bool) (page : List ℕ) (n i : ℕ) → InTable test page (refusal n i) → i ≤ record_limit
in_table-record test page n i h = within h.1 (page-limit page)
  where
    within : i ≤ record_count page → record_count page ≤ record_limit → i ≤ record_limit
    within g l = omega arith

pub copy-demand1 : (page : List ℕ) → Demand1 page copy
copy-demand1 page =
    record {
      keeps = writing-keeps (λ e. copy_page page) (check_page page);
      agrees = writing-agrees (λ e. copy_page page) (check_page page);
      in_table = writing-in (λ e. copy_page page) page (check_page page) (check_page-in page);
    }

pub canonical_text-demand1 : (page : List ℕ) → Demand1 page canonical_text
canonical_text-demand1 page = writing-demand1 page display

pub split_text-demand1 : (page : List ℕ) → Demand1 page split_text
split_text-demand1 page = writing-demand1 page prettify
