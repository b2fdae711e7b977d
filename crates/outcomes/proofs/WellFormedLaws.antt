-- The bytes that the calls on texts report are well-formed UTF-8, since the tree of an accepted page is the one that
-- its last record ends. Assumes nothing.
use Prim.Native.Nat.{ℕ}
use mathlib.Core.Path.{◌≡◌, refl, ap, subst, ◌∙◌}
use mathlib.Core.Bool.{Bool, true, false}
use mathlib.Core.List.{List, [], ◌∷◌, ◌++◌}
use native.Mathlib.Omega.{arith}
use lib.ListN.{length, take, drop}
use lib.Seq.{take_all}
use lib.Dec.{T, leb}
use Rattle.page.specs.Bytes.{pick}
use Rattle.page.specs.Limits.{record_limit}
use Rattle.page.specs.Text.{is_text}
use Rattle.records.specs.Kind.{Kind}
use Rattle.records.specs.Outcome.{answer, refusal}
use Rattle.records.specs.Record.{read_page}
use Rattle.ast.specs.Expr.{Expr, value_type}
use Rattle.ast.specs.Walk.{Walked, walk, Checked, accepted, refused_at}
use Rattle.ast.specs.CheckPage.{apply, check_page}
use Rattle.ast.specs.Tables.{entries, newest, stack_at, tree_at}
use Rattle.ast.proofs.WalkLaws.{page-limit}
use Rattle.copy.proofs.CopyLaws.{accepted-walks}
use Rattle.text.specs.Display.{display}
use Rattle.text.specs.Pretty.{prettify}
use Rattle.text.proofs.WellFormedLaws.{display-utf8, pretty-utf8}
use Rattle.outcomes.specs.Calls.{Called, too_short, written, writing, canonical_text, split_text}

-- ## The tree of an accepted page

-- after 256 records, or all that there are, it stands alone
pub last-tree : (page : List ℕ) {e : Expr} {n : ℕ} → check_page page ≡ accepted e n → tree_at page 255 ≡ e
unfolding check_page tree_at stack_at
last-tree page {e} {n} h =
    ap (λ (w : Walked Expr). newest (entries w))
    (ap (walk apply 0 []) (take_all record_limit (read_page page).records (page-limit page))
    ∙ (accepted-walks (read_page page) e n h).1)

-- ## What is written

take-written : (text rest : List ℕ) → take (length text) (text ++ rest) ≡ text
take-written [] rest = refl
take-written (b ∷ text) rest = ap (λ (t : List ℕ). b ∷ t) (take-written text rest)

-- a call that reports n bytes reports a well-formed text
abbrev Reports : Called → Type 0
Reports c = (k : Kind) (n : ℕ) → c.outcome ≡ answer k n → T (is_text (take n c.buffer))

written-reports : (kind : Kind) (records : ℕ) (text buffer : List ℕ) → T (is_text text)
    → Reports (written kind records text buffer)
written-reports kind records text buffer h = by (leb (length text) (length buffer))
  where
    whole : (n : ℕ) → n ≡ length text → T (is_text (take n (text ++ drop (length text) buffer)))
    whole n e = rw (e, take-written text (drop (length text) buffer)) h

    by : (b : Bool) → Reports (
        pick b (record { outcome = answer kind (length text); buffer = text ++ drop (length text) buffer })
        (record { outcome = refusal too_short records; buffer = buffer })
        )
    by true k n e = whole n cc
    by false k n e = absurd (let z : ◌≡◌ {A = ℕ} 0 1 = cc in omega arith)

module _ (text_of : Expr → List ℕ) (page buffer : List ℕ)
    (well_formed : (e : Expr) (n : ℕ) → check_page page ≡ accepted e n → T (is_text (text_of e))) where
  writing-reports : Reports (writing text_of (check_page page) buffer)
  writing-reports = by (check_page page) refl
    where
      by : (c : Checked Expr) → check_page page ≡ c → Reports (writing text_of c buffer)
      by (accepted e n) is = written-reports (value_type e) n (text_of e) buffer (well_formed e n is)
      by (refused_at m i) is = λ k n e. absurd (never k n e)
        where
          never : (k : Kind) (n : ℕ) → refusal m i ≡ answer k n → ⊥
          never k n e = let z : ◌≡◌ {A = ℕ} 0 1 = cc in omega arith

-- ## The calls

pub canonical_text-utf8 : (page buffer : List ℕ) (k : Kind) (n : ℕ) → (canonical_text page buffer).outcome ≡ answer k n
    → T (is_text (take n (canonical_text page buffer).buffer))
canonical_text-utf8 page buffer =
    writing-reports display page buffer
    (λ e n is. subst (λ (x : Expr). T (is_text (display x))) (last-tree page is) (display-utf8 page 255))

pub split_text-utf8 : (page buffer : List ℕ) (k : Kind) (n : ℕ) → (split_text page buffer).outcome ≡ answer k n
    → T (is_text (take n (split_text page buffer).buffer))
split_text-utf8 page buffer =
    writing-reports prettify page buffer
    (λ e n is. subst (λ (x : Expr). T (is_text (prettify x))) (last-tree page is) (pretty-utf8 page 255 0))
